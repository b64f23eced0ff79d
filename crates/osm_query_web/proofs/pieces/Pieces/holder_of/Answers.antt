-- The search finds how many pieces begin where the span does, or before.
use Rattle.std.proofs.Common.{◌≡◌, ◌∙◌, rules, ◌-◌, Bool, true, false, List, ap, arith, get_or, refl, subst, sym, ℕ, Option}
use Rattle.std.proofs.lemmas.Bool.{false≢true}
use Rattle.std.proofs.lemmas.List.Sorted.{IsPartitionPoint-from_clause}
use Rattle.std.specs.Bool.{then_some}
use Rattle.std.specs.Option.{IfNone}
use Rattle.osm_query_web.proofs.PieceLemmas.{IsBegun, begins_by, begun_first, missing_if}
use Rattle.osm_query_web.specs.Pieces.{IsMissing}
use Rattle.osm_query_web.specs.Spans.{Has}
use Rattle.osm_query_web.specs.declared.piece.Piece.{Piece}
use Rattle.osm_query_web.proofs.pieces.Pieces.holder_of.Goals as goal

-- a value that is there if a test holds is absent only where it doesn't
if_absent : (test : Bool) (piece : Piece) (P : Type 0) → (test ≡ false → P) → IfNone (then_some test piece) P
if_absent true piece P fails = tt
if_absent false piece P fails = fails refl

pub returns-in_err-checked_sub-clause-missing : goal.returns-in_err-checked_sub-clause-missing
returns-in_err-checked_sub-clause-missing c spans are =
    let pieces = c.args.self.now in
    let wanted = c.args.wanted in
    let list = c.deref.result.now in
    let count = c.partition_point-count.result in
    let begun : IsBegun wanted.start list count =
    IsPartitionPoint-from_clause (begins_by wanted.start) list count c.partition_point-count.ensures.partitioned (begun_first spans pieces list wanted.start are c.deref.ensures.value) (λ a r f called. search rules) in
    let missing = missing_if spans pieces wanted list count are c.deref.ensures.value begun c.partition_point-count.ensures.bound (λ d some. absurd (omega (arith, c.in_err-checked_sub.ensures))) in
    subst (λ (holder : Option Piece). IfNone holder (IsMissing spans wanted)) (sym c.from_residual.ensures) missing

pub returns-clause-missing : goal.returns-clause-missing
returns-clause-missing c spans are =
    let pieces = c.args.self.now in
    let wanted = c.args.wanted in
    let list = c.deref.result.now in
    let count = c.partition_point-count.result in
    let begun : IsBegun wanted.start list count =
    IsPartitionPoint-from_clause (begins_by wanted.start) list count c.partition_point-count.ensures.partitioned (begun_first spans pieces list wanted.start are c.deref.ensures.value) (λ a r f called. search rules) in
    let piece = c.in_ok-piece.field-0.now in
    let there : (d : Piece) → piece ≡ get_or pieces.pieces.items (count - 1) d =
    λ d. c.in_ok-piece.ensures.lookup.3.1 d ∙ ap (λ (l : List Piece). get_or l c.in_ok-checked_sub.field-0 d) c.deref-2.ensures.value ∙ ap (λ (n : ℕ). get_or pieces.pieces.items n d) c.in_ok-checked_sub.ensures.1 in
    let missing : c.has.result ≡ false → IsMissing spans wanted =
    λ fails. missing_if spans pieces wanted list count are c.deref.ensures.value begun c.partition_point-count.ensures.bound
    (λ d some has. false≢true (sym fails ∙ c.has.ensures.1 (subst (λ (p : Piece). Has p.span wanted) (sym (there d)) has))) in
    subst (λ (holder : Option Piece). IfNone holder (IsMissing spans wanted)) (sym c.then_some.ensures) (if_absent c.has.result piece (IsMissing spans wanted) missing)
