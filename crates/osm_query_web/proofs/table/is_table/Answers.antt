-- What is true of the table is true of what is left of it.
use Rattle.std.proofs.Common.{◌+◌, ◌↔◌, ℕ, arith, eq-eqb, eqb-true, refl, subst, sym}
use Rattle.std.proofs.lemmas.Bool.{false≢true}
use Rattle.osm_query_web.specs.Pieces.{IsTable}
use Rattle.osm_query_web.proofs.TableLemmas.{IsRest, ended, first_stands, one_less}
use Rattle.osm_query_web.proofs.table.is_table.Goals as goal

pub returns-then-not-may_stand : goal.returns-then-not-may_stand
returns-then-not-may_stand c =
    let split = c.in-Some.ensures in (
      (λ yes. absurd (false≢true yes)),
      (λ table. c.if-not-may_stand.ensures.1
          (first_stands c.args.size c.args.len c.loop-span.least c.loop-span.taken c.loop-span.left.now c.in-Some.rest.now c.in-Some.span split.0 split.1 split.2 (c.loop-span.invariant.same.1 table))),
    )

pub loop-span-preserved : goal.loop-span-preserved
loop-span-preserved c =
    let split = c.in-Some.ensures in
    let stands = c.if-not-may_stand.ensures.0 refl in
    let less = one_less c.args.size c.args.len c.loop-span.least c.loop-span.taken c.loop-span.left.now c.in-Some.rest.now c.in-Some.span split.0 split.1 split.2 (omega arith) stands in
    let least_is = sym c.saturating_add-least.ensures in
    let taken = c.loop-span.taken + c.in-Some.span.len in
    record {
      below = omega (arith, stands.0, stands.1, stands.2);
      same = subst (λ (least : ℕ). IsRest c.args.size c.args.len least taken c.in-Some.rest.now ↔ IsTable c.args.size c.args.len c.args.table.now) least_is
          ((λ after. c.loop-span.invariant.same.0 (less.0 after)), (λ table. less.1 (c.loop-span.invariant.same.1 table)));
    }

pub returns-then-is_empty : goal.returns-then-is_empty
returns-then-is_empty c =
    let end = ended c.args.size c.args.len c.loop-span.least c.loop-span.taken c.loop-span.left.now c.in_default.ensures in (
      (λ yes. c.loop-span.invariant.same.0 (end.1 (eqb-true _ _ (sym c.if-is_empty.ensures), eqb-true _ _ yes))),
      (λ table. eq-eqb _ _ (end.0 (c.loop-span.invariant.same.1 table)).1),
    )
