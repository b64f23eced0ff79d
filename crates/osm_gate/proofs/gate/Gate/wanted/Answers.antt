use Rattle.std.proofs.Common.{◌≡◌, ◌∙◌, ◌-◌, ◌<◌, ◌≤◌, ℕ, List, [], ap, arith, length, rules, subst, sym}
use Rattle.osm_gate.specs.Connections.{Rest, requests_next}
use Rattle.osm_gate.specs.Pieces.{CompletesOne, IsCut, IsWanted}
use Rattle.osm_gate.specs.internal.Kept.{ends_in_break}
use Rattle.osm_gate.proofs.OneRequest.{byte-fewer, head-one, missing-fewer, missing-one, shorter-next}
use Rattle.osm_gate.proofs.gate.Gate.wanted.Goals as goal

pub returns-then-self-gt0-clause-fewer : goal.returns-then-self-gt0-clause-fewer
returns-then-self-gt0-clause-fewer c =
    let missing = missing-fewer c.self.inside.is_closed c.self.inside.needed c.self.inside.rest.items c.self.invariant.is_open (c.self.inside.needed - c.len.result) (search rules) in
    subst (λ (r : Rest). (piece : List ℕ) → length piece < c.self.inside.needed - c.len.result → (requests_next r piece).complete ≡ []) c.self.view_is missing

pub returns-then-self-gt0-clause-one : goal.returns-then-self-gt0-clause-one
returns-then-self-gt0-clause-one c =
    let missing = missing-one c.self.inside.is_closed c.self.inside.needed c.self.inside.rest.items c.self.invariant.is_open (c.self.inside.needed - c.len.result) (search rules) c.if-self-gt0.true in
    subst (λ (r : Rest). (piece : List ℕ) → IsWanted (c.self.inside.needed - c.len.result) piece → CompletesOne r piece) c.self.view_is missing

pub returns-then-ends_in_break-clause-one : goal.returns-then-ends_in_break-clause-one
returns-then-ends_in_break-clause-one c =
    let kept : Rest = record { is_closed = c.self.inside.is_closed; bytes = c.self.inside.rest.items } in
    let one = shorter-next kept 1 (omega arith) (byte-fewer c.self.inside.is_closed c.self.inside.needed c.self.inside.rest.items c.self.invariant.is_open) in
    subst (λ (r : Rest). (piece : List ℕ) → length piece ≤ 1 → CompletesOne r piece) c.self.view_is one

pub returns-else-ends_in_break-clause-one : goal.returns-else-ends_in_break-clause-one
returns-else-ends_in_break-clause-one c =
    let one = head-one c.self.inside.is_closed c.self.inside.needed c.self.inside.rest.items c.self.invariant.is_open (omega (arith, c.if-self-gt0.false))
    (sym (ap ends_in_break c.deref.ensures.value) ∙ sym c.ends_in_break.ensures ∙ c.if-ends_in_break.false) in
    subst (λ (r : Rest). (piece : List ℕ) → IsCut piece → CompletesOne r piece) c.self.view_is one
