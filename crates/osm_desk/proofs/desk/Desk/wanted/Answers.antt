use Rattle.std.proofs.Common.{◌≡◌, ◌∙◌, ◌<◌, ℕ, List, [], ap, length, subst, sym, arith}
use Rattle.std.specs.Option.{option_copied}
use Rattle.osm_gate.specs.Connections.{Rest, requests_next}
use Rattle.osm_gate.specs.Pieces.{CompletesOne, IsWanted}
use Rattle.osm_desk.specs.OneConnection.{rest_if}
use Rattle.osm_desk.proofs.TableLemmas.{found}
use Rattle.osm_desk.proofs.desk.Desk.wanted.Goals as goal

pub returns-in-Some-clause-fewer : goal.returns-in-Some-clause-fewer
returns-in-Some-clause-fewer g c =
    let some = ap rest_if (found _ c.self.inside.mirror c.self.inside.gates c.self.view_is c.args.number ∙ sym c.get.ensures.value ∙ ap option_copied c.in-Some.is) in
    subst (λ (r : Rest). (piece : List ℕ) → length piece < c.wanted.result → (requests_next r piece).complete ≡ []) (sym some) c.wanted.ensures.fewer

pub returns-in-Some-clause-one : goal.returns-in-Some-clause-one
returns-in-Some-clause-one g c =
    let some = ap rest_if (found _ c.self.inside.mirror c.self.inside.gates c.self.view_is c.args.number ∙ sym c.get.ensures.value ∙ ap option_copied c.in-Some.is) in
    subst (λ (r : Rest). (piece : List ℕ) → IsWanted c.wanted.result piece → CompletesOne r piece) (sym some) c.wanted.ensures.one

pub returns-in-None-clause-fewer : goal.returns-in-None-clause-fewer
returns-in-None-clause-fewer g c = λ piece short. absurd (omega arith)

pub returns-in-None-clause-one : goal.returns-in-None-clause-one
returns-in-None-clause-one g c = λ piece wanted.
    let none = ap rest_if (found _ c.self.inside.mirror c.self.inside.gates c.self.view_is c.args.number ∙ sym c.get.ensures.value ∙ ap option_copied c.in-None.is) in
    subst (λ (r : Rest). CompletesOne r piece) (sym none) (omega arith)
