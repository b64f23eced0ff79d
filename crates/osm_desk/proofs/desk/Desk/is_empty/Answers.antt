use Rattle.std.proofs.Common.{ap, sym, ◌∙◌}
use Rattle.std.proofs.lemmas.Bool.{eq-eqb, eqb-true}
use Rattle.std.specs.FinMap.{empty_of_len, len, len-empty}
use Rattle.std.specs.Ordering.{nat_cmp}
use Rattle.osm_gate.specs.Connections.{Rest}
use Rattle.osm_desk.specs.Desks.{Connections}
use Rattle.osm_desk.proofs.TableLemmas.{size}
use Rattle.osm_desk.proofs.desk.Desk.is_empty.Goals as goal

pub returns : goal.returns
returns g c =
    let is = size _ c.self.inside.mirror c.self.inside.gates c.self.view_is 0 c.len.ensures.ordered ∙ sym c.len.ensures.len in (
      (λ yes. empty_of_len _ (is ∙ eqb-true c.len.result 0 yes)),
      (λ none. eq-eqb c.len.result 0 (sym is ∙ ap (λ (all : Connections). len all) none ∙ len-empty nat_cmp Rest)),
    )
