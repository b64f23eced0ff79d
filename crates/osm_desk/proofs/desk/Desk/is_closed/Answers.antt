use Rattle.std.proofs.Common.{ap, sym, ◌∙◌}
use Rattle.std.specs.Option.{option_copied}
use Rattle.osm_desk.specs.OneConnection.{rest_if}
use Rattle.osm_desk.proofs.TableLemmas.{found}
use Rattle.osm_desk.proofs.desk.Desk.is_closed.Goals as goal

pub returns-in-Some : goal.returns-in-Some
returns-in-Some g c =
    c.closed.ensures
    ∙ sym (ap (λ o. (rest_if o).is_closed) (found _ c.self.inside.mirror c.self.inside.gates c.self.view_is c.args.number ∙ sym c.get.ensures.value ∙ ap option_copied c.in-Some.is))

pub returns-in-None : goal.returns-in-None
returns-in-None g c =
    sym (ap (λ o. (rest_if o).is_closed) (found _ c.self.inside.mirror c.self.inside.gates c.self.view_is c.args.number ∙ sym c.get.ensures.value ∙ ap option_copied c.in-None.is))
