use Rattle.std.proofs.Common.{sym, subst, List, ℕ}
use Rattle.osm_relay.specs.declared.stage.Stage.TheVariants.{Answering}
use Rattle.osm_relay.specs.internal.Stages.{StandsAt}
use Rattle.osm_relay.proofs.StageLemmas.{choosing_ends}
use Rattle.osm_relay.proofs.choosing.give_up.Goals as goal

pub returns-in-Ok : goal.returns-in-Ok
returns-in-Ok c = λ terms log m is.
    subst (λ (text : List ℕ). StandsAt terms (Answering text) log m) (sym c.new.ensures) (choosing_ends terms c.args.search log m is c.in-Ok.response.items c.in-Ok.ensures)
