use Rattle.std.proofs.Common.{sym, subst, take}
use Rattle.std.specs.Prelude.{Some}
use Rattle.osm_relay.specs.Logs.{takes}
use Rattle.osm_relay.specs.declared.stage.Search.{Search}
use Rattle.osm_relay.specs.declared.stage.Stage.TheVariants.{Listening}
use Rattle.osm_relay.specs.internal.Stages.{StandsAt}
use Rattle.osm_relay.proofs.StageLemmas.{asking_done}
use Rattle.osm_relay.proofs.asking.ask_on.Goals as goal

pub returns-then-is_empty : goal.returns-then-is_empty
returns-then-is_empty c = λ terms log m is.
    subst (λ (s : Search). StandsAt terms (Listening s c.new-reply.result) log (Some (takes (take c.args.count c.args.request) m))) (sym c.failed-search.ensures)
    (asking_done terms c.args.search c.args.request log m is c.args.count c.new-reply.result c.new-reply.ensures)
