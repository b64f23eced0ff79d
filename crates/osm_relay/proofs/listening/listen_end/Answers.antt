use Rattle.std.proofs.Common.{sym, subst}
use Rattle.std.specs.Prelude.{Some}
use Rattle.osm_relay.specs.Logs.{ends}
use Rattle.osm_relay.specs.declared.stage.Search.{Search}
use Rattle.osm_relay.specs.declared.stage.Stage.TheVariants.{Choosing}
use Rattle.osm_relay.specs.internal.Stages.{StandsAt}
use Rattle.osm_relay.proofs.StageLemmas.{heard_at_end, listening_ends}
use Rattle.osm_relay.proofs.listening.listen_end.Goals as goal

pub returns-in-Ok : goal.returns-in-Ok
returns-in-Ok c = λ log m is.
    c.settle.ensures log (ends m) (heard_at_end c.args.terms.now c.args.search c.args.reply log m is c.in-Ok.ensures.whole)

pub returns-in-Err : goal.returns-in-Err
returns-in-Err c = λ log m is.
    subst (λ (s : Search). StandsAt c.args.terms.now (Choosing s) log (Some (ends m))) (sym c.failed.ensures)
    (listening_ends c.args.terms.now c.args.search c.args.reply log m is c.in-Err.fault c.in-Err.ensures.fault)
