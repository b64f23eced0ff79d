use Rattle.std.proofs.Common.{◌++◌, false, sym, subst}
use Rattle.std.specs.Prelude.{Some}
use Rattle.osm_relay.specs.Logs.{brings}
use Rattle.mirror_reply.specs.Taken.{Tells}
use Rattle.mirror_reply.specs.declared.progress.Progress.{Progress}
use Rattle.osm_relay.specs.declared.stage.Search.{Search}
use Rattle.osm_relay.specs.declared.stage.Stage.TheVariants.{Choosing}
use Rattle.osm_relay.specs.internal.Stages.{StandsAt}
use Rattle.osm_relay.proofs.StageLemmas.{heard_whole, listening_fails, listening_more}
use Rattle.osm_relay.proofs.listening.listen_piece.Goals as goal

pub returns-in-Ok-More : goal.returns-in-Ok-More
returns-in-Ok-More c = λ log m is.
    listening_more c.args.terms.now c.args.search c.args.reply log m is c.args.piece.now c.take.new.self c.take.ensures.limit c.in-Ok-More.ensures.taken
    (λ received taken. subst (λ (p : Progress). Tells c.args.reply.limit false (received ++ c.args.piece.now) p) c.in-Ok-More.field-0-is (c.in-Ok-More.ensures.told received taken))

pub returns-in-Ok-Whole : goal.returns-in-Ok-Whole
returns-in-Ok-Whole c = λ log m is.
    c.settle.ensures log (brings c.args.piece.now m)
    (heard_whole c.args.terms.now c.args.search c.args.reply log m is c.args.piece.now c.take.new.self c.take.ensures.limit c.in-Ok-Whole.ensures.taken
    (λ received taken. subst (λ (p : Progress). Tells c.args.reply.limit false (received ++ c.args.piece.now) p) c.in-Ok-Whole.field-0-is (c.in-Ok-Whole.ensures.told received taken)))

pub returns-in-Ok-Failed : goal.returns-in-Ok-Failed
returns-in-Ok-Failed c = λ log m is.
    subst (λ (s : Search). StandsAt c.args.terms.now (Choosing s) log (Some (brings c.args.piece.now m))) (sym c.failed.ensures)
    (listening_fails c.args.terms.now c.args.search c.args.reply log m is c.args.piece.now c.in-Ok-Failed.fault
    (λ received taken. subst (λ (p : Progress). Tells c.args.reply.limit false (received ++ c.args.piece.now) p) c.in-Ok-Failed.field-0-is (c.in-Ok-Failed.ensures.told received taken)))
