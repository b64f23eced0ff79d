use Rattle.std.proofs.Common.{subst}
use Rattle.osm_relay.specs.declared.stage.Stage.{Stage}
use Rattle.osm_relay.specs.internal.Stages.{StandsAt}
use Rattle.osm_relay.proofs.StageLemmas.{answering_gone, hearing_gone}
use Rattle.osm_relay.proofs.stepping.impatient.Goals as goal

pub returns-in-Hearing : goal.returns-in-Hearing
returns-in-Hearing c = λ terms log m is. hearing_gone terms _ log m (subst (λ (s : Stage). StandsAt terms s log m) c.in-Hearing.is is)

pub returns-in-Answering : goal.returns-in-Answering
returns-in-Answering c = λ terms log m is. answering_gone terms c.in-Answering.field-0 log m (subst (λ (s : Stage). StandsAt terms s log m) c.in-Answering.is is)
