use Rattle.std.proofs.Common.{List, ℕ, sym, subst}
use Rattle.std.specs.Prelude.{Some}
use Rattle.osm_relay.specs.declared.judging.Judged.{Judged}
use Rattle.osm_relay.specs.declared.stage.Search.{Search}
use Rattle.osm_relay.specs.declared.stage.Stage.TheVariants.{Answering, Choosing}
use Rattle.osm_relay.specs.internal.Judging.{Judges}
use Rattle.osm_relay.specs.internal.Stages.{StandsAt}
use Rattle.osm_relay.proofs.StageLemmas.{settled_given, settled_refused}
use Rattle.osm_relay.proofs.listening.settle_parts.Goals as goal

pub returns-in-Ok-Given : goal.returns-in-Ok-Given
returns-in-Ok-Given c = λ reply log m is has.
    let judged = subst (λ (j : Judged). Judges c.args.search.question c.args.terms.now c.args.parts.root.now c.args.parts.proof.now j) c.in-Ok-Given.field-0-is c.in-Ok-Given.ensures in
    subst (λ (text : List ℕ). StandsAt c.args.terms.now (Answering text) log (Some m)) (sym c.new.ensures)
    (settled_given c.args.terms.now c.args.search reply log m is _ _ _ has c.in-Ok-Given.response.items judged.0 judged.1 judged.2 judged.3)

pub returns-in-Ok-Refused : goal.returns-in-Ok-Refused
returns-in-Ok-Refused c = λ reply log m is has.
    let judged = subst (λ (j : Judged). Judges c.args.search.question c.args.terms.now c.args.parts.root.now c.args.parts.proof.now j) c.in-Ok-Refused.field-0-is c.in-Ok-Refused.ensures in
    subst (λ (s : Search). StandsAt c.args.terms.now (Choosing s) log (Some m)) (sym c.failed.ensures)
    (settled_refused c.args.terms.now c.args.search reply log m is _ _ _ has c.in-Ok-Refused.fault judged)
