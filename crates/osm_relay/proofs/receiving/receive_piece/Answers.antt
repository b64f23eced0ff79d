use Rattle.std.proofs.Common.{◌++◌, List, ℕ, sym, subst}
use Rattle.http_messages.specs.HeadEnds.{skip_breaks}
use Rattle.osm_relay.specs.Logs.{brings}
use Rattle.osm_relay.specs.declared.hearing.Reaction.{Reaction}
use Rattle.osm_relay.specs.declared.stage.Stage.TheVariants.{Answering}
use Rattle.osm_relay.specs.internal.Finding.{Reacts}
use Rattle.osm_relay.specs.internal.Stages.{StandsAt}
use Rattle.osm_relay.proofs.StageLemmas.{heard_answer, heard_more, heard_question}
use Rattle.osm_relay.proofs.receiving.receive_piece.Goals as goal

pub returns-in-Ok-More : goal.returns-in-Ok-More
returns-in-Ok-More c = λ terms log m is.
    let reacts = subst (λ (r : Reaction). Reacts (skip_breaks (c.args.heard ++ c.args.piece.now)) r) c.in-Ok-More.field-0-is c.in-Ok-More.ensures in
    heard_more terms c.args.heard log m c.args.piece.now is c.in-Ok-More.heard reacts

pub returns-in-Ok-Respond : goal.returns-in-Ok-Respond
returns-in-Ok-Respond c = λ terms log m is.
    let reacts = subst (λ (r : Reaction). Reacts (skip_breaks (c.args.heard ++ c.args.piece.now)) r) c.in-Ok-Respond.field-0-is c.in-Ok-Respond.ensures in
    subst (λ (text : List ℕ). StandsAt terms (Answering text) (brings c.args.piece.now log) m) (sym c.new.ensures)
    (heard_answer terms c.args.heard log m c.args.piece.now is reacts.0 c.in-Ok-Respond.response.items reacts.1 reacts.2)

pub returns-in-Ok-Ask : goal.returns-in-Ok-Ask
returns-in-Ok-Ask c = λ terms log m is.
    let reacts = subst (λ (r : Reaction). Reacts (skip_breaks (c.args.heard ++ c.args.piece.now)) r) c.in-Ok-Ask.field-0-is c.in-Ok-Ask.ensures in
    heard_question terms c.args.heard log m c.args.piece.now is reacts.0 c.in-Ok-Ask.question 0 reacts.1 reacts.2
