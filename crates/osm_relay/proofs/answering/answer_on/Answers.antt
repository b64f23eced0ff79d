use Rattle.std.proofs.Common.{◌≡◌, List, ℕ, [], rules, sym, subst, take}
use Rattle.osm_relay.specs.Logs.{takes}
use Rattle.osm_relay.specs.declared.stage.Stage.TheVariants.{Answering}
use Rattle.osm_relay.specs.internal.Stages.{StandsAt}
use Rattle.osm_relay.proofs.StageLemmas.{answering_done, answering_more}
use Rattle.osm_relay.proofs.answering.answer_on.Goals as goal

pub returns-then-is_empty : goal.returns-then-is_empty
returns-then-is_empty c = λ terms log m is.
    let none : c.advance.new.self ≡ [] = search rules in
    let now = takes (take c.args.count c.args.response) log in
    answering_done terms c.advance.new.self now m
    (subst (λ (left : List ℕ). StandsAt terms (Answering left) now m) (sym c.advance.ensures) (answering_more terms c.args.response log m is c.args.count)) none

pub returns : goal.returns
returns c = λ terms log m is.
    subst (λ (left : List ℕ). StandsAt terms (Answering left) (takes (take c.args.count c.args.response) log) m) (sym c.advance.ensures)
    (answering_more terms c.args.response log m is c.args.count)
