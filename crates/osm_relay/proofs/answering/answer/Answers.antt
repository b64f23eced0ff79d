use Rattle.std.proofs.Common.{◌≡◌, List, ℕ, false, rules, subst, sym, take, tests}
use Rattle.osm_relay.specs.Logs.{Log, takes}
use Rattle.osm_relay.specs.declared.stage.Stage.TheVariants.{Answering, Over}
use Rattle.osm_relay.specs.internal.Stages.{StandsAt}
use Rattle.osm_relay.proofs.DialledLemmas.{took_none}
use Rattle.osm_relay.proofs.StageLemmas.{answering_gone}
use Rattle.osm_relay.proofs.answering.answer.Goals as goal

pub returns-in-Took-eq0 : goal.returns-in-Took-eq0
returns-in-Took-eq0 g c = λ terms mirror tells is.
    let none : c.in-Took-eq0.field-0 ≡ 0 = search (rules, tests) in
    subst (λ (l : Log). StandsAt terms (Answering c.args.response) l mirror) (sym (took_none _ _ _ _ none (c.in-Took-eq0.ensures.log tells))) is

pub returns-in-Took : goal.returns-in-Took
returns-in-Took g c = λ terms mirror tells is.
    let old = g.W.Wire.log c.args.client.now in
    let new = g.W.Wire.log c.write.new.self in
    let took = subst (λ (bytes : List ℕ). new ≡ takes (take c.in-Took.count bytes) old) c.bytes.ensures (c.in-Took.ensures.log tells) in
    subst (λ (l : Log). StandsAt terms c.answer_on.result l mirror) (sym took) (c.answer_on.ensures terms old mirror is)

pub returns-in-Gone : goal.returns-in-Gone
returns-in-Gone g c = λ terms mirror tells is.
    subst (λ (l : Log). StandsAt terms (Over false) l mirror) (sym (c.in-Gone.ensures.log tells)) (answering_gone terms c.args.response (g.W.Wire.log c.args.client.now) mirror is)
