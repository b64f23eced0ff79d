use Rattle.std.proofs.Common.{◌≡◌, List, ℕ, rules, subst, sym, take, tests}
use Rattle.std.specs.Prelude.{Some}
use Rattle.osm_relay.specs.Logs.{Log, takes}
use Rattle.osm_relay.specs.declared.stage.Stage.TheVariants.{Asking, Choosing}
use Rattle.osm_relay.specs.internal.Stages.{StandsAt}
use Rattle.osm_relay.proofs.DialledLemmas.{took_none}
use Rattle.osm_relay.proofs.StageLemmas.{asking_fails}
use Rattle.osm_relay.proofs.asking.ask.Goals as goal

pub returns-in-Took-eq0 : goal.returns-in-Took-eq0
returns-in-Took-eq0 g c = λ terms client tells is.
    let none : c.in-Took-eq0.field-0 ≡ 0 = search (rules, tests) in
    subst (λ (l : Log). StandsAt terms (Asking c.args.search c.args.request) client (Some l)) (sym (took_none _ _ _ _ none (c.in-Took-eq0.ensures.log tells))) is

pub returns-in-Took : goal.returns-in-Took
returns-in-Took g c = λ terms client tells is.
    let old = g.W.Wire.log c.args.mirror.now in
    let new = g.W.Wire.log c.write.new.self in
    let took = subst (λ (bytes : List ℕ). new ≡ takes (take c.in-Took.count bytes) old) c.bytes.ensures (c.in-Took.ensures.log tells) in
    subst (λ (l : Log). StandsAt terms c.ask_on.result client (Some l)) (sym took) (c.ask_on.ensures terms client old is)

pub returns-in-Gone : goal.returns-in-Gone
returns-in-Gone g c = λ terms client tells is.
    subst (λ (l : Log). StandsAt terms (Choosing c.args.search) client (Some l)) (sym (c.in-Gone.ensures.log tells))
    (asking_fails terms c.args.search c.args.request client (g.W.Wire.log c.args.mirror.now) is)
