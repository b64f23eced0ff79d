use Rattle.std.proofs.Common.{ap, rules, sym, subst, ◌∙◌, ◌≡◌}
use Rattle.std.specs.Option.{option_copied_mut}
use Rattle.std.specs.Prelude.{IfOk, is_some}
use Rattle.osm_gate.specs.Connections.{RespondsOn, Rest, requests_next}
use Rattle.osm_gate.specs.Terms.{terms_of}
use Rattle.osm_desk.specs.Contents.{Contents}
use Rattle.osm_desk.specs.OneConnection.{rest_if, rest_of}
use Rattle.osm_desk.proofs.StepLemmas.{none_lent}
use Rattle.osm_desk.proofs.TableLemmas.{closed_rest_in, found, heard_in, left_in, others_in, held_inside, kept_in, on_err, on_ok, rest_is, view_of}
use Rattle.osm_desk.proofs.desk.Desk.hear_as.Goals as goal

pub returns-in_default-clause-responses : goal.returns-in_default-clause-responses
returns-in_default-clause-responses g c = λ p holds.
    let none = found _ c.self.inside.mirror c.self.inside.gates c.self.view_is c.args.number ∙ sym c.get_mut.ensures.value ∙ none_lent _ c.in_default.not-Some in
    subst (λ (r : Rest). RespondsOn (terms_of c.args.most g.M.Mirror.may_fail) p (requests_next r c.args.piece.now).complete (g.R.ResponseBytes.bytes c.none.result)) (sym (ap rest_if none)) c.none.ensures

pub returns-in_default-clause-rest : goal.returns-in_default-clause-rest
returns-in_default-clause-rest g c =
    let none = found _ c.self.inside.mirror c.self.inside.gates c.self.view_is c.args.number ∙ sym c.get_mut.ensures.value ∙ none_lent _ c.in_default.not-Some in
    let same : view_of c.self.inside.mirror c.get_mut.follows.lender-at-none ≡ c.args.self.now = search rules in
    ap (λ (d : Contents _). rest_of d c.args.number) same ∙ closed_rest_in c.args.self.now c.args.number c.args.piece.now none

pub returns-in_default-clause-open : goal.returns-in_default-clause-open
returns-in_default-clause-open g c = λ is_open.
    let none = found _ c.self.inside.mirror c.self.inside.gates c.self.view_is c.args.number ∙ sym c.get_mut.ensures.value ∙ none_lent _ c.in_default.not-Some in
    let no = sym is_open ∙ ap is_some none in
    cc

pub returns-clause-responses : goal.returns-clause-responses
returns-clause-responses g c = λ p holds.
    let some = sym c.get_mut.ensures.value ∙ ap option_copied_mut c.in-Some.is in
    let is = rest_is _ c.self.inside.mirror c.self.inside.gates c.self.view_is c.args.number c.in-Some.gate.now c.feed_as.new.self (c.get_mut.follows.lender c.feed_as.new.self) some (c.get_mut.follows.holds c.feed_as.new.self) c.feed_as.new.mirror c.feed_as.ensures.same in
    subst (λ (r : Rest). IfOk c.feed_as.result (λ text. RespondsOn (terms_of c.args.most g.M.Mirror.may_fail) p (requests_next r c.args.piece.now).complete (g.R.ResponseBytes.bytes text))) (sym is)
    (c.feed_as.ensures.responses p (held_inside g.M.Mirror.holds _ c.self.inside.mirror c.self.inside.gates p c.self.view_is holds))

pub returns-clause-rest : goal.returns-clause-rest
returns-clause-rest g c =
    let some = sym c.get_mut.ensures.value ∙ ap option_copied_mut c.in-Some.is in
    on_ok c.feed_as.result c.feed_as.ensures.rest
    (left_in _ c.self.inside.mirror c.self.inside.gates c.self.view_is c.args.number c.in-Some.gate.now c.feed_as.new.self (c.get_mut.follows.lender c.feed_as.new.self) some (c.get_mut.follows.holds c.feed_as.new.self) c.feed_as.new.mirror c.feed_as.ensures.same c.args.piece.now)

pub returns-clause-open : goal.returns-clause-open
returns-clause-open g c = λ is_open.
    let some = sym c.get_mut.ensures.value ∙ ap option_copied_mut c.in-Some.is in
    on_ok c.feed_as.result c.feed_as.ensures.rest
    (heard_in _ c.self.inside.mirror c.self.inside.gates c.self.view_is c.args.number c.in-Some.gate.now c.feed_as.new.self (c.get_mut.follows.lender c.feed_as.new.self) some (c.get_mut.follows.holds c.feed_as.new.self) c.feed_as.new.mirror c.feed_as.ensures.same c.args.piece.now)

pub returns-clause-others : goal.returns-clause-others
returns-clause-others g c =
    let some = sym c.get_mut.ensures.value ∙ ap option_copied_mut c.in-Some.is in
    others_in _ c.self.inside.mirror c.self.inside.gates c.self.view_is c.args.number c.in-Some.gate.now c.feed_as.new.self (c.get_mut.follows.lender c.feed_as.new.self) some (c.get_mut.follows.holds c.feed_as.new.self) c.feed_as.new.mirror c.feed_as.ensures.same

pub returns-clause-unchanged : goal.returns-clause-unchanged
returns-clause-unchanged g c =
    let some = sym c.get_mut.ensures.value ∙ ap option_copied_mut c.in-Some.is in
    on_err c.feed_as.result c.feed_as.ensures.unchanged
    (kept_in _ c.self.inside.mirror c.self.inside.gates c.self.view_is c.args.number c.in-Some.gate.now c.feed_as.new.self (c.get_mut.follows.lender c.feed_as.new.self) some (c.get_mut.follows.holds c.feed_as.new.self) c.feed_as.new.mirror c.feed_as.ensures.same)
