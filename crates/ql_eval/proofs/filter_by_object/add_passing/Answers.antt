use Rattle.osm_model.specs.declared.reference.Ref.{Ref}
use Rattle.std.proofs.Common.{◌++◌, ap, refl, sym, ◌∙◌, [], ◌∷◌}
use Rattle.std.specs.Option.{option_copied}
use Rattle.ql_syntax.specs.StatementViews.{filters_of}
use Rattle.ref_sets.specs.NamedSets.{lists_of}
use Rattle.ql_eval.specs.Questions.{line_ask}
use Rattle.ql_eval.proofs.EachLemmas.{needed_one, one_needed}
use Rattle.ql_eval.proofs.KnownLemmas.{known_is_none}
use Rattle.ql_eval.proofs.ObjectLemmas.{none_there}
use Rattle.ql_eval.proofs.PassingLemmas.{failed_added, passed_added}
use Rattle.ql_eval.proofs.GivenLemmas.{all_appended, all_later, one_given}
use Rattle.ql_eval.proofs.TruthLemmas.{truly_as, truly_never_stops}
use Rattle.ql_eval.proofs.filter_by_object.add_passing.Goals as goal
use Rattle.osm_keys.specs.Grains.{grain_of}

pub returns-in_ok-push-in-Some-clause-answer : goal.returns-in_ok-push-in-Some-clause-answer
returns-in_ok-push-in-Some-clause-answer g c = λ p is under there.
    let env = lists_of c.args.sets.now.named.items in
    let rest = filters_of c.args.before.now ++ filters_of c.args.after.now in
    let name = c.args.name in
    truly_as (needed_one (line_ask (grain_of p.edition) name) refl) (λ so. one_needed (line_ask (grain_of p.edition) name))
    (λ so. passed_added p.objects env rest name c.in-Some.object.now is.set (sym (ap option_copied c.in-Some.is) ∙ c.known.ensures _ so) c.args.refs.now.items _ (c.passes_both.ensures.0 c.if-passes_both.true) c.in_ok-push-in-Some.ensures.items)
    (c.in_ok-look_up.ensures.answer p is under)

pub returns-else-passes_both-clause-answer : goal.returns-else-passes_both-clause-answer
returns-else-passes_both-clause-answer g c = λ p is under there.
    let env = lists_of c.args.sets.now.named.items in
    let rest = filters_of c.args.before.now ++ filters_of c.args.after.now in
    let name = c.args.name in
    truly_as (needed_one (line_ask (grain_of p.edition) name) refl) (λ so. one_needed (line_ask (grain_of p.edition) name))
    (λ so. failed_added p.objects env rest name c.in-Some.object.now is.set (sym (ap option_copied c.in-Some.is) ∙ c.known.ensures _ so) c.args.refs.now.items (λ passes. let yes = c.passes_both.ensures.1 passes in let no = c.if-passes_both.false in cc))
    (c.in_ok-look_up.ensures.answer p is under)

pub returns-in-None-clause-answer : goal.returns-in-None-clause-answer
returns-in-None-clause-answer g c = λ p is under there.
    truly_never_stops (needed_one (line_ask (grain_of p.edition) c.args.name) refl) (λ so. none_there p.objects c.args.name is.set (sym (sym (ap option_copied c.in-None.is) ∙ c.known.ensures _ so)) there) (c.in_ok-look_up.ensures.answer p is under)

pub returns-in-None-clause-told : goal.returns-in-None-clause-told
returns-in-None-clause-told g c =
    g.met.W.Source.not_there _ c.args.name (known_is_none (g.W.Source.knows c.look_up.new.self) c.args.name c.known.result c.in_ok-look_up.ensures.known c.known.ensures c.in-None.is) (g.met.W.Source.same_gave _ _ c.args.name c.look_up.ensures.later c.requires.name_named)

pub returns-in_ok-push-in-Some-clause-named : goal.returns-in_ok-push-in-Some-clause-named
returns-in_ok-push-in-Some-clause-named g c =
    let later = λ (r : Ref). g.met.W.Source.same_gave _ _ r c.look_up.ensures.later in
    all_appended c.args.refs.now.items (c.args.name ∷ []) _ c.in_ok-push-in-Some.ensures.items (all_later c.args.refs.now.items later c.requires.named) (one_given _ c.args.name (later c.args.name c.requires.name_named))

pub returns-else-passes_both-clause-named : goal.returns-else-passes_both-clause-named
returns-else-passes_both-clause-named g c = all_later c.args.refs.now.items (λ r. g.met.W.Source.same_gave _ _ r c.look_up.ensures.later) c.requires.named
