use Rattle.std.proofs.Common.{◌≢◌, Option, ap, sym, subst, ◌∙◌, rules, refl}
use Rattle.osm_model.specs.Elements.{Element}
use Rattle.osm_model.specs.declared.kind.Kind.TheVariants as kinds
use Rattle.std.specs.Option.{option_copied}
use Rattle.tree_node.proofs.shared.OutcomeLaws.{outcome_stops, memory_stops}
use Rattle.ql_eval.proofs.LinkLemmas.{needs_parent, object_lists, parent_needs}
use Rattle.ql_eval.proofs.KnownLemmas.{known_is_none}
use Rattle.ql_eval.proofs.ObjectLemmas.{none_there}
use Rattle.ql_eval.proofs.ExitLemmas.{no_value}
use Rattle.ql_eval.proofs.StepLemmas.{refused_as}
use Rattle.ql_eval.proofs.GivenLemmas.{added_given}
use Rattle.ql_eval.proofs.TruthLemmas.{truly_as, truly_never_stops}
use Rattle.ql_eval.proofs.links.add_listed.Goals as goal

pub returns-in_err-look_up-clause-later : goal.returns-in_err-look_up-clause-later
returns-in_err-look_up-clause-later g c = c.look_up.ensures.later

pub returns-in_err-look_up-clause-walked : goal.returns-in_err-look_up-clause-walked
returns-in_err-look_up-clause-walked g c = no_value c.from_residual.result _ _ c.from_residual.ensures.1

pub returns-in_err-look_up-clause-told : goal.returns-in_err-look_up-clause-told
returns-in_err-look_up-clause-told g c = refused_as _ c.from_residual.result _ c.from_residual.ensures.1 c.in_err-look_up.ensures.told

pub returns-in_err-look_up-clause-listed : goal.returns-in_err-look_up-clause-listed
returns-in_err-look_up-clause-listed g c = no_value c.from_residual.result _ _ c.from_residual.ensures.1

pub returns-in_err-look_up-clause-there : goal.returns-in_err-look_up-clause-there
returns-in_err-look_up-clause-there g c = no_value c.from_residual.result _ _ c.from_residual.ensures.1

pub returns-in_err-look_up-clause-answer : goal.returns-in_err-look_up-clause-answer
returns-in_err-look_up-clause-answer g c = λ p is under there.
    let other : c.args.name.kind ≢ kinds.Node = search rules in
    outcome_stops _ c.from_residual.ensures.1 refl (parent_needs c.args.name other) (c.in_err-look_up.ensures.answer p is under)

pub returns-in_err-add_items-in-Some : goal.returns-in_err-add_items-in-Some
returns-in_err-add_items-in-Some g c =
    let end = c.from_residual-in_err-add_items-in-Some in record {
      later = c.look_up.ensures.later;
      walked = no_value end.result _ _ end.ensures.1;
      told = refused_as _ end.result _ end.ensures.1 (g.met.W.Source.out_of_memory _);
      listed = no_value end.result _ _ end.ensures.1;
      there = no_value end.result _ _ end.ensures.1;
      answer = λ p is under there. memory_stops _ end.ensures.1 refl;
    }

pub returns-in_ok-add_items-in-Some-clause-later : goal.returns-in_ok-add_items-in-Some-clause-later
returns-in_ok-add_items-in-Some-clause-later g c = c.look_up.ensures.later

pub returns-in_ok-add_items-in-Some-clause-walked : goal.returns-in_ok-add_items-in-Some-clause-walked
returns-in_ok-add_items-in-Some-clause-walked g c = c.in_ok-look_up.ensures.walked (λ none. let other = sym (ap option_copied c.in-Some.is) ∙ c.known.ensures _ none in cc)

pub returns-in_ok-add_items-in-Some-clause-listed : goal.returns-in_ok-add_items-in-Some-clause-listed
returns-in_ok-add_items-in-Some-clause-listed g c =
    let (object, known) = c.in_ok-look_up.ensures.known in
    let there = subst (λ (o : Option Element). g.W.Source.knows c.look_up.new.self c.args.name o) (sym (c.known.ensures object known) ∙ ap option_copied c.in-Some.is) known in
    added_given c.args.listed.now.items _ c.in_ok-add_items-in-Some.ensures
    (λ r has. g.met.W.Source.still_may _ _ r c.look_up.ensures.later (c.requires.listed r has))
    (λ r lists. g.met.W.Source.listed_may _ c.args.name r c.in-Some.object.now there lists)

pub returns-in_ok-add_items-in-Some-clause-told : goal.returns-in_ok-add_items-in-Some-clause-told
returns-in_ok-add_items-in-Some-clause-told g c = tt

pub returns-in_ok-add_items-in-Some-clause-answer : goal.returns-in_ok-add_items-in-Some-clause-answer
returns-in_ok-add_items-in-Some-clause-answer g c = λ p is under there.
    let other : c.args.name.kind ≢ kinds.Node = search rules in
    truly_as (parent_needs c.args.name other) (λ so. needs_parent c.args.name)
    (λ so. object_lists p.objects c.args.name c.in-Some.object.now _ _ is.set (sym (ap option_copied c.in-Some.is) ∙ c.known.ensures _ so) c.in_ok-add_items-in-Some.ensures) (c.in_ok-look_up.ensures.answer p is under)

pub returns-in-None-clause-later : goal.returns-in-None-clause-later
returns-in-None-clause-later g c = c.look_up.ensures.later

pub returns-in-None-clause-walked : goal.returns-in-None-clause-walked
returns-in-None-clause-walked g c = tt

pub returns-in-None-clause-listed : goal.returns-in-None-clause-listed
returns-in-None-clause-listed g c = tt

pub returns-in-None-clause-there : goal.returns-in-None-clause-there
returns-in-None-clause-there g c = tt

pub returns-in-None-clause-told : goal.returns-in-None-clause-told
returns-in-None-clause-told g c =
    g.met.W.Source.not_there _ c.args.name (known_is_none (g.W.Source.knows c.look_up.new.self) c.args.name c.known.result c.in_ok-look_up.ensures.known c.known.ensures c.in-None.is) (g.met.W.Source.same_gave _ _ c.args.name c.look_up.ensures.later c.requires.gave)

pub returns-in-None-clause-answer : goal.returns-in-None-clause-answer
returns-in-None-clause-answer g c = λ p is under there.
    let other : c.args.name.kind ≢ kinds.Node = search rules in
    truly_never_stops (parent_needs c.args.name other) (λ so. none_there p.objects c.args.name is.set (sym (sym (ap option_copied c.in-None.is) ∙ c.known.ensures _ so)) there) (c.in_ok-look_up.ensures.answer p is under)
