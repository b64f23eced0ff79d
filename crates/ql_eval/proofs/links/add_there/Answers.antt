use Rattle.osm_model.specs.declared.reference.Ref.{Ref}
use Rattle.std.proofs.Common.{refl, [], ◌∷◌}
use Rattle.ql_eval.specs.Questions.{object_ask}
use Rattle.ql_eval.proofs.EachLemmas.{needed_one, one_needed}
use Rattle.ql_eval.proofs.LinkLemmas.{absent_added, there_added}
use Rattle.ql_eval.proofs.GivenLemmas.{all_appended, all_later, one_given}
use Rattle.ql_eval.proofs.TruthLemmas.{truly_as}
use Rattle.ql_eval.proofs.links.add_there.Goals as goal

pub returns-in_ok-push-clause-answer : goal.returns-in_ok-push-clause-answer
returns-in_ok-push-clause-answer g c = λ p is under.
    truly_as (needed_one (object_ask c.args.name) refl) (λ so. one_needed (object_ask c.args.name))
    (λ so. there_added p.objects c.args.name _ _ (so.0 c.if-is_there.true) c.in_ok-push.ensures.items) (c.in_ok-is_there.ensures.answer p is under)

pub returns-else-is_there-clause-answer : goal.returns-else-is_there-clause-answer
returns-else-is_there-clause-answer g c = λ p is under.
    truly_as (needed_one (object_ask c.args.name) refl) (λ so. one_needed (object_ask c.args.name))
    (λ so. absent_added p.objects c.args.name _ (λ there. let yes = so.1 there in let no = c.if-is_there.false in cc)) (c.in_ok-is_there.ensures.answer p is under)

pub returns-in_ok-push-clause-named : goal.returns-in_ok-push-clause-named
returns-in_ok-push-clause-named g c =
    let later = λ (r : Ref). g.met.W.Source.same_gave _ _ r c.has.ensures.later in
    all_appended c.args.there.now.items (c.args.name ∷ []) c.push.new.self.items c.in_ok-push.ensures.items (all_later c.args.there.now.items later c.requires.named)
    (one_given _ c.args.name (c.in_ok-is_there.ensures.named c.if-is_there.true))

pub returns-else-is_there-clause-named : goal.returns-else-is_there-clause-named
returns-else-is_there-clause-named g c = all_later c.args.there.now.items (λ r. g.met.W.Source.same_gave _ _ r c.has.ensures.later) c.requires.named
