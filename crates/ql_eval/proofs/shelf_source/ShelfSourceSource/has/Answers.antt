use Rattle.std.proofs.Common.{◌≡◌, inr, inl, sym, ◌∙◌, Some, None, refl, subst}
use Rattle.std.specs.BTreeMap.{get}
use Rattle.osm_model.specs.Elements.{ref_cmp}
use Rattle.osm_model.specs.declared.reference.Ref.{Ref}
use Rattle.osm_keys.specs.Manifests.{top_among}
use Rattle.ql_syntax.specs.StatementViews.{statements_of}
use Rattle.tree_node.proofs.shared.OutcomeLaws.{outcome_stops}
use Rattle.ql_eval.specs.internal.Objects.{MayBeAbsentNow}
use Rattle.ql_eval.proofs.AbsenceLemmas.{sound_later}
use Rattle.ql_eval.proofs.GivenLemmas.{found_known, given_later}
use Rattle.ql_eval.proofs.LinkLemmas.{is_there}
use Rattle.ql_eval.proofs.RememberLemmas.{all_recalled_later}
use Rattle.ql_eval.proofs.StepLemmas.{refused_as}
use Rattle.ql_eval.proofs.TruthLemmas.{truly_as, truly_ends}
use Rattle.ql_eval.proofs.shelf_source.ShelfSourceSource.has.Goals as goal

pub returns-in_err-look_up-clause-later : goal.returns-in_err-look_up-clause-later
returns-in_err-look_up-clause-later g c = (
  refl,
  refl,
  c.look_up.ensures.stays,
  c.look_up.ensures.grows,
  c.look_up.ensures.keeps,
  c.look_up.ensures.absent,
  given_later _ _ c.args.self.now.manifest c.args.self.now.objects.now c.look_up.new.objects c.look_up.ensures.grows c.look_up.ensures.keeps,
  (λ r is. is),
  (λ given r is. given_later _ _ c.args.self.now.manifest c.args.self.now.objects.now c.look_up.new.objects c.look_up.ensures.grows c.look_up.ensures.keeps r (given r is)),
  refl,
  c.look_up.ensures.read,
)

pub returns-in_err-look_up-clause-told : goal.returns-in_err-look_up-clause-told
returns-in_err-look_up-clause-told g c = refused_as _ c.from_residual.result _ c.from_residual.ensures.1 (λ absent kept. c.in_err-look_up.ensures.told)

pub returns-in_err-look_up-clause-answer : goal.returns-in_err-look_up-clause-answer
returns-in_err-look_up-clause-answer g c = λ p is under.
    outcome_stops _ c.from_residual.ensures.1 refl (λ x needs. needs) (c.in_err-look_up.ensures.answer p is under.0 under.1)

pub returns-clause-later : goal.returns-clause-later
returns-clause-later g c = (
  refl,
  refl,
  c.look_up.ensures.stays,
  c.look_up.ensures.grows,
  c.look_up.ensures.keeps,
  c.look_up.ensures.absent,
  given_later _ _ c.args.self.now.manifest c.args.self.now.objects.now c.look_up.new.objects c.look_up.ensures.grows c.look_up.ensures.keeps,
  (λ r is. is),
  (λ given r is. given_later _ _ c.args.self.now.manifest c.args.self.now.objects.now c.look_up.new.objects c.look_up.ensures.grows c.look_up.ensures.keeps r (given r is)),
  refl,
  c.look_up.ensures.read,
)

pub returns-clause-walked : goal.returns-clause-walked
returns-clause-walked g c =
    let May : Ref → Type 0 = MayBeAbsentNow (statements_of c.args.self.now.statements.now) c.look_up.new.objects in
    sound_later (top_among c.args.self.now.manifest.tops) (λ r. (r ≡ c.args.name) × (get ref_cmp c.look_up.new.objects c.args.name ≡ Some None)) May _ _ _ _ _ _ _
    (λ r is. subst May (sym is.0) (elim c.requires [ inl asked ↦ inl asked | inr listed ↦ inr (listed.0, listed.1, c.look_up.ensures.keeps listed.0 (Some listed.1) listed.2, listed.3) ]))
    c.in_ok-look_up.ensures.walked

pub returns-clause-named : goal.returns-clause-named
returns-clause-named g c = λ yes.
    inl (inr (found_known (λ r object. get ref_cmp c.look_up.new.objects r ≡ Some object) c.args.name c.known.result c.in_ok-look_up.ensures.known c.known.ensures (sym c.is_some.ensures ∙ yes)))

pub returns-clause-answer : goal.returns-clause-answer
returns-clause-answer g c = λ p is under.
    truly_as (λ x needs. needs) (λ so x needs. needs) (λ so. is_there p.objects c.args.name c.known.result c.is_some.result is.set c.is_some.ensures (c.known.ensures _ so))
    (truly_ends (under.0, c.look_up.ensures.remembers p under.0 under.1, all_recalled_later p _ _ c.args.self.now.memo.now.remembered.items c.look_up.ensures.grows under.2) (c.in_ok-look_up.ensures.answer p is under.0 under.1))
