use Rattle.std.proofs.Common.{refl, inl}
use Rattle.std.proofs.lemmas.Result.{IfErr-weaker}
use Rattle.osm_keys.specs.Manifests.{top_among}
use Rattle.ql_eval.proofs.AbsenceLemmas.{never_sound, read_later}
use Rattle.ql_eval.proofs.GivenLemmas.{given_later}
use Rattle.ql_eval.proofs.KnownLemmas.{absent_later, remembers_later}
use Rattle.ql_eval.proofs.RememberLemmas.{all_recalled_later}
use Rattle.ref_sets.proofs.shared.Results.{if_ok_as}
use Rattle.ql_eval.proofs.TruthLemmas.{truly_ends}
use Rattle.ql_eval.proofs.shelf_source.ShelfSourceSource.nodes_in.Goals as goal

pub returns-clause-later : goal.returns-clause-later
returns-clause-later g c = (
  refl,
  refl,
  c.find_in_box.ensures.stays,
  c.find_in_box.ensures.grows,
  (λ r object known. known),
  (λ absent. absent_later _ _ c.args.self.now.manifest c.args.self.now.objects.now c.find_in_box.ensures.grows absent),
  (λ r given. given_later _ _ c.args.self.now.manifest c.args.self.now.objects.now c.args.self.now.objects.now c.find_in_box.ensures.grows (λ s o known. known) r given),
  (λ r is. is),
  (λ given r is. given_later _ _ c.args.self.now.manifest c.args.self.now.objects.now c.args.self.now.objects.now c.find_in_box.ensures.grows (λ s o known. known) r (given r is)),
  refl,
  (λ read. read_later _ _ c.args.self.now.manifest c.args.self.now.objects.now c.find_in_box.ensures.grows read),
)

pub returns-clause-answer : goal.returns-clause-answer
returns-clause-answer g c = λ p is under.
    truly_ends (under.0, remembers_later p _ _ c.args.self.now.objects.now c.find_in_box.ensures.grows under.1, all_recalled_later p _ _ c.args.self.now.memo.now.remembered.items c.find_in_box.ensures.grows under.2)
    (c.find_in_box.ensures.answer p is under.0)

pub returns-clause-told : goal.returns-clause-told
returns-clause-told g c = IfErr-weaker c.find_in_box.result _ _ (λ fault told absent kept. told) c.find_in_box.ensures.told

pub returns-clause-named : goal.returns-clause-named
returns-clause-named g c = if_ok_as c.find_in_box.result (λ names all r has. inl (inl (all r has))) c.find_in_box.ensures.named

pub returns-clause-walked : goal.returns-clause-walked
returns-clause-walked g c = never_sound c.find_in_box.result (top_among c.args.self.now.manifest.tops) _ _ _ _ _ _ _ _ c.find_in_box.ensures.walked
