use Rattle.std.proofs.Common.{List, ℕ, refl}
use Rattle.tree_walk.proofs.shared.WalksGivenLaws.{given_same}
use Rattle.osm_keys.specs.Manifests.{top_among}
use Rattle.ql_eval.proofs.AbsenceLemmas.{read_later}
use Rattle.ql_eval.proofs.GivenLemmas.{given_later}
use Rattle.ql_eval.proofs.KnownLemmas.{absent_later, remembers_later}
use Rattle.ql_eval.proofs.RememberLemmas.{all_recalled_later}
use Rattle.ql_eval.proofs.shelf_source.ShelfSourceSource.announce.Goals as goal

pub returns-clause-later : goal.returns-clause-later
returns-clause-later g c =
    let grows = λ (x : List ℕ). (c.announce_object.ensures.used x).1 in (
      refl,
      refl,
      c.announce_object.ensures.stays,
      grows,
      (λ r object known. known),
      (λ absent. absent_later _ _ c.args.self.now.manifest c.args.self.now.objects.now grows absent),
      (λ r given. given_later _ _ c.args.self.now.manifest c.args.self.now.objects.now c.args.self.now.objects.now grows (λ s o known. known) r given),
      (λ r is. is),
      (λ given r is. given_later _ _ c.args.self.now.manifest c.args.self.now.objects.now c.args.self.now.objects.now grows (λ s o known. known) r (given r is)),
      refl,
      (λ read. read_later _ _ c.args.self.now.manifest c.args.self.now.objects.now grows read),
    )

pub returns-clause-truly : goal.returns-clause-truly
returns-clause-truly g c = λ p is under.
    let grows = λ (x : List ℕ). (c.announce_object.ensures.used x).1 in
    (under.0, remembers_later p _ _ c.args.self.now.objects.now grows under.1, all_recalled_later p _ _ c.args.self.now.memo.now.remembered.items grows under.2)

pub returns-clause-walked : goal.returns-clause-walked
returns-clause-walked g c = given_same (top_among c.args.self.now.manifest.tops) _ _ _ _ _ _ c.announce_object.ensures.used
