use Rattle.std.proofs.Common.{refl}
use Rattle.osm_keys.specs.Manifests.{top_among}
use Rattle.tree_walk.proofs.shared.WalksGivenLaws.{given_none}
use Rattle.ql_eval.specs.internal.Objects.{IsGivenOrThere}
use Rattle.ql_eval.proofs.RememberLemmas.{given_one_more, recalled_one_more, remembered_later}
use Rattle.ql_eval.proofs.shelf_source.ShelfSourceSource.remember.Goals as goal

pub returns-clause-later : goal.returns-clause-later
returns-clause-later g c =
    let before = c.args.self.now.memo.now.remembered.items in
    let after = c.remember.new.self.remembered.items in (
      refl,
      refl,
      (λ x. ((λ fixed has. has), (λ has. has))),
      (λ x has. has),
      (λ r object known. known),
      (λ absent. absent),
      (λ r given. given),
      remembered_later before after c.remember.ensures.kept,
      given_one_more c.args.how c.args.set.value c.args.refs.value before after c.remember.ensures.added
          (IsGivenOrThere (g.S.Shelf.used c.args.self.now.shelf.now) c.args.self.now.manifest c.args.self.now.objects.now) c.requires,
      refl,
      (λ read. read),
    )

pub returns-clause-walked : goal.returns-clause-walked
returns-clause-walked g c = given_none (top_among c.args.self.now.manifest.tops) _ _ _ _ _

pub returns-clause-truly : goal.returns-clause-truly
returns-clause-truly g c = λ p is under so.
    (under.0, under.1, recalled_one_more c.args.how c.args.set.value c.args.refs.value c.args.self.now.memo.now.remembered.items c.remember.new.self.remembered.items c.remember.ensures.added p _ (λ _. so) under.2)

pub returns-clause-used : goal.returns-clause-used
returns-clause-used g c = λ x. ((λ has. has), (λ has. has))
