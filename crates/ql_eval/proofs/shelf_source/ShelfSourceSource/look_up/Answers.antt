use Rattle.std.proofs.Common.{refl}
use Rattle.std.proofs.lemmas.Result.{IfErr-weaker}
use Rattle.ql_syntax.specs.StatementViews.{statements_of}
use Rattle.ql_eval.specs.internal.Objects.{MayBeAbsentNow}
use Rattle.osm_keys.specs.Manifests.{top_among}
use Rattle.ql_eval.proofs.AbsenceLemmas.{looked_sound}
use Rattle.ql_eval.proofs.GivenLemmas.{given_later}
use Rattle.ql_eval.proofs.KnownLemmas.{object_is_line}
use Rattle.ql_eval.proofs.RememberLemmas.{all_recalled_later}
use Rattle.ql_eval.proofs.TruthLemmas.{truly_ends}
use Rattle.ql_eval.proofs.shelf_source.ShelfSourceSource.look_up.Goals as goal

pub returns-clause-later : goal.returns-clause-later
returns-clause-later g c = (
  refl,
  refl,
  c.look_up.ensures.stays,
  c.look_up.ensures.grows,
  c.look_up.ensures.keeps,
  c.look_up.ensures.absent,
  given_later _ _ c.args.self.now.manifest c.args.self.now.objects.now c.look_up.new.objects c.look_up.ensures.grows c.look_up.ensures.keeps,
  (λ r is. is),
  (λ given r is. given_later _ _ c.args.self.now.manifest c.args.self.now.objects.now c.look_up.new.objects c.look_up.ensures.grows c.look_up.ensures.keeps r (given r is)),
  refl,
  c.look_up.ensures.read,
)

pub returns-clause-answer : goal.returns-clause-answer
returns-clause-answer g c = λ p is under.
    object_is_line p c.args.name (truly_ends (under.0, c.look_up.ensures.remembers p under.0 under.1, all_recalled_later p _ _ c.args.self.now.memo.now.remembered.items c.look_up.ensures.grows under.2)
    (c.look_up.ensures.answer p is under.0 under.1))

pub returns-clause-told : goal.returns-clause-told
returns-clause-told g c = IfErr-weaker c.look_up.result _ _ (λ fault told absent kept. told) c.look_up.ensures.told

pub returns-clause-walked : goal.returns-clause-walked
returns-clause-walked g c = looked_sound c.look_up.result (top_among c.args.self.now.manifest.tops) (MayBeAbsentNow (statements_of c.args.self.now.statements.now) c.look_up.new.objects) c.args.name _ _ _ _ _ _ _ _ c.look_up.ensures.walked
