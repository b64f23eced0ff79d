use Rattle.std.proofs.Common.{◌++◌, ◌∷◌, [], arith, ap, inl, ◌∙◌}
use Rattle.std.proofs.lemmas.List.{map-append}
use Rattle.node_pack.specs.Hints.{Announcement, hint_of}
use Rattle.node_pack.specs.internal.Announcing.{announcements, hints_in}
use Rattle.node_pack.proofs.announced.Announced.keep.Goals as goal

pub returns-clause-full : goal.returns-clause-full
returns-clause-full c = λ bounded less. absurd (omega (arith, bounded, less, c.if-cost-self.false, c.saturating_add.ensures, c.saturating_add-cost.ensures))

pub returns-clause-either : goal.returns-clause-either
returns-clause-either c = λ bounded. inl (record {
  hints =
      ap announcements c.in_ok-push.ensures.items ∙ map-append hint_of c.args.self.now.hints.items (c.in_ok-hint.hint ∷ [])
      ∙ ap (λ (a : Announcement). hints_in c.args.self.now ++ a ∷ []) c.in_ok-hint.ensures;
  room = omega (arith, bounded, c.if-cost-self.false, c.saturating_add.ensures, c.saturating_add-cost.ensures);
})
