-- What is told of all edits of a tree, level by level.
use Rattle.std.proofs.Common.{◌≡◌, ℕ, suc, ◌+◌, ◌<◌, ◌≤◌, List, [], ◌∷◌, ◌++◌, length, map, ◌⊎◌, inl, inr, ◌↔◌, None, refl, sym, ap, subst, ◌∙◌, append_assoc, arith}
use Rattle.std.proofs.lemmas.List.{append-nil, map-append}
use Rattle.tree_node.specs.Nodes.{AreRisingFrom, Node, level_of, spelling}
use Rattle.tree_node.specs.Trees.{greatest_of, level_at}
use Rattle.tree_build.specs.internal.FoundTops.{AreOnce, IsKept, IsOpened}
use Rattle.tree_build.specs.internal.Telling.{node_digest}
use Rattle.tree_build.specs.internal.TreeEdits.{AreEdits}
use Rattle.tree_build.specs.internal.TreeTelling.{HaveTold}
use Rattle.tree_build.specs.internal.Weaving.{IsIn}
use Rattle.tree_build.specs.declared.step.LevelEdit.{LevelEdit}
use Rattle.tree_build.proofs.DifferSets.{gained_are, lost_are}
use Rattle.tree_build.proofs.OnceLemmas.{gained_once, in_append, lost_once, once_append, rise_once}
use Rattle.tree_build.proofs.TreeEdits.{woven_rise}
use Rattle.tree_build.proofs.WeaveLemmas.{in_back, in_front, in_woven, woven_apart, woven_first, woven_second}

pub from_or_above : (first level : ℕ) → first ≤ level → (level ≡ first) ⊎ (suc first ≤ level)
from_or_above first level le = grind arith

module _ (old : List (List Node)) (new : ℕ → List Node) where
  -- ---- what the edits have

  pub kept_from : (first : ℕ) (edits : List LevelEdit) (are : AreEdits old new first edits) (l : ℕ) (m : Node) → IsKept old new first edits are l m → (first ≤ l) × (l < first + length edits) × IsIn m (level_at old l) × IsIn m (new l)
  kept_from first [] are l m is = absurd is
  kept_from first (e ∷ es) are l m is = elim is [
    | inl here ↦ (
      omega (arith, here.0),
      omega (arith, here.0),
      subst (λ k. IsIn m (level_at old k)) (sym here.0) (woven_first m are.0.kept are.0.opened (level_at old first) are.0.was here.1),
      subst (λ k. IsIn m (new k)) (sym here.0) (woven_first m are.0.kept are.0.came (new first) are.0.is here.1),
    )
    | inr there ↦ let (from, to, one, two) = kept_from (suc first) es are.1 l m there in (omega (arith, from), omega (arith, to), one, two)
  ]

  pub opened_from : (first : ℕ) (edits : List LevelEdit) (are : AreEdits old new first edits) (l : ℕ) (m : Node) → IsOpened old new first edits are l m → (first ≤ l) × (l < first + length edits) × IsIn m (level_at old l)
  opened_from first [] are l m is = absurd is
  opened_from first (e ∷ es) are l m is = elim is [
    | inl here ↦ (
      omega (arith, here.0),
      omega (arith, here.0),
      subst (λ k. IsIn m (level_at old k)) (sym here.0) (woven_second m are.0.kept are.0.opened (level_at old first) are.0.was here.1),
    )
    | inr there ↦ let (from, to, one) = opened_from (suc first) es are.1 l m there in (omega (arith, from), omega (arith, to), one)
  ]

  -- a node of an edited level was kept or opened
  pub kept_or_opened : (first : ℕ) (edits : List LevelEdit) (are : AreEdits old new first edits) (l : ℕ) (m : Node) → first ≤ l → l < first + length edits → IsIn m (level_at old l) → IsKept old new first edits are l m ⊎ IsOpened old new first edits are l m
  kept_or_opened first [] are l m from to is = absurd (omega (arith, from, to))
  kept_or_opened first (e ∷ es) are l m from to is = elim (from_or_above first l from) [
    | inl here ↦ elim (in_woven m are.0.kept are.0.opened (level_at old first) are.0.was (subst (λ k. IsIn m (level_at old k)) here is)) [
      | inl keeps ↦ inl (inl (here, keeps))
      | inr opens ↦ inr (inl (here, opens))
    ]
    | inr above ↦ elim (kept_or_opened (suc first) es are.1 l m above (omega (arith, to)) is) [ inl keeps ↦ inl (inr keeps) | inr opens ↦ inr (inr opens) ]
  ]

  module _ (old_rises : (l : ℕ) → AreRisingFrom None (map greatest_of (level_at old l))) where
    -- and not both
    pub not_both : (first : ℕ) (edits : List LevelEdit) (are : AreEdits old new first edits) (l : ℕ) (m : Node) → IsKept old new first edits are l m → IsOpened old new first edits are l m → ⊥
    not_both first [] are l m keeps opens = keeps
    not_both first (e ∷ es) are l m keeps opens = elim keeps [
      | inl here ↦ elim opens [
        | inl too ↦ woven_apart greatest_of None are.0.kept are.0.opened (level_at old first) are.0.was (old_rises first) m here.1 too.1
        | inr there ↦ absurd (omega (arith, here.0, (opened_from (suc first) es are.1 l m there).0))
      ]
      | inr there ↦ elim opens [
        | inl here ↦ absurd (omega (arith, here.0, (kept_from (suc first) es are.1 l m there).0))
        | inr too ↦ not_both (suc first) es are.1 l m there too
      ]
    ]

  -- ---- what is told

  module _ (top : ℕ) where
    -- it has come to a level up to the top's
    pub record IsGained (first : ℕ) (edits : List LevelEdit) (m : Node) : Type 0 where
      pub level : ℕ
      pub from : first ≤ level
      pub to : level < first + length edits
      pub low : level ≤ top
      pub is : IsIn m (new level)
      pub not_old : ¬ IsIn m (level_at old level)

    -- it has gone from a level up to the top's, or was opened on one above
    abbrev pub GoesAt : (first : ℕ) (edits : List LevelEdit) → AreEdits old new first edits → ℕ → Node → Type 0
    GoesAt first edits are level m = ((level ≤ top) × IsIn m (level_at old level) × ¬ IsIn m (new level)) ⊎ ((top < level) × IsOpened old new first edits are level m)

    pub record IsLost (first : ℕ) (edits : List LevelEdit) (are : AreEdits old new first edits) (m : Node) : Type 0 where
      pub level : ℕ
      pub from : first ≤ level
      pub to : level < first + length edits
      pub goes : GoesAt first edits are level m

    pub record IsAllTold (first : ℕ) (edits : List LevelEdit) (are : AreEdits old new first edits) (added later gone lost_later : List (List ℕ)) : Type 0 where
      pub gained : List Node
      pub lost : List Node
      pub added_are : later ≡ added ++ map spelling gained
      pub gone_are : lost_later ≡ gone ++ map node_digest lost
      pub in_gained : (m : Node) → IsIn m gained ↔ IsGained first edits m
      pub in_lost : (m : Node) → IsIn m lost ↔ IsLost first edits are m
      pub gained_once : AreOnce gained
      pub lost_once : AreOnce lost

    -- what is told of the first level
    record IsFirstTold (first : ℕ) (e : LevelEdit) (es : List LevelEdit) (are : AreEdits old new first (e ∷ es)) (added next gone lost_next : List (List ℕ)) : Type 0 where
      pub gained : List Node
      pub lost : List Node
      pub added_are : next ≡ added ++ map spelling gained
      pub gone_are : lost_next ≡ gone ++ map node_digest lost
      pub in_gained : (m : Node) → IsIn m gained ↔ ((first ≤ top) × IsIn m (new first) × ¬ IsIn m (level_at old first))
      pub in_lost : (m : Node) → IsIn m lost ↔ (((first ≤ top) × IsIn m (level_at old first) × ¬ IsIn m (new first)) ⊎ ((top < first) × IsIn m are.0.opened))
      pub gained_once : AreOnce gained
      pub lost_once : AreOnce lost

    module _ (old_rises : (l : ℕ) → AreRisingFrom None (map greatest_of (level_at old l))) (new_rises : (l : ℕ) → AreRisingFrom None (map greatest_of (new l)))
        (old_level : (l : ℕ) (m : Node) → IsIn m (level_at old l) → level_of m ≡ l) (new_level : (l : ℕ) (m : Node) → IsIn m (new l) → level_of m ≡ l) where
      lost_is_old : (first : ℕ) (edits : List LevelEdit) (are : AreEdits old new first edits) (m : Node) (is : IsLost first edits are m) → IsIn m (level_at old is.level)
      lost_is_old first edits are m is = elim is.goes [ inl low ↦ low.1 | inr high ↦ (opened_from first edits are is.level m high.1).2 ]

      first_is_old : (first : ℕ) (e : LevelEdit) (es : List LevelEdit) (are : AreEdits old new first (e ∷ es)) (m : Node) → ((first ≤ top) × IsIn m (level_at old first) × ¬ IsIn m (new first)) ⊎ ((top < first) × IsIn m are.0.opened) → IsIn m (level_at old first)
      first_is_old first e es are m is = elim is [ inl low ↦ low.1 | inr high ↦ woven_second m are.0.kept are.0.opened (level_at old first) are.0.was high.1 ]

      told_more : (first : ℕ) (e : LevelEdit) (es : List LevelEdit) (are : AreEdits old new first (e ∷ es)) (added next later gone lost_next lost_later : List (List ℕ))
          → IsFirstTold first e es are added next gone lost_next → IsAllTold (suc first) es are.1 next later lost_next lost_later → IsAllTold first (e ∷ es) are added later gone lost_later
      told_more first e es are added next later gone lost_next lost_later one more = record {
        gained = one.gained ++ more.gained;
        lost = one.lost ++ more.lost;
        added_are = more.added_are ∙ ap (λ (bs : List (List ℕ)). bs ++ map spelling more.gained) one.added_are ∙ append_assoc added (map spelling one.gained) (map spelling more.gained)
            ∙ ap (λ (bs : List (List ℕ)). added ++ bs) (sym (map-append spelling one.gained more.gained));
        gone_are = more.gone_are ∙ ap (λ (bs : List (List ℕ)). bs ++ map node_digest more.lost) one.gone_are ∙ append_assoc gone (map node_digest one.lost) (map node_digest more.lost)
            ∙ ap (λ (bs : List (List ℕ)). gone ++ bs) (sym (map-append node_digest one.lost more.lost));
        in_gained = λ m. (
          (λ is. elim (in_append m one.gained more.gained is) [
            | inl here ↦ let (low, of_new, not) = (one.in_gained m).0 here in record { level = first; from = omega arith; to = omega arith; low = low; is = of_new; not_old = not }
            | inr there ↦ let g = (more.in_gained m).0 there in record { level = g.level; from = omega (arith, g.from); to = omega (arith, g.to); low = g.low; is = g.is; not_old = g.not_old }
          ]),
          (λ g. elim (from_or_above first g.level g.from) [
            | inl here ↦ in_front m one.gained more.gained ((one.in_gained m).1 (
              omega (arith, here, g.low),
              subst (λ k. IsIn m (new k)) here g.is,
              subst (λ k. ¬ IsIn m (level_at old k)) here g.not_old,
            ))
            | inr above ↦ in_back m one.gained more.gained ((more.in_gained m).1 (record { level = g.level; from = above; to = omega (arith, g.to); low = g.low; is = g.is; not_old = g.not_old }))
          ]),
        );
        in_lost = λ m. (
          (λ is. elim (in_append m one.lost more.lost is) [
            | inl here ↦ record {
              level = first;
              from = omega arith;
              to = omega arith;
              goes = elim ((one.in_lost m).0 here) [ inl low ↦ inl low | inr high ↦ inr (high.0, inl (refl, high.1)) ];
            }
            | inr there ↦ let g = (more.in_lost m).0 there in record {
              level = g.level;
              from = omega (arith, g.from);
              to = omega (arith, g.to);
              goes = elim g.goes [ inl low ↦ inl low | inr high ↦ inr (high.0, inr high.1) ];
            }
          ]),
          (λ g. elim (from_or_above first g.level g.from) [
            | inl here ↦ in_front m one.lost more.lost ((one.in_lost m).1 (elim g.goes [
              | inl low ↦ inl (omega (arith, here, low.0), subst (λ k. IsIn m (level_at old k)) here low.1, subst (λ k. ¬ IsIn m (new k)) here low.2)
              | inr high ↦ elim high.1 [
                | inl opens ↦ inr (omega (arith, here, high.0), opens.1)
                | inr there ↦ absurd (omega (arith, here, (opened_from (suc first) es are.1 g.level m there).0))
              ]
            ]))
            | inr above ↦ in_back m one.lost more.lost ((more.in_lost m).1 (record {
              level = g.level;
              from = above;
              to = omega (arith, g.to);
              goes = elim g.goes [
                | inl low ↦ inl low
                | inr high ↦ elim high.1 [
                  | inl opens ↦ absurd (omega (arith, opens.0, above))
                  | inr there ↦ inr (high.0, there)
                ]
              ];
            }))
          ]),
        );
        gained_once = once_append one.gained more.gained one.gained_once more.gained_once (λ m a b.
            let here = new_level first m ((one.in_gained m).0 a).1 in
            let g = (more.in_gained m).0 b in
            let there = new_level g.level m g.is in
            omega (arith, here, there, g.from));
        lost_once = once_append one.lost more.lost one.lost_once more.lost_once (λ m a b.
            let here = old_level first m (first_is_old first e es are m ((one.in_lost m).0 a)) in
            let g = (more.in_lost m).0 b in
            let there = old_level g.level m (lost_is_old (suc first) es are.1 m g) in
            omega (arith, here, there, g.from));
      }

      pub all_told : (first : ℕ) (edits : List LevelEdit) (are : AreEdits old new first edits) (added later gone lost_later : List (List ℕ)) → HaveTold old new top first edits are added later gone lost_later
          → IsAllTold first edits are added later gone lost_later
      all_told first [] are added later gone lost_later told = record {
        gained = [];
        lost = [];
        added_are = told.0 ∙ sym (append-nil added);
        gone_are = told.1 ∙ sym (append-nil gone);
        in_gained = λ m. ((λ is. absurd is), (λ g. absurd (omega (arith, g.from, g.to))));
        in_lost = λ m. ((λ is. absurd is), (λ g. absurd (omega (arith, g.from, g.to))));
        gained_once = tt;
        lost_once = tt;
      }
      all_told first (e ∷ es) are added later gone lost_later (next, lost_next, here, rest) =
          told_more first e es are added next later gone lost_next lost_later
          (elim here [
            | inl low ↦
                let olds_rise = woven_rise are.0.kept are.0.opened (level_at old first) are.0.was (old_rises first) in
                let news_rise = woven_rise are.0.kept are.0.came (new first) are.0.is (new_rises first) in
                let tells = low.1 in record {
                  gained = tells.gained;
                  lost = tells.lost;
                  added_are = tells.added_are;
                  gone_are = tells.gone_are;
                  in_gained = λ m.
                      let so = gained_are are.0.kept are.0.opened are.0.came (level_at old first) (new first) tells.lost tells.gained tells.changes are.0.was are.0.is (old_rises first) (new_rises first) olds_rise news_rise tells.parent_changes m in
                      ((λ is. let has = so.0 is in (low.0, has.0, has.1)), (λ has. so.1 (has.1, has.2)));
                  in_lost = λ m.
                      let so = lost_are are.0.kept are.0.opened are.0.came (level_at old first) (new first) tells.lost tells.gained tells.changes are.0.was are.0.is (old_rises first) (new_rises first) olds_rise news_rise tells.parent_changes m in
                      ((λ is. let has = so.0 is in inl (low.0, has.0, has.1)), (λ has. elim has [ inl goes ↦ so.1 (goes.1, goes.2) | inr high ↦ absurd (omega (arith, low.0, high.0)) ]));
                  gained_once = gained_once are.0.opened are.0.came tells.lost tells.gained tells.changes tells.parent_changes (rise_once None are.0.came news_rise);
                  lost_once = lost_once are.0.opened are.0.came tells.lost tells.gained tells.changes tells.parent_changes (rise_once None are.0.opened olds_rise);
                }
            | inr high ↦ record {
              gained = [];
              lost = are.0.opened;
              added_are = high.1 ∙ sym (append-nil added);
              gone_are = high.2;
              in_gained = λ m. ((λ is. absurd is), (λ has. absurd (omega (arith, high.0, has.0))));
              in_lost = λ m. ((λ is. inr (high.0, is)), (λ has. elim has [ inl goes ↦ absurd (omega (arith, goes.0, high.0)) | inr opens ↦ opens.1 ]));
              gained_once = tt;
              lost_once = rise_once None are.0.opened (woven_rise are.0.kept are.0.opened (level_at old first) are.0.was (old_rises first));
            }
          ])
          (all_told (suc first) es are.1 next later lost_next lost_later rest)
