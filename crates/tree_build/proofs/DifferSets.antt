-- The nodes that the one list has and the other hasn't.
use Rattle.std.proofs.Common.{◌≢◌, ℕ, List, [], ◌∷◌, map, inl, inr, ◌↔◌, Option, None, Some, sym, ap, subst, ◌∙◌}
use Rattle.tree_node.specs.Nodes.{AreRisingFrom, Link, Node}
use Rattle.tree_node.specs.Trees.{greatest_of}
use Rattle.tree_build.specs.Changing.{Change}
use Rattle.tree_build.specs.internal.Differing.{Differ, nothing, gone_last, gone, came_last, came, same, replaced}
use Rattle.tree_build.specs.internal.Weaving.{IsIn, Woven}
use Rattle.tree_build.proofs.DifferChanges.{new_kept, not_same}
use Rattle.tree_build.proofs.WeaveLemmas.{only_one}

abbrev Rise : Option (List ℕ) → List Node → Type 0
Rise low ns = AreRisingFrom low (map greatest_of ns)

pub gained_new : (olds news lost gained : List Node) (cs : List (Change Link)) → Differ olds news lost gained cs → (m : Node) → IsIn m gained → IsIn m news
gained_new _ _ _ _ _ nothing m is = is
gained_new _ _ _ _ _ (gone_last o os lost gained cs d) m is = gained_new os [] lost gained cs d m is
gained_new _ _ _ _ _ (gone o os n ns lost gained cs below d) m is = gained_new os (n ∷ ns) lost gained cs d m is
gained_new _ _ _ _ _ (came_last n ns lost gained cs d) m is = elim is [ inl here ↦ inl here | inr there ↦ inr (gained_new [] ns lost gained cs d m there) ]
gained_new _ _ _ _ _ (came o os n ns lost gained cs below d) m is = elim is [ inl here ↦ inl here | inr there ↦ inr (gained_new (o ∷ os) ns lost gained cs d m there) ]
gained_new _ _ _ _ _ (same o os n ns lost gained cs equal d) m is = inr (gained_new os ns lost gained cs d m is)
gained_new _ _ _ _ _ (replaced o os n ns lost gained cs equal other d) m is = elim is [ inl here ↦ inl here | inr there ↦ inr (gained_new os ns lost gained cs d m there) ]

pub lost_old : (olds news lost gained : List Node) (cs : List (Change Link)) → Differ olds news lost gained cs → (m : Node) → IsIn m lost → IsIn m olds
lost_old _ _ _ _ _ nothing m is = is
lost_old _ _ _ _ _ (gone_last o os lost gained cs d) m is = elim is [ inl here ↦ inl here | inr there ↦ inr (lost_old os [] lost gained cs d m there) ]
lost_old _ _ _ _ _ (gone o os n ns lost gained cs below d) m is = elim is [ inl here ↦ inl here | inr there ↦ inr (lost_old os (n ∷ ns) lost gained cs d m there) ]
lost_old _ _ _ _ _ (came_last n ns lost gained cs d) m is = lost_old [] ns lost gained cs d m is
lost_old _ _ _ _ _ (came o os n ns lost gained cs below d) m is = lost_old (o ∷ os) ns lost gained cs d m is
lost_old _ _ _ _ _ (same o os n ns lost gained cs equal d) m is = inr (lost_old os ns lost gained cs d m is)
lost_old _ _ _ _ _ (replaced o os n ns lost gained cs equal other d) m is = elim is [ inl here ↦ inl here | inr there ↦ inr (lost_old os ns lost gained cs d m there) ]

-- in a list whose keys rise from this node's a node isn't the same
other_above : (n : Node) (ns : List Node) → Rise (Some (greatest_of n)) ns → (m : Node) → IsIn m ns → m ≢ n
other_above n ns rise m is e = not_same (greatest_of n) ns rise m is (ap greatest_of e)

gained_not_old : (low : Option (List ℕ)) (olds news lost gained : List Node) (cs : List (Change Link)) → Differ olds news lost gained cs → Rise low olds → Rise low news → (m : Node) → IsIn m gained → IsIn m olds → ⊥
gained_not_old low _ _ _ _ _ nothing one two m is old = is
gained_not_old low _ _ _ _ _ (gone_last o os lost gained cs d) one two m is old = gained_new os [] lost gained cs d m is
gained_not_old low _ _ _ _ _ (gone o os n ns lost gained cs below d) one two m is old = elim old [
  | inl here ↦ other_above o (n ∷ ns) (below, two.1) m (gained_new os (n ∷ ns) lost gained cs d m is) here
  | inr there ↦ gained_not_old (Some (greatest_of o)) os (n ∷ ns) lost gained cs d one.1 (below, two.1) m is there
]
gained_not_old low _ _ _ _ _ (came_last n ns lost gained cs d) one two m is old = old
gained_not_old low _ _ _ _ _ (came o os n ns lost gained cs below d) one two m is old = elim is [
  | inl here ↦ other_above n (o ∷ os) (below, one.1) m old here
  | inr there ↦ gained_not_old (Some (greatest_of n)) (o ∷ os) ns lost gained cs d (below, one.1) two.1 m there old
]
gained_not_old low _ _ _ _ _ (same o os n ns lost gained cs equal d) one two m is old =
    let rises : Rise (Some (greatest_of o)) ns = subst (λ (p : Node). Rise (Some (greatest_of p)) ns) (sym equal) two.1 in
    elim old [
      | inl here ↦ other_above o ns rises m (gained_new os ns lost gained cs d m is) here
      | inr there ↦ gained_not_old (Some (greatest_of o)) os ns lost gained cs d one.1 rises m is there
    ]
gained_not_old low _ _ _ _ _ (replaced o os n ns lost gained cs equal other d) one two m is old =
    let rises : Rise (Some (greatest_of n)) os = subst (λ (k : List ℕ). Rise (Some k) os) equal one.1 in
    elim is [
      | inl here ↦ elim old [ inl it ↦ other (sym it ∙ here) | inr there ↦ other_above n os rises m there here ]
      | inr later ↦ elim old [
        | inl it ↦ not_same (greatest_of n) ns two.1 m (gained_new os ns lost gained cs d m later) (ap greatest_of it ∙ equal)
        | inr there ↦ gained_not_old (Some (greatest_of n)) os ns lost gained cs d rises two.1 m later there
      ]
    ]

lost_not_new : (low : Option (List ℕ)) (olds news lost gained : List Node) (cs : List (Change Link)) → Differ olds news lost gained cs → Rise low olds → Rise low news → (m : Node) → IsIn m lost → IsIn m news → ⊥
lost_not_new low _ _ _ _ _ nothing one two m is new = is
lost_not_new low _ _ _ _ _ (gone_last o os lost gained cs d) one two m is new = new
lost_not_new low _ _ _ _ _ (gone o os n ns lost gained cs below d) one two m is new = elim is [
  | inl here ↦ other_above o (n ∷ ns) (below, two.1) m new here
  | inr there ↦ lost_not_new (Some (greatest_of o)) os (n ∷ ns) lost gained cs d one.1 (below, two.1) m there new
]
lost_not_new low _ _ _ _ _ (came_last n ns lost gained cs d) one two m is new = lost_old [] ns lost gained cs d m is
lost_not_new low _ _ _ _ _ (came o os n ns lost gained cs below d) one two m is new = elim new [
  | inl here ↦ other_above n (o ∷ os) (below, one.1) m (lost_old (o ∷ os) ns lost gained cs d m is) here
  | inr there ↦ lost_not_new (Some (greatest_of n)) (o ∷ os) ns lost gained cs d (below, one.1) two.1 m is there
]
lost_not_new low _ _ _ _ _ (same o os n ns lost gained cs equal d) one two m is new =
    let rises : Rise (Some (greatest_of o)) ns = subst (λ (p : Node). Rise (Some (greatest_of p)) ns) (sym equal) two.1 in
    elim new [
      | inl here ↦ other_above o os one.1 m (lost_old os ns lost gained cs d m is) (here ∙ sym equal)
      | inr there ↦ lost_not_new (Some (greatest_of o)) os ns lost gained cs d one.1 rises m is there
    ]
lost_not_new low _ _ _ _ _ (replaced o os n ns lost gained cs equal other d) one two m is new =
    let rises : Rise (Some (greatest_of n)) os = subst (λ (k : List ℕ). Rise (Some k) os) equal one.1 in
    elim is [
      | inl here ↦ elim new [ inl it ↦ other (sym here ∙ it) | inr there ↦ not_same (greatest_of n) ns two.1 m there (ap greatest_of here ∙ equal) ]
      | inr later ↦ elim new [
        | inl it ↦ other_above n os rises m (lost_old os ns lost gained cs d m later) it
        | inr there ↦ lost_not_new (Some (greatest_of n)) os ns lost gained cs d rises two.1 m later there
      ]
    ]

old_lost : (olds news lost gained : List Node) (cs : List (Change Link)) → Differ olds news lost gained cs → (m : Node) → IsIn m olds → (IsIn m news → ⊥) → IsIn m lost
old_lost _ _ _ _ _ nothing m is none_new = is
old_lost _ _ _ _ _ (gone_last o os lost gained cs d) m is none_new = elim is [ inl here ↦ inl here | inr there ↦ inr (old_lost os [] lost gained cs d m there none_new) ]
old_lost _ _ _ _ _ (gone o os n ns lost gained cs below d) m is none_new = elim is [ inl here ↦ inl here | inr there ↦ inr (old_lost os (n ∷ ns) lost gained cs d m there none_new) ]
old_lost _ _ _ _ _ (came_last n ns lost gained cs d) m is none_new = absurd is
old_lost _ _ _ _ _ (came o os n ns lost gained cs below d) m is none_new = old_lost (o ∷ os) ns lost gained cs d m is (λ new. none_new (inr new))
old_lost _ _ _ _ _ (same o os n ns lost gained cs equal d) m is none_new = elim is [ inl here ↦ absurd (none_new (inl (here ∙ equal))) | inr there ↦ old_lost os ns lost gained cs d m there (λ new. none_new (inr new)) ]
old_lost _ _ _ _ _ (replaced o os n ns lost gained cs equal other d) m is none_new = elim is [ inl here ↦ inl here | inr there ↦ inr (old_lost os ns lost gained cs d m there (λ new. none_new (inr new))) ]

module _ (kept olds news old new lost gained : List Node) (cs : List (Change Link)) (was : Woven kept olds old) (is : Woven kept news new) (old_rises : Rise None old) (new_rises : Rise None new)
    (olds_rise : Rise None olds) (news_rise : Rise None news) (d : Differ olds news lost gained cs) where
  -- the gained nodes are those of the new level that the old one hasn't
  pub gained_are : (n : Node) → IsIn n gained ↔ (IsIn n new × ¬ IsIn n old)
  gained_are n =
      let one = only_one greatest_of kept news olds new old is was new_rises n in (
        (λ here. one.1 (gained_new olds news lost gained cs d n here, gained_not_old None olds news lost gained cs d olds_rise news_rise n here)),
        (λ has. let mine = one.0 has in elim (new_kept None olds news lost gained cs d olds_rise news_rise n mine.0) [ inl puts ↦ puts.1 | inr stays ↦ absurd (mine.1 stays.0) ]),
      )

  -- the lost ones are those of the old level that the new one hasn't
  pub lost_are : (n : Node) → IsIn n lost ↔ (IsIn n old × ¬ IsIn n new)
  lost_are n =
      let one = only_one greatest_of kept olds news old new was is old_rises n in (
        (λ here. one.1 (lost_old olds news lost gained cs d n here, lost_not_new None olds news lost gained cs d olds_rise news_rise n here)),
        (λ has. let mine = one.0 has in old_lost olds news lost gained cs d n mine.0 mine.1),
      )
