-- Pending children lie side by side.
use Rattle.std.proofs.Common.{◌≡◌, ℕ, List, [], ◌∷◌, ◌++◌, Option, None, Some, inl, inr, refl, sym, ap, subst, ◌∙◌}
use Rattle.std.specs.List.{AllByRecursion}
use Rattle.tree_node.specs.Nodes.{AreRisingFrom, Link, greatests_of}
use Rattle.tree_node.specs.Trees.{last_key}
use Rattle.tree_walk.specs.Choices.{AreThose}
use Rattle.tree_walk.specs.internal.Pendings.{AreInOrder}
use Rattle.tree_walk.specs.Reasons.{StartAbove}
use Rattle.tree_walk.specs.Spans.{children_placed}
use Rattle.tree_walk.specs.Ranges.{IsAboveLeft, IsAtMost, IsNoHigher}
use Rattle.tree_walk.proofs.FetchLemmas.{all_append, all_weaker}
use Rattle.tree_walk.proofs.shared.KeyLemmas.{at_most_trans}
use Rattle.tree_walk.proofs.BoundLemmas.{first_at_most, no_higher_next}

-- ---- bounds

higher_trans : (a b c : Option (List ℕ)) → IsNoHigher a b → IsNoHigher b c → IsNoHigher a c
higher_trans None b c p q = tt
higher_trans (Some x) None c p q = absurd p
higher_trans (Some x) (Some y) None p q = absurd q
higher_trans (Some x) (Some y) (Some z) p q = at_most_trans x y z p q

-- a lower bound of what comes first
pub from_lower : (low high : Option (List ℕ)) (spots : List (Option (List ℕ) × Link)) → IsNoHigher low high → AreInOrder high spots → AreInOrder low spots
from_lower low high [] lower order = tt
from_lower low high (spot ∷ spots) lower order = (higher_trans low high spot.0 lower order.0, order.1, order.2)

-- ---- the children of one node

-- rising keys are above what is below the first
pub rises_above : (left : Option (List ℕ)) (keys : List (List ℕ)) → StartAbove left keys → AreRisingFrom None keys → AreRisingFrom left keys
rises_above left [] starts rise = tt
rises_above left (key ∷ keys) starts rise = (starts, rise.1)

-- the greatest key below a child isn't above this one
abbrev pub EndsUpTo : List ℕ → Option (List ℕ) × Link → Type 0
EndsUpTo greatest spot = IsAtMost spot.1.greatest greatest

-- those of the children lie side by side
picked_order : (Has : Option (List ℕ) × Link → Type 0) (low left : Option (List ℕ)) (links : List Link) (picked : List (Option (List ℕ) × Link))
    → IsNoHigher low left → AreRisingFrom left (greatests_of links) → AreThose Has (children_placed left links) picked → AreInOrder low picked
picked_order Has low left [] picked lower rise are = subst (λ (ss : List (Option (List ℕ) × Link)). AreInOrder low ss) (sym are) tt
picked_order Has low left (c ∷ cs) picked lower rise (inl has) =
    subst (λ (ss : List (Option (List ℕ) × Link)). AreInOrder low ss) (sym has.1.1)
    (lower, rise.0, picked_order Has (Some c.greatest) (Some c.greatest) cs has.1.0 (inr refl) rise.1 has.1.2)
picked_order Has low left (c ∷ cs) picked lower rise (inr has) =
    picked_order Has low (Some c.greatest) cs picked (no_higher_next low left c.greatest lower rise.0) rise.1 has.1

-- up to the last of the children's keys
picked_up_to : (Has : Option (List ℕ) × Link → Type 0) (left : Option (List ℕ)) (links : List Link) (picked : List (Option (List ℕ) × Link))
    → AreRisingFrom left (greatests_of links) → AreThose Has (children_placed left links) picked → AllByRecursion (EndsUpTo (last_key (greatests_of links))) picked
picked_up_to Has left [] picked rise are = subst (λ (ss : List (Option (List ℕ) × Link)). AllByRecursion (EndsUpTo []) ss) (sym are) tt
picked_up_to Has left (c ∷ []) picked rise (inl has) =
    subst (λ (ss : List (Option (List ℕ) × Link)). AllByRecursion (EndsUpTo c.greatest) ss) (sym (has.1.1 ∙ ap (λ (ss : List (Option (List ℕ) × Link)). (left, c) ∷ ss) has.1.2)) (inr refl, tt)
picked_up_to Has left (c ∷ []) picked rise (inr has) = subst (λ (ss : List (Option (List ℕ) × Link)). AllByRecursion (EndsUpTo c.greatest) ss) (sym has.1) tt
picked_up_to Has left (c ∷ d ∷ cs) picked rise (inl has) =
    subst (λ (ss : List (Option (List ℕ) × Link)). AllByRecursion (EndsUpTo (last_key (greatests_of (d ∷ cs)))) ss) (sym has.1.1)
    (first_at_most left c.greatest (greatests_of (d ∷ cs)) rise, picked_up_to Has (Some c.greatest) (d ∷ cs) has.1.0 rise.1 has.1.2)
picked_up_to Has left (c ∷ d ∷ cs) picked rise (inr has) = picked_up_to Has (Some c.greatest) (d ∷ cs) picked rise.1 has.1

-- ---- the children of a level

-- those picked so far lie side by side, none above the bound
abbrev pub IsOrderedUpTo : Option (List ℕ) → List (Option (List ℕ) × Link) → Type 0
IsOrderedUpTo None spots = spots ≡ []
IsOrderedUpTo (Some greatest) spots = AreInOrder None spots × AllByRecursion (EndsUpTo greatest) spots

order_append : (low : Option (List ℕ)) (greatest : List ℕ) (spots more : List (Option (List ℕ) × Link)) → IsNoHigher low (Some greatest) → AreInOrder low spots → AllByRecursion (EndsUpTo greatest) spots
    → AreInOrder (Some greatest) more → AreInOrder low (spots ++ more)
order_append low greatest [] more lower order up others = from_lower low (Some greatest) more lower others
order_append low greatest (spot ∷ spots) more lower order up others =
    (order.0, order.1, order_append (Some spot.1.greatest) greatest spots more up.0 order.2 up.1 others)

-- those of one more node after them
pub order_step : (Has : Option (List ℕ) × Link → Type 0) (low left : Option (List ℕ)) (greatest : List ℕ) (links : List Link) (spots picked : List (Option (List ℕ) × Link))
    → IsNoHigher low left → IsAboveLeft left greatest → IsOrderedUpTo low spots → AreRisingFrom left (greatests_of links) → last_key (greatests_of links) ≡ greatest
    → AreThose Has (children_placed left links) picked → IsOrderedUpTo (Some greatest) (spots ++ picked)
order_step Has None left greatest links spots picked lower above ordered rise last those =
    subst (λ (ss : List (Option (List ℕ) × Link)). IsOrderedUpTo (Some greatest) (ss ++ picked)) (sym ordered) (
      picked_order Has None left links picked tt rise those,
      subst (λ (g : List ℕ). AllByRecursion (EndsUpTo g) picked) last (picked_up_to Has left links picked rise those),
    )
order_step Has (Some bound) left greatest links spots picked lower above ordered rise last those =
    let higher : IsNoHigher (Some bound) (Some greatest) = no_higher_next (Some bound) left greatest lower above in (
      order_append None bound spots picked tt ordered.0 ordered.1 (picked_order Has (Some bound) left links picked lower rise those),
      all_append (EndsUpTo greatest) spots picked (all_weaker (EndsUpTo bound) (EndsUpTo greatest) spots (λ s up. at_most_trans s.1.greatest bound greatest up higher) ordered.1)
          (subst (λ (g : List ℕ). AllByRecursion (EndsUpTo g) picked) last (picked_up_to Has left links picked rise those)),
    )

-- at the end they lie side by side
pub order_end : (low : Option (List ℕ)) (spots : List (Option (List ℕ) × Link)) → IsOrderedUpTo low spots → AreInOrder None spots
order_end None spots ordered = subst (λ (ss : List (Option (List ℕ) × Link)). AreInOrder None ss) (sym ordered) tt
order_end (Some greatest) spots ordered = ordered.0

-- those of the top's children
pub order_of_top : (Has : Option (List ℕ) × Link → Type 0) (links : List Link) (picked : List (Option (List ℕ) × Link)) → AreRisingFrom None (greatests_of links) → AreThose Has (children_placed None links) picked → AreInOrder None picked
order_of_top Has links picked rise those = picked_order Has None None links picked tt rise those
