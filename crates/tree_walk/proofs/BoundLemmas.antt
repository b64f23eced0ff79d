-- The left bounds of the nodes of a level, and the keys that are below each.
use Rattle.std.proofs.Common.{◌≡◌, ℕ, zero, suc, ◌<◌, List, [], ◌∷◌, ◌++◌, length, get_or, map, Option, Some, None, inl, inr, refl, ap, subst, arith}
use Rattle.std.specs.List.{AllByRecursion}
use Rattle.std.proofs.lemmas.List.{map-append}
use Rattle.tree_node.specs.Nodes.{AreBytes, AreRisingFrom, Binding, Link, Node, Leaf, Inner, greatests_of, keys_of}
use Rattle.tree_node.specs.Trees.{greatest_of, last_key, left_at, no_node}
use Rattle.tree_node.proofs.shared.PieceLaws.{IsSized, split_rising}
use Rattle.tree_node.proofs.shared.PieceLemmas.{join}
use Rattle.tree_walk.specs.Choices.{AreThose}
use Rattle.tree_walk.specs.Reasons.{StartAbove, node_keys}
use Rattle.tree_walk.specs.Spans.{children_placed}
use Rattle.tree_walk.specs.Ranges.{IsAboveLeft, IsAtMost, IsNoHigher, Meets, Range}
use Rattle.tree_walk.specs.Walks.{IsEntryIn}
use Rattle.tree_walk.proofs.shared.KeyLemmas.{at_most_below, below_at_most}
use Rattle.tree_walk.proofs.MeetLemmas.{meets_wider}

-- ---- where the keys of a node start

-- the keys of each node start above its left bound
abbrev pub StartEachAbove : Option (List ℕ) → List Node → Type 0
StartEachAbove left [] = Unit {0}
StartEachAbove left (node ∷ nodes) = StartAbove left (node_keys node) × StartEachAbove (Some (greatest_of node)) nodes

-- leaves over keys that rise start so,
pub leaves_start : (tree : ℕ) (left : Option (List ℕ)) (ps : List (List Binding)) → AllByRecursion IsSized ps → AreRisingFrom left (keys_of (join ps)) → StartEachAbove left (map (Leaf tree) ps)
leaves_start tree left [] sized rise = tt
leaves_start tree left ([] ∷ ps) sized rise = absurd (omega (arith, sized.0.0))
leaves_start tree left ((e ∷ es) ∷ ps) sized rise =
    let keys : AreRisingFrom left (keys_of (e ∷ es) ++ keys_of (join ps)) = subst (λ (ks : List (List ℕ)). AreRisingFrom left ks) (map-append (λ (b : Binding). b.key) (e ∷ es) (join ps)) rise in
    (rise.0, leaves_start tree (Some (last_key (keys_of (e ∷ es)))) ps sized.1 (split_rising left e.key (keys_of es) (keys_of (join ps)) keys).1)

-- and inner nodes
pub inner_start : (tree level : ℕ) (left : Option (List ℕ)) (ps : List (List Link)) → AllByRecursion IsSized ps → AreRisingFrom left (greatests_of (join ps)) → StartEachAbove left (map (Inner tree level) ps)
inner_start tree level left [] sized rise = tt
inner_start tree level left ([] ∷ ps) sized rise = absurd (omega (arith, sized.0.0))
inner_start tree level left ((l ∷ ls) ∷ ps) sized rise =
    let keys : AreRisingFrom left (greatests_of (l ∷ ls) ++ greatests_of (join ps)) = subst (λ (ks : List (List ℕ)). AreRisingFrom left ks) (map-append (λ (c : Link). c.greatest) (l ∷ ls) (join ps)) rise in
    (rise.0, inner_start tree level (Some (last_key (greatests_of (l ∷ ls)))) ps sized.1 (split_rising left l.greatest (greatests_of ls) (greatests_of (join ps)) keys).1)

-- ---- the keys in a span

-- a left bound doesn't leave out what it lets in,
pub no_higher_itself : (left : Option (List ℕ)) → IsNoHigher left left
no_higher_itself None = tt
no_higher_itself (Some l) = inr refl

-- nor what a key above it lets in
pub no_higher_next : (outer left : Option (List ℕ)) (key : List ℕ) → IsNoHigher outer left → IsAboveLeft left key → IsNoHigher outer (Some key)
no_higher_next None left key is above = tt
no_higher_next (Some o) None key is above = absurd is
no_higher_next (Some o) (Some l) key is above = inl (at_most_below o l key is above)

-- of keys that rise the first isn't above the last,
pub first_at_most : (low : Option (List ℕ)) (key : List ℕ) (keys : List (List ℕ)) → AreRisingFrom low (key ∷ keys) → IsAtMost key (last_key (key ∷ keys))
first_at_most low key [] rise = inr refl
first_at_most low key (next ∷ keys) rise = inl (below_at_most key next (last_key (next ∷ keys)) rise.1.0 (first_at_most (Some key) next keys rise.1))

-- and none is
pub all_at_most : (low : Option (List ℕ)) (keys : List (List ℕ)) → AreRisingFrom low keys → AllByRecursion (λ (key : List ℕ). IsAtMost key (last_key keys)) keys
all_at_most low [] rise = tt
all_at_most low (key ∷ []) rise = (inr refl, tt)
all_at_most low (key ∷ next ∷ keys) rise = (first_at_most low key (next ∷ keys) rise, all_at_most (Some key) (next ∷ keys) rise.1)

-- no entry of bytes in a span that doesn't meet the range is in it
pub no_entry_in : (range : Range) (outer left : Option (List ℕ)) (most : List ℕ) (es : List Binding) → (¬ Meets range outer most) → IsNoHigher outer left → AreRisingFrom left (keys_of es)
    → AllByRecursion (λ (key : List ℕ). IsAtMost key most) (keys_of es) → AllByRecursion (λ (e : Binding). AreBytes e.key) es → AreThose (IsEntryIn range) es []
no_entry_in range outer left most [] unmet no_higher rise below bytes = refl
no_entry_in range outer left most (e ∷ es) unmet no_higher rise below bytes =
    inr (
      (λ is. unmet (meets_wider range left outer e.key most (e.key, bytes.0, rise.0, inr refl, is) no_higher below.0)),
      no_entry_in range outer (Some e.key) most es unmet (no_higher_next outer left e.key no_higher rise.0) rise.1 below.1 bytes.1,
    )

-- children after others have the last one's greatest key as their left bound
pub children_append : (left : Option (List ℕ)) (l : Link) (ls more : List Link)
    → children_placed left ((l ∷ ls) ++ more) ≡ children_placed left (l ∷ ls) ++ children_placed (Some (last_key (greatests_of (l ∷ ls)))) more
children_append left l [] more = refl
children_append left l (m ∷ ls) more = ap (λ (cs : List (Option (List ℕ) × Link)). (left, l) ∷ cs) (children_append (Some l.greatest) m ls more)

-- ---- left bounds by place

-- the left bound of a place, where the first node has this one
abbrev pub left_from : Option (List ℕ) → List Node → ℕ → Option (List ℕ)
left_from left nodes zero = left
left_from left [] (suc place) = left
left_from left (node ∷ nodes) (suc place) = left_from (Some (greatest_of node)) nodes place

-- after a node they are
left_after : (node : Node) (nodes : List Node) (place : ℕ) → place < length (node ∷ nodes) → left_from (Some (greatest_of node)) nodes place ≡ Some (greatest_of (get_or (node ∷ nodes) place no_node))
left_after node nodes zero lt = refl
left_after node [] (suc place) lt = absurd (omega arith)
left_after node (n ∷ nodes) (suc place) lt = left_after n nodes place (omega arith)

-- without one they are those of a level
pub left_none : (nodes : List Node) (place : ℕ) → place < length nodes → left_from None nodes place ≡ left_at nodes place
left_none nodes zero lt = refl
left_none [] (suc place) lt = absurd (omega arith)
left_none (n ∷ nodes) (suc place) lt = left_after n nodes place (omega arith)
