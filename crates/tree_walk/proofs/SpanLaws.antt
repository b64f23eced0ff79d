-- The spans of the nodes of a tree: those of a node's children lie in its own.
use Rattle.std.proofs.Common.{◌≡◌, ℕ, zero, suc, ◌<◌, List, [], ◌∷◌, ◌++◌, length, get_or, map, Option, Some, None, refl, sym, ap, subst, ◌∙◌, arith}
use Rattle.std.specs.List.{AllByRecursion}
use Rattle.std.proofs.lemmas.List.{map-append}
use Rattle.tree_node.specs.Nodes.{AreRisingFrom, Binding, Inner, Link, Node, greatests_of}
use Rattle.tree_node.specs.Trees.{HasTree, Shape, ends_by, greatest_of, is_marked_link, last_key, left_at, level_at, levels, link_to, no_node, pieces}
use Rattle.tree_node.proofs.shared.PieceLaws.{IsSized, pieces_sized, split_rising}
use Rattle.tree_node.proofs.shared.PieceLemmas.{join, pieces_join}
use Rattle.tree_node.proofs.shared.TreeLaws.{pair_at, whole}
use Rattle.tree_walk.specs.Spans.{children_of_all, children_placed, placed, HasChildrenWithin, IsWithin}
use Rattle.tree_walk.specs.Ranges.{IsAtMost, IsNoHigher, Range}
use Rattle.tree_walk.proofs.OpenChoices.{covered_narrower}
use Rattle.tree_walk.proofs.BoundLemmas.{all_at_most, children_append, left_from, left_none, no_higher_itself, no_higher_next}
use Rattle.tree_walk.proofs.LevelLemmas.{inner_rising}
use Rattle.tree_walk.proofs.MeetLemmas.{meets_wider}

-- ---- the children of the nodes of a level

children_joined : (tree level : ℕ) (left : Option (List ℕ)) (ps : List (List Link)) → AllByRecursion IsSized ps → children_of_all (placed greatest_of left (map (Inner tree level) ps)) ≡ children_placed left (join ps)
children_joined tree level left [] sized = refl
children_joined tree level left ([] ∷ ps) sized = absurd (omega (arith, sized.0.0))
children_joined tree level left ((l ∷ ls) ∷ ps) sized =
    ap (λ (cs : List (Option (List ℕ) × Link)). children_placed left (l ∷ ls) ++ cs) (children_joined tree level (Some (last_key (greatests_of (l ∷ ls)))) ps sized.1)
    ∙ sym (children_append left l ls (join ps))

-- are the nodes of the level below it
pub children_are : (shape : Shape) (tree : ℕ) (entries : List Binding) (level : ℕ) → suc level < length (levels shape tree entries)
    → children_of_all (placed greatest_of None (level_at (levels shape tree entries) (suc level))) ≡ children_placed None (map link_to (level_at (levels shape tree entries) level))
unfolding levels
children_are shape tree entries level lt =
    let links = map link_to (level_at (whole shape tree entries) level) in
    let ps = pieces (ends_by shape is_marked_link) links in
    ap (λ (ns : List Node). children_of_all (placed greatest_of None ns)) (pair_at shape tree entries level lt).1
    ∙ children_joined tree (suc level) None ps (pieces_sized shape is_marked_link links)
    ∙ ap (λ (ls : List Link). children_placed None ls) (pieces_join (ends_by shape is_marked_link) [] links)

-- ---- what holds of a child's span and its parent's

children_within : (range : Range) (outer left : Option (List ℕ)) (most : List ℕ) (links : List Link) → IsNoHigher outer left → AreRisingFrom left (greatests_of links)
    → AllByRecursion (λ (key : List ℕ). IsAtMost key most) (greatests_of links) → AllByRecursion (IsWithin range outer most) (children_placed left links)
children_within range outer left most [] no_higher rise below = tt
children_within range outer left most (l ∷ ls) no_higher rise below = (
  ((λ meets. meets_wider range left outer l.greatest most meets no_higher below.0), λ covers. covered_narrower range left outer l.greatest most covers no_higher rise.0 below.0),
  children_within range outer (Some l.greatest) most ls (no_higher_next outer left l.greatest no_higher rise.0) rise.1 below.1,
)

-- so it is of the children of each node
all_within : (range : Range) (tree level : ℕ) (left : Option (List ℕ)) (ps : List (List Link)) → AllByRecursion IsSized ps → AreRisingFrom left (greatests_of (join ps))
    → AllByRecursion (HasChildrenWithin range) (placed greatest_of left (map (Inner tree level) ps))
all_within range tree level left [] sized rise = tt
all_within range tree level left ([] ∷ ps) sized rise = absurd (omega (arith, sized.0.0))
all_within range tree level left ((l ∷ ls) ∷ ps) sized rise =
    let keys : AreRisingFrom left (greatests_of (l ∷ ls) ++ greatests_of (join ps)) = subst (λ (ks : List (List ℕ)). AreRisingFrom left ks) (map-append (λ (c : Link). c.greatest) (l ∷ ls) (join ps)) rise in
    let parts = split_rising left l.greatest (greatests_of ls) (greatests_of (join ps)) keys in (
      children_within range left left (last_key (greatests_of (l ∷ ls))) (l ∷ ls) (no_higher_itself left) parts.0 (all_at_most left (greatests_of (l ∷ ls)) parts.0),
      all_within range tree level (Some (last_key (greatests_of (l ∷ ls)))) ps sized.1 parts.1,
    )

-- and of those of each node of a level
pub level_within : (range : Range) (shape : Shape) (tree : ℕ) (entries : List Binding) (level : ℕ) → HasTree entries → suc level < length (levels shape tree entries)
    → AllByRecursion (HasChildrenWithin range) (placed greatest_of None (level_at (levels shape tree entries) (suc level)))
unfolding levels
level_within range shape tree entries level has lt =
    let links = map link_to (level_at (whole shape tree entries) level) in
    subst (λ (ns : List Node). AllByRecursion (HasChildrenWithin range) (placed greatest_of None ns)) (sym (pair_at shape tree entries level lt).1)
    (all_within range tree (suc level) None (pieces (ends_by shape is_marked_link) links) (pieces_sized shape is_marked_link links) (inner_rising shape tree entries level has lt))

-- ---- left bounds by place

placed_from : (left : Option (List ℕ)) (nodes : List Node) (place : ℕ) → place < length nodes → get_or (placed greatest_of left nodes) place (None, no_node) ≡ (left_from left nodes place, get_or nodes place no_node)
placed_from left [] place lt = absurd (omega arith)
placed_from left (n ∷ ns) zero lt = refl
placed_from left (n ∷ ns) (suc place) lt = placed_from (Some (greatest_of n)) ns place (omega arith)

pub placed_at : (nodes : List Node) (place : ℕ) → place < length nodes → get_or (placed greatest_of None nodes) place (None, no_node) ≡ (left_at nodes place, get_or nodes place no_node)
placed_at nodes place lt = placed_from None nodes place lt ∙ ap (λ (left : Option (List ℕ)). (left, get_or nodes place no_node)) (left_none nodes place lt)
