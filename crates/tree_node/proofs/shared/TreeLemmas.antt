-- The levels of the tree of a list.
use Rattle.std.proofs.Common.{◌≡◌, ℕ, zero, suc, ◌+◌, ◌-◌, ◌*◌, ◌<◌, ◌≤◌, List, [], ◌∷◌, length, map, sum_by, inl, inr, refl, sym, ap, subst, ◌∙◌, arith, lt-ltb, le-ltb, length-append}
use Rattle.std.proofs.lemmas.Bool.{cases_lt}
use Rattle.std.specs.List.{AllByRecursion}
use Rattle.std.proofs.lemmas.List.{length-map}
use Rattle.std.proofs.lemmas.List.Sums.{sum_by-append, sum_by-cons}
use Rattle.tree_node.specs.Nodes.{Binding, Link, Node, Leaf, Inner, keys_of, greatests_of}
use Rattle.tree_node.specs.Trees.{Shape, pieces, one_at_least, ends_by, is_marked_entry, is_marked_link, last_key, link_to, leaves, level_over, levels_over, levels, FitsTree}
use Rattle.tree_node.proofs.shared.PieceLemmas.{join, least_joins, least_some, pieces_all, pieces_half, pieces_join, some_pieces, two_at_least}

-- ---- how many nodes a level has

pub leaves_some : (shape : Shape) (tree : ℕ) (entries : List Binding) → 1 ≤ length (leaves shape tree entries)
leaves_some shape tree entries =
    let ps = one_at_least (pieces (ends_by shape is_marked_entry) entries) in
    omega (arith, length-map ps (Leaf tree), least_some (pieces (ends_by shape is_marked_entry) entries))

pub leaves_few : (shape : Shape) (tree : ℕ) (entries : List Binding) (most : ℕ) → 1 ≤ most → length entries ≤ most → length (leaves shape tree entries) ≤ most
leaves_few shape tree entries most some few =
    let ps = pieces (ends_by shape is_marked_entry) entries in
    let half = pieces_half (ends_by shape is_marked_entry) (two_at_least shape is_marked_entry) [] entries in
    omega (arith, length-map (one_at_least ps) (Leaf tree), least_few ps)
  where
    least_few : (ps : List (List Binding)) → length (one_at_least ps) ≤ length ps + (1 - length ps)
    least_few [] = omega arith
    least_few (p ∷ ps) = omega arith

-- the pieces of a level that has nodes
pub over_some : (shape : Shape) (nodes : List Node) → 1 ≤ length nodes
    → one_at_least (pieces (ends_by shape is_marked_link) (map link_to nodes)) ≡ pieces (ends_by shape is_marked_link) (map link_to nodes)
over_some shape nodes some = some_pieces (ends_by shape is_marked_link) (map link_to nodes) (omega (arith, length-map nodes link_to))

pub level_some : (shape : Shape) (tree level : ℕ) (nodes : List Node) → 1 ≤ length nodes → 1 ≤ length (level_over shape tree level nodes)
level_some shape tree level nodes some =
    let ps = pieces (ends_by shape is_marked_link) (map link_to nodes) in
    omega (arith, length-map ps (Inner tree level), least_some ps, ap (length {A = List Link}) (over_some shape nodes some))

pub level_half : (shape : Shape) (tree level : ℕ) (nodes : List Node) → 2 * length (level_over shape tree level nodes) ≤ length nodes + 1
level_half shape tree level nodes =
    let ps = pieces (ends_by shape is_marked_link) (map link_to nodes) in
    let half = pieces_half (ends_by shape is_marked_link) (two_at_least shape is_marked_link) [] (map link_to nodes) in
    omega (arith, length-map ps (Inner tree level), length-map nodes link_to)

-- ---- the levels over some nodes

-- These are the levels over the nodes, of which the first has this number: each stands over the one below it, which has
-- two nodes or more, and the last has one.
abbrev pub AreLevels : Shape → ℕ → ℕ → List Node → List (List Node) → Type 0
AreLevels shape tree level nodes [] = length nodes ≡ 1
AreLevels shape tree level nodes (above ∷ others) =
    (2 ≤ length nodes) × (above ≡ level_over shape tree level nodes) × AreLevels shape tree (level + 1) above others

pub levels_end : (steps : ℕ) (shape : Shape) (tree level : ℕ) (nodes : List Node) → length nodes < 2 → levels_over steps shape tree level nodes ≡ []
unfolding levels_over
levels_end zero shape tree level nodes few = refl
levels_end (suc steps) shape tree level nodes few = rw (lt-ltb (length nodes) 2 few) refl

pub levels_step : (steps : ℕ) (shape : Shape) (tree level : ℕ) (nodes : List Node) → 2 ≤ length nodes
    → levels_over (suc steps) shape tree level nodes ≡ level_over shape tree level nodes ∷ levels_over steps shape tree (level + 1) (level_over shape tree level nodes)
unfolding levels_over
levels_step steps shape tree level nodes many = rw (le-ltb (length nodes) 2 many) refl

-- with steps enough, the definition gives them
pub levels_are : (steps : ℕ) (shape : Shape) (tree level : ℕ) (nodes : List Node) → 1 ≤ length nodes → length nodes ≤ steps → AreLevels shape tree level nodes (levels_over steps shape tree level nodes)
levels_are zero shape tree level nodes some enough = absurd (omega arith)
levels_are (suc steps) shape tree level nodes some enough =
    elim (cases_lt (length nodes) 2) [
      | inr many ↦
          let half = level_half shape tree level nodes in
          let next = levels_are steps shape tree (level + 1) (level_over shape tree level nodes) (level_some shape tree level nodes some) (omega arith) in
          subst (λ (above : List (List Node)). AreLevels shape tree level nodes above) (sym (levels_step steps shape tree level nodes many)) (many, refl, next)
      | inl few ↦ let one : length nodes ≡ 1 = omega arith in
          subst (λ (above : List (List Node)). AreLevels shape tree level nodes above) (sym (levels_end (suc steps) shape tree level nodes few)) one
    ]

-- the tree of a list
pub tree_is : (shape : Shape) (tree : ℕ) (entries : List Binding)
    → levels shape tree entries ≡ leaves shape tree entries ∷ levels_over (length (leaves shape tree entries)) shape tree 1 (leaves shape tree entries)
unfolding levels
tree_is shape tree entries = refl

pub tree_levels : (shape : Shape) (tree : ℕ) (entries : List Binding)
    → AreLevels shape tree 1 (leaves shape tree entries) (levels_over (length (leaves shape tree entries)) shape tree 1 (leaves shape tree entries))
tree_levels shape tree entries = levels_are (length (leaves shape tree entries)) shape tree 1 (leaves shape tree entries) (leaves_some shape tree entries) (omega arith)

-- ---- what links say

-- the entries that links state, together
abbrev pub numbers_of : List Link → ℕ
numbers_of links = sum_by (λ (link : Link). link.number) links

-- a level states as many entries as the one below it
pub numbers_over : (tree level : ℕ) (ps : List (List Link)) → numbers_of (map link_to (map (Inner tree level) ps)) ≡ numbers_of (join ps)
numbers_over tree level [] = refl
numbers_over tree level (p ∷ ps) =
    sum_by-cons (λ (l : Link). l.number) (link_to (Inner tree level p)) (map link_to (map (Inner tree level) ps))
    ∙ ap (λ n. numbers_of p + n) (numbers_over tree level ps) ∙ sym (sum_by-append (λ (l : Link). l.number) p (join ps))

pub level_numbers : (shape : Shape) (tree level : ℕ) (nodes : List Node) → numbers_of (map link_to (level_over shape tree level nodes)) ≡ numbers_of (map link_to nodes)
level_numbers shape tree level nodes =
    numbers_over tree level (pieces (ends_by shape is_marked_link) (map link_to nodes)) ∙ ap numbers_of (pieces_join (ends_by shape is_marked_link) [] (map link_to nodes))

-- the leaves state the entries
pub numbers_leaves : (tree : ℕ) (ps : List (List Binding)) → numbers_of (map link_to (map (Leaf tree) ps)) ≡ length (join ps)
numbers_leaves tree [] = refl
numbers_leaves tree (p ∷ ps) = omega (arith, sum_by-cons (λ (l : Link). l.number) (link_to (Leaf tree p)) (map link_to (map (Leaf tree) ps)), numbers_leaves tree ps, length-append p (join ps))

pub leaf_numbers : (shape : Shape) (tree : ℕ) (entries : List Binding) → numbers_of (map link_to (leaves shape tree entries)) ≡ length entries
leaf_numbers shape tree entries =
    let ps = pieces (ends_by shape is_marked_entry) entries in
    numbers_leaves tree (one_at_least ps) ∙ ap (length {A = Binding}) (least_joins ps ∙ pieces_join (ends_by shape is_marked_entry) [] entries)

-- a greatest key within the limit
abbrev pub IsShort : List ℕ → Type 0
IsShort key = length key ≤ 8203

pub last_short : (keys : List (List ℕ)) → AllByRecursion IsShort keys → IsShort (last_key keys)
last_short [] all = omega arith
last_short (key ∷ []) all = all.0
last_short (key ∷ next ∷ keys) all = last_short (next ∷ keys) all.1

abbrev pub HasShort : Link → Type 0
HasShort link = length link.greatest ≤ 8203

greatests_short : (links : List Link) → AllByRecursion HasShort links → AllByRecursion IsShort (greatests_of links)
greatests_short [] all = tt
greatests_short (l ∷ ls) all = (all.0, greatests_short ls all.1)

pub keys_short : (entries : List Binding) → AllByRecursion FitsTree entries → AllByRecursion IsShort (keys_of entries)
keys_short [] all = tt
keys_short (e ∷ es) all = (all.0.key, keys_short es all.1)

shorts_over : (tree level : ℕ) (ps : List (List Link)) → AllByRecursion (AllByRecursion HasShort) ps → AllByRecursion HasShort (map link_to (map (Inner tree level) ps))
shorts_over tree level [] all = tt
shorts_over tree level (p ∷ ps) all = (last_short (greatests_of p) (greatests_short p all.0), shorts_over tree level ps all.1)

shorts_leaves : (tree : ℕ) (ps : List (List Binding)) → AllByRecursion (AllByRecursion FitsTree) ps → AllByRecursion HasShort (map link_to (map (Leaf tree) ps))
shorts_leaves tree [] all = tt
shorts_leaves tree (p ∷ ps) all = (last_short (keys_of p) (keys_short p all.0), shorts_leaves tree ps all.1)

pub level_short : (shape : Shape) (tree level : ℕ) (nodes : List Node) → 1 ≤ length nodes → AllByRecursion HasShort (map link_to nodes) → AllByRecursion HasShort (map link_to (level_over shape tree level nodes))
level_short shape tree level nodes some all =
    shorts_over tree level (pieces (ends_by shape is_marked_link) (map link_to nodes))
    (subst (λ (ps : List (List Link)). AllByRecursion (AllByRecursion HasShort) ps) (over_some shape nodes some) (pieces_all HasShort (ends_by shape is_marked_link) (map link_to nodes) all))

pub leaf_short : (shape : Shape) (tree : ℕ) (entries : List Binding) → AllByRecursion FitsTree entries → AllByRecursion HasShort (map link_to (leaves shape tree entries))
leaf_short shape tree entries all =
    shorts_leaves tree (one_at_least (pieces (ends_by shape is_marked_entry) entries)) (pieces_all FitsTree (ends_by shape is_marked_entry) entries all)
