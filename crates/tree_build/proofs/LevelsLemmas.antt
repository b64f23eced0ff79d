-- All levels of a tree and of a tower, those out of range too, which have no nodes.
use Rattle.std.proofs.Common.{◌≡◌, ℕ, zero, suc, ◌-◌, ◌<◌, ◌≤◌, List, [], ◌∷◌, length, get_or, map, ◌⊎◌, inl, inr, None, refl, sym, ap, subst, arith}
use Rattle.std.specs.List.{AllByRecursion}
use Rattle.tree_node.specs.Nodes.{AreRisingFrom, Binding, Inner, IsNode, IsTree, Leaf, Link, Node, level_of, tree_of}
use Rattle.tree_node.specs.Trees.{HasTree, Two, ends_by, greatest_of, is_marked_entry, is_marked_link, level_at, level_over, levels, levels_over, link_to, pieces}
use Rattle.tree_node.proofs.shared.PieceLemmas.{some_pieces}
use Rattle.tree_node.proofs.shared.TreeLaws.{has_at, pair_at, whole}
use Rattle.tree_node.proofs.shared.TreeLemmas.{leaves_some}
use Rattle.tree_node.proofs.shared.TreeParts.{kind_at}
use Rattle.tree_build.specs.internal.Towers.{tower}
use Rattle.tree_build.specs.internal.Weaving.{IsIn}
use Rattle.tree_build.proofs.GrowLemmas.{tower_some}
use Rattle.tree_build.proofs.OldLevels.{old_nodes, old_rises}
use Rattle.tree_build.proofs.TowerLemmas.{top_found, tower_is}

pub low_or_past : (level len : ℕ) → (level < len) ⊎ (len ≤ level)
low_or_past level len = grind arith

pub past_end : {X : Type 0} (xs : List X) (n : ℕ) (d : X) → length xs ≤ n → get_or xs n d ≡ d
past_end [] n d le = refl
past_end (x ∷ xs) zero d le = absurd (omega (arith, le))
past_end (x ∷ xs) (suc n) d le = past_end xs n d (omega (arith, le))

pub in_all : {X : Type 0} (P : X → Type 0) (xs : List X) (x : X) → AllByRecursion P xs → IsIn x xs → P x
in_all P [] x all is = absurd is
in_all {X} P (y ∷ ys) x all is = elim is [ inl here ↦ subst P (sym here) all.0 | inr there ↦ in_all P ys x all.1 there ]

pub in_none : (m : Node) (ns : List Node) → ns ≡ [] → IsIn m ns → ⊥
in_none m [] e is = is
in_none m (n ∷ ns) e is = absurd cc

module _ (tree : ℕ) (entries : List Binding) where
  pub none_past : (level : ℕ) → length (levels Two tree entries) ≤ level → level_at (levels Two tree entries) level ≡ []
  none_past level le = past_end (levels Two tree entries) level [] le

  pub in_range : (level : ℕ) (m : Node) → IsIn m (level_at (levels Two tree entries) level) → level < length (levels Two tree entries)
  in_range level m is = elim (low_or_past level (length (levels Two tree entries))) [
    | inl lt ↦ lt
    | inr le ↦ absurd (in_none m (level_at (levels Two tree entries) level) (none_past level le) is)
  ]

  pub level_in : (level : ℕ) (m : Node) → IsIn m (level_at (levels Two tree entries) level) → level_of m ≡ level
  unfolding levels
  level_in level m is = (in_all (λ (n : Node). (level_of n ≡ level) × (tree_of n ≡ tree)) (level_at (whole Two tree entries) level) m (kind_at Two tree entries level (in_range level m is)) is).0

  pub some_at : (level : ℕ) → level < length (levels Two tree entries) → 1 ≤ length (level_at (levels Two tree entries) level)
  unfolding levels
  some_at level lt = has_at Two tree entries level lt

  pub two_below : (level : ℕ) → suc level < length (levels Two tree entries) → 2 ≤ length (level_at (levels Two tree entries) level)
  unfolding levels
  two_below level lt = (pair_at Two tree entries level lt).0

  pub next_is : (level : ℕ) → suc level < length (levels Two tree entries) → level_at (levels Two tree entries) (suc level) ≡ level_over Two tree (suc level) (level_at (levels Two tree entries) level)
  unfolding levels
  next_is level lt = (pair_at Two tree entries level lt).1

  module _ (has : HasTree entries) where
    pub all_rise : (level : ℕ) → AreRisingFrom None (map greatest_of (level_at (levels Two tree entries) level))
    all_rise level = elim (low_or_past level (length (levels Two tree entries))) [
      | inl lt ↦ old_rises tree entries has level lt
      | inr le ↦ subst (λ (ns : List Node). AreRisingFrom None (map greatest_of ns)) (sym (none_past level le)) tt
    ]

    pub all_nodes : IsTree tree → (level : ℕ) → AllByRecursion IsNode (level_at (levels Two tree entries) level)
    all_nodes is_tree level = elim (low_or_past level (length (levels Two tree entries))) [
      | inl lt ↦ old_nodes tree entries has is_tree level lt
      | inr le ↦ subst (λ (ns : List Node). AllByRecursion IsNode ns) (sym (none_past level le)) tt
    ]

    pub nodes_in : IsTree tree → (level : ℕ) (m : Node) → IsIn m (level_at (levels Two tree entries) level) → IsNode m
    nodes_in is_tree level m is = in_all IsNode (level_at (levels Two tree entries) level) m (old_nodes tree entries has is_tree level (in_range level m is)) is

-- ---- towers

leaf_levels : (tree : ℕ) (ps : List (List Binding)) (m : Node) → IsIn m (map (Leaf tree) ps) → level_of m ≡ 0
leaf_levels tree [] m is = absurd is
leaf_levels tree (p ∷ ps) m is = elim is [ inl here ↦ ap level_of here | inr there ↦ leaf_levels tree ps m there ]

inner_levels : (tree level : ℕ) (ps : List (List Link)) (m : Node) → IsIn m (map (Inner tree level) ps) → level_of m ≡ level
inner_levels tree level [] m is = absurd is
inner_levels tree level (p ∷ ps) m is = elim is [ inl here ↦ ap level_of here | inr there ↦ inner_levels tree level ps m there ]

pub tower_level : (tree : ℕ) (entries : List Binding) (level : ℕ) (m : Node) → IsIn m (tower Two tree entries level) → level_of m ≡ level
unfolding tower
tower_level tree entries zero m is = leaf_levels tree (pieces (ends_by Two is_marked_entry) entries) m is
tower_level tree entries (suc level) m is = inner_levels tree (suc level) (pieces (ends_by Two is_marked_link) (map link_to (tower Two tree entries level))) m is

pub tower_step : (tree : ℕ) (entries : List Binding) (level : ℕ) → tower Two tree entries (suc level) ≡ level_over Two tree (suc level) (tower Two tree entries level)
unfolding tower
tower_step tree entries level = refl

pub tower_none : (tree level : ℕ) → tower Two tree [] level ≡ []
unfolding tower
tower_none tree zero = refl
tower_none tree (suc level) = ap (λ (ns : List Node). level_over Two tree (suc level) ns) (tower_none tree level)

-- a level with a node is over an entry
pub entries_under : (tree : ℕ) (entries : List Binding) (level : ℕ) → 1 ≤ length (tower Two tree entries level) → 1 ≤ length entries
entries_under tree [] level some = absurd (omega (arith, some, ap (length {A = Node}) (tower_none tree level)))
entries_under tree (e ∷ es) level some = omega arith

pub nodes_over : (tree : ℕ) (e : Binding) (es : List Binding) (level : ℕ) → 1 ≤ length (tower Two tree (e ∷ es) level)
unfolding tower
nodes_over tree e es zero = subst (λ (ps : List (List Binding)). 1 ≤ length (map (Leaf tree) ps)) (some_pieces (ends_by Two is_marked_entry) (e ∷ es) (omega arith)) (leaves_some Two tree (e ∷ es))
nodes_over tree e es (suc level) = tower_some tree (e ∷ es) level (nodes_over tree e es level)

pub no_entries : (tree : ℕ) (entries : List Binding) (level : ℕ) → tower Two tree entries level ≡ [] → entries ≡ []
no_entries tree [] level none = refl
no_entries tree (e ∷ es) level none = absurd (omega (arith, nodes_over tree e es level, ap (length {A = Node}) none))

pub tower_in : (tree : ℕ) (entries : List Binding) → 1 ≤ length entries → (level : ℕ) → level < length (levels Two tree entries) → level_at (levels Two tree entries) level ≡ tower Two tree entries level
unfolding levels
tower_in tree entries some level lt = tower_is Two tree entries some level lt

pub height_is : (tree : ℕ) (entries : List Binding) → 1 ≤ length entries → (level : ℕ) → length (tower Two tree entries level) ≡ 1 → (level ≡ 0) ⊎ (2 ≤ length (tower Two tree entries (level - 1))) → length (levels Two tree entries) ≡ suc level
unfolding levels
height_is tree entries some level one first = top_found Two tree entries some level one first

-- the tree of no entries
pub empty_tree : (tree : ℕ) → levels Two tree [] ≡ (Leaf tree [] ∷ []) ∷ []
unfolding levels levels_over
empty_tree tree = refl
