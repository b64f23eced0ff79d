-- A tree is the foot of its tower, up to the first level with one node.
use Rattle.std.proofs.Common.{◌≡◌, ℕ, zero, suc, ◌+◌, ◌-◌, ◌<◌, ◌≤◌, List, [], ◌∷◌, length, map, ◌⊎◌, inl, inr, sym, ap, ◌∙◌, arith}
use Rattle.std.specs.List.{flat_map}
use Rattle.std.proofs.lemmas.List.{length-map, append-nil}
use Rattle.tree_node.specs.Nodes.{Binding, Link, Node, Leaf}
use Rattle.tree_node.specs.Trees.{Shape, ends_by, is_marked_entry, level_over, level_at, links_in, link_to, leaves}
use Rattle.tree_node.proofs.shared.PieceLemmas.{some_pieces}
use Rattle.tree_node.proofs.shared.TreeLemmas.{level_half, level_some, tree_levels}
use Rattle.tree_node.proofs.shared.TreeLaws.{above, last_has_one, over_joined, pair_at, whole}
use Rattle.tree_build.specs.internal.Towers.{tower}

module _ (shape : Shape) (tree : ℕ) (entries : List Binding) (some : 1 ≤ length entries) where
  -- the levels of the tree are those of the tower
  pub tower_is : (level : ℕ) → level < length (whole shape tree entries) → level_at (whole shape tree entries) level ≡ tower shape tree entries level
  unfolding tower
  tower_is zero lt = ap (map (Leaf tree)) (some_pieces (ends_by shape is_marked_entry) entries some)
  tower_is (suc level) lt = (pair_at shape tree entries level lt).1 ∙ ap (level_over shape tree (suc level)) (tower_is level (omega arith))

  abbrev top_level : ℕ
  top_level = length (whole shape tree entries) - 1

  tower_top : length (tower shape tree entries top_level) ≡ 1
  tower_top = ap (length {A = Node}) (sym (tower_is top_level (omega arith))) ∙ last_has_one shape tree 1 (leaves shape tree entries) (above shape tree entries) (tree_levels shape tree entries)

  -- over one node there is one
  pub tower_over_one : (level : ℕ) → length (tower shape tree entries level) ≡ 1 → length (tower shape tree entries (suc level)) ≡ 1
  unfolding tower
  tower_over_one level one =
      let half = level_half shape tree (suc level) (tower shape tree entries level) in
      let has = level_some shape tree (suc level) (tower shape tree entries level) (omega (arith, one)) in
      omega (arith, one, half, has)

  tower_stays_one : (steps level : ℕ) → length (tower shape tree entries level) ≡ 1 → length (tower shape tree entries (steps + level)) ≡ 1
  tower_stays_one zero level one = let same : 0 + level ≡ level = omega arith in ap (λ n. length (tower shape tree entries n)) same ∙ one
  tower_stays_one (suc steps) level one =
      let same : suc steps + level ≡ suc (steps + level) = omega arith in
      ap (λ n. length (tower shape tree entries n)) same ∙ tower_over_one (steps + level) (tower_stays_one steps level one)

  -- The first level of the tower that has one node is the last of the tree.
  pub top_found : (level : ℕ) → length (tower shape tree entries level) ≡ 1 → (level ≡ 0) ⊎ (2 ≤ length (tower shape tree entries (level - 1))) → length (whole shape tree entries) ≡ suc level
  top_found level one first = elim (compare level top_level) [
    | inl (inl low) ↦
        let lt : suc level < length (whole shape tree entries) = omega arith in
        let two = (pair_at shape tree entries level lt).0 in
        let here = ap (length {A = Node}) (tower_is level (omega arith)) in
        absurd (omega (arith, two, here, one))
    | inl (inr same) ↦ omega arith
    | inr high ↦ elim first [
      | inl zero_level ↦ absurd (omega arith)
      | inr two ↦
          let steps = level - 1 - top_level in
          let at : steps + top_level ≡ level - 1 = omega arith in
          let stays = tower_stays_one steps top_level tower_top in
          absurd (omega (arith, two, stays, ap (λ n. length (tower shape tree entries n)) at))
    ]
  ]
    where
      compare : (m n : ℕ) → ((m < n) ⊎ (m ≡ n)) ⊎ (n < m)
      compare m n = grind arith

-- A level with one node: it has as many items as there are nodes in the level below it.
pub one_over : (shape : Shape) (tree level : ℕ) (nodes : List Node) (node : Node) → level_over shape tree (suc level) nodes ≡ node ∷ [] → length (links_in node) ≡ length nodes
one_over shape tree level nodes node e =
    ap (length {A = Link}) (sym (append-nil (links_in node)) ∙ ap (flat_map links_in) (sym e) ∙ over_joined shape tree (suc level) nodes) ∙ length-map nodes link_to
