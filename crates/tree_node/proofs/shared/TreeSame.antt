-- Trees with one top: they are trees of one list, or hold two different nodes with one digest.
use Rattle.std.proofs.Common.{◌≡◌, ◌≢◌, ℕ, zero, suc, ◌-◌, ◌<◌, List, [], ◌∷◌, length, get_or, map, Bool, true, false, ◌⊎◌, inl, inr, refl, sym, ap, ◌∙◌, arith}
use Rattle.std.specs.List.{flat_map, AllByRecursion}
use Rattle.std.specs.Str.{bytes_eq}
use Rattle.std.proofs.lemmas.Bool.{cases_Bool}
use Rattle.std.proofs.lemmas.List.Elements.{All-from_recursion, recursion_from_All}
use Rattle.std.proofs.lemmas.Slice.Eq.{bytes_eq-Decides}
use Rattle.tree_node.specs.Digests.{digest}
use Rattle.tree_node.specs.Nodes.{Binding, Link, Node, spelling, IsNode, IsTree, level_of, tree_of}
use Rattle.tree_node.specs.Trees.{Shape, link_to, leaves, level_at, node_in, no_node, links_in, entries_in, top_of, IsNodeOf, HasTree}
use Rattle.tree_node.specs.Outcomes.{Clash}
use Rattle.tree_node.proofs.shared.FieldLemmas.{ok_is}
use Rattle.tree_node.proofs.shared.NodeLaws.{node_again}
use Rattle.tree_node.proofs.shared.TreeLemmas.{tree_levels}
use Rattle.tree_node.proofs.shared.TreeLaws.{whole, above, last_has_one, leaves_joined, nodes_at, over_joined, pair_at}
use Rattle.tree_node.proofs.shared.TreeParts.{kind_at}

-- byte strings are equal or not
pub same_or_not : (a b : List ℕ) → (a ≡ b) ⊎ (a ≢ b)
same_or_not a b =
    let decides = bytes_eq-Decides a b in
    elim (cases_Bool (bytes_eq a b)) [ inl passed ↦ inl (decides.0 passed) | inr failed ↦ inr (λ e. not_both (bytes_eq a b) (decides.1 e) failed) ]
  where
    not_both : (t : Bool) → t ≡ true → t ≡ false → ⊥
    not_both t p q = cc

module _ (P Q : List ℕ → Type 0) where
  -- a node, and one of the set
  abbrev IsOf : (List ℕ → Type 0) → Node → Type 0
  IsOf Of node = IsNode node × Of (spelling node)

  -- nodes with one digest are equal, or clash
  one_node : (x y : Node) → IsOf P x → IsOf Q y → digest (spelling x) ≡ digest (spelling y) → (x ≡ y) ⊎ Clash P Q
  one_node x y is_x is_y same =
      elim (same_or_not (spelling x) (spelling y)) [
        | inl equal ↦ inl (ok_is x y (sym (node_again (spelling x) x (is_x.0, refl)) ∙ node_again (spelling x) y (is_y.0, equal)))
        | inr differ ↦ inr (spelling x, spelling y, is_x.1, is_y.1, differ, same)
      ]

  -- nodes that one list of links names are equal, or two of them clash
  same_nodes : (xs ys : List Node) → AllByRecursion (IsOf P) xs → AllByRecursion (IsOf Q) ys → map link_to xs ≡ map link_to ys → (xs ≡ ys) ⊎ Clash P Q
  same_nodes [] [] are_x are_y e = inl refl
  same_nodes [] (y ∷ ys) are_x are_y e = absurd cc
  same_nodes (x ∷ xs) [] are_x are_y e = absurd cc
  same_nodes (x ∷ xs) (y ∷ ys) are_x are_y e =
      let head : link_to x ≡ link_to y = cc in
      let tail : map link_to xs ≡ map link_to ys = cc in
      elim (one_node x y are_x.0 are_y.0 (ap (λ (l : Link). l.child) head)) [
        | inl first ↦ elim (same_nodes xs ys are_x.1 are_y.1 tail) [ inl rest ↦ inl (ap (λ (n : Node). n ∷ xs) first ∙ ap (λ (ns : List Node). y ∷ ns) rest) | inr clash ↦ inr clash ]
        | inr clash ↦ inr clash
      ]

module _ (shape : Shape) (tree : ℕ) (is : IsTree tree) (xs ys : List Binding) (has_x : HasTree xs) (has_y : HasTree ys) where
  abbrev A : List (List Node)
  A = whole shape tree xs

  abbrev B : List (List Node)
  B = whole shape tree ys

  -- the nodes of a level are nodes of the tree
  of_level : (entries : List Binding) → HasTree entries → (level : ℕ) → level < length (whole shape tree entries)
      → AllByRecursion (IsOf (IsNodeOf (whole shape tree entries)) (IsNodeOf (whole shape tree entries)) (IsNodeOf (whole shape tree entries))) (level_at (whole shape tree entries) level)
  of_level entries has level lt =
      let ns = level_at (whole shape tree entries) level in
      recursion_from_All (λ (n : Node). IsNode n × IsNodeOf (whole shape tree entries) (spelling n)) ns
      (λ k d lk. (All-from_recursion IsNode ns (nodes_at shape tree entries has is level lt) k d lk, (level, k, (lt, lk, ap spelling (any_default ns k d no_node lk)))))
    where
      any_default : (ns : List Node) (k : ℕ) (d e : Node) → k < length ns → get_or ns k d ≡ get_or ns k e
      any_default [] k d e lt = absurd (omega arith)
      any_default (n ∷ ns) zero d e lt = refl
      any_default (n ∷ ns) (suc k) d e lt = any_default ns k d e (omega arith)

  -- trees that are equal at a level are of one list
  same_from : (level : ℕ) → level < length A → level < length B → level_at A level ≡ level_at B level → (xs ≡ ys) ⊎ Clash (IsNodeOf A) (IsNodeOf B)
  same_from zero lx ly e = inl (sym (leaves_joined shape tree xs) ∙ ap (flat_map entries_in) e ∙ leaves_joined shape tree ys)
  same_from (suc level) lx ly e =
      let below : map link_to (level_at A level) ≡ map link_to (level_at B level) =
      sym (ap (flat_map links_in) (pair_at shape tree xs level lx).1 ∙ over_joined shape tree (suc level) (level_at A level))
      ∙ ap (flat_map links_in) e
      ∙ ap (flat_map links_in) (pair_at shape tree ys level ly).1 ∙ over_joined shape tree (suc level) (level_at B level) in
      elim (same_nodes (IsNodeOf A) (IsNodeOf B) (level_at A level) (level_at B level) (of_level xs has_x level (omega arith)) (of_level ys has_y level (omega arith)) below) [
        | inl same ↦ same_from level (omega arith) (omega arith) same
        | inr clash ↦ inr clash
      ]

  -- the level of a top is the last one
  top_level : (entries : List Binding) → level_of (node_in (whole shape tree entries) (length (whole shape tree entries) - 1) 0) ≡ length (whole shape tree entries) - 1
  top_level entries =
      let ls = whole shape tree entries in
      let one : length (level_at ls (length ls - 1)) ≡ 1 = last_has_one shape tree 1 (leaves shape tree entries) (above shape tree entries) (tree_levels shape tree entries) in
      (All-from_recursion (λ (n : Node). (level_of n ≡ length ls - 1) × (tree_of n ≡ tree)) (level_at ls (length ls - 1)) (kind_at shape tree entries (length ls - 1) (omega arith)) 0 no_node (omega (arith, one))).0

  -- a list of one
  one_is : (ns : List Node) → length ns ≡ 1 → ns ≡ get_or ns 0 no_node ∷ []
  one_is [] e = absurd (omega arith)
  one_is (n ∷ []) e = refl
  one_is (n ∷ m ∷ ns) e = absurd (omega arith)

  -- the top's level
  last_is : (entries : List Binding) → level_at (whole shape tree entries) (length (whole shape tree entries) - 1) ≡ node_in (whole shape tree entries) (length (whole shape tree entries) - 1) 0 ∷ []
  last_is entries =
      one_is (level_at (whole shape tree entries) (length (whole shape tree entries) - 1))
      (last_has_one shape tree 1 (leaves shape tree entries) (above shape tree entries) (tree_levels shape tree entries))

  top_of_tree : (entries : List Binding) → HasTree entries → IsOf (IsNodeOf (whole shape tree entries)) (IsNodeOf (whole shape tree entries)) (IsNodeOf (whole shape tree entries)) (node_in (whole shape tree entries) (length (whole shape tree entries) - 1) 0)
  top_of_tree entries has =
      let ls = whole shape tree entries in
      let one : length (level_at ls (length ls - 1)) ≡ 1 = last_has_one shape tree 1 (leaves shape tree entries) (above shape tree entries) (tree_levels shape tree entries) in
      let lt : length ls - 1 < length ls = omega arith in
      let all = of_level entries has (length ls - 1) lt in
      All-from_recursion (λ (n : Node). IsNode n × IsNodeOf ls (spelling n)) (level_at ls (length ls - 1)) all 0 no_node (omega (arith, one))

  -- one digest of the tops
  pub one_list : digest (top_of A) ≡ digest (top_of B) → (xs ≡ ys) ⊎ Clash (IsNodeOf A) (IsNodeOf B)
  one_list e =
      elim (one_node (IsNodeOf A) (IsNodeOf B) (node_in A (length A - 1) 0) (node_in B (length B - 1) 0) (top_of_tree xs has_x) (top_of_tree ys has_y) e) [
        | inl same ↦
            let n : length A - 1 ≡ length B - 1 = sym (top_level xs) ∙ ap level_of same ∙ top_level ys in
            let equal : level_at A (length A - 1) ≡ level_at B (length A - 1) = last_is xs ∙ ap (λ (m : Node). m ∷ []) same ∙ sym (last_is ys) ∙ ap (λ k. level_at B k) (sym n) in
            same_from (length A - 1) (omega arith) (omega (arith, n)) equal
        | inr clash ↦ inr clash
      ]
