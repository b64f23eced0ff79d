-- A parent of a node that is gone is gone: a tree that has the parent has the child, where no two nodes clash.
use Rattle.std.proofs.Common.{◌≡◌, ℕ, suc, ◌<◌, List, ◌∷◌, ◌++◌, length, get_or, map, take, drop, inl, inr, refl, sym, ap, subst, ◌∙◌, arith, length-append, append_assoc}
use Rattle.std.specs.List.{flat_map}
use Rattle.std.proofs.lemmas.Grind.{flat_map-append}
use Rattle.std.proofs.lemmas.List.Elements.{All-from_recursion}
use Rattle.std.proofs.lemmas.List.{take-append-drop}
use Rattle.std.proofs.Math.Seq.{drop-cons, get_or-append_seam}
use Rattle.tree_node.specs.Nodes.{Binding, IsNode, IsTree, Link, Node, level_of, spelling, tree_of}
use Rattle.tree_node.specs.Trees.{HasTree, IsNodeOf, Two, level_at, levels, links_in, link_to, no_node, node_in}
use Rattle.tree_node.proofs.shared.FieldLemmas.{ok_is}
use Rattle.tree_node.proofs.shared.NodeLaws.{node_again}
use Rattle.tree_node.proofs.shared.TreeLaws.{nodes_at, over_joined, pair_at, whole}
use Rattle.tree_node.proofs.shared.TreeParts.{kind_at}
use Rattle.tree_build.specs.Rebuilding.{AreClashFree}
use Rattle.tree_build.proofs.SeekLemmas.{map_parts}

-- nodes with one spelling are one
pub one_spelling : (x y : Node) → IsNode x → IsNode y → spelling x ≡ spelling y → x ≡ y
one_spelling x y is_x is_y same = ok_is x y (sym (node_again (spelling x) x (is_x, refl)) ∙ node_again (spelling x) y (is_y, same))

split_at : {X : Type 0} (xs : List X) (n : ℕ) (d : X) → n < length xs → xs ≡ take n xs ++ get_or xs n d ∷ drop (suc n) xs
split_at {X} xs n d lt = sym (take-append-drop n xs) ∙ ap (λ (ys : List X). take n xs ++ ys) (drop-cons xs n d lt)

module _ (tree : ℕ) (old new : List Binding) (is_tree : IsTree tree) (has_old : HasTree old) (has_new : HasTree new) (free : AreClashFree (levels Two tree old) (levels Two tree new)) where
  -- The new tree has the parent, so it has the child.
  pub child_stays : (level : ℕ) → suc level < length (levels Two tree old)
      → (parent : Node) (place : ℕ) → place < length (level_at (levels Two tree old) (suc level)) → parent ≡ node_in (levels Two tree old) (suc level) place
      → (f : List Link) (child : Node) (b : List Link) → links_in parent ≡ f ++ link_to child ∷ b → IsNodeOf (levels Two tree old) (spelling child)
      → IsNodeOf (levels Two tree new) (spelling parent) → IsNodeOf (levels Two tree new) (spelling child)
  unfolding levels
  child_stays level lt parent place lp is_parent f child b links of_old (at, there, (lt_at, lt_there, same)) =
      let olds = whole Two tree old in
      let news = whole Two tree new in
      let node = node_in news at there in
      let kind_old = All-from_recursion (λ (n : Node). (level_of n ≡ suc level) × (tree_of n ≡ tree)) (level_at olds (suc level)) (kind_at Two tree old (suc level) lt) place no_node lp in
      let kind_new = All-from_recursion (λ (n : Node). (level_of n ≡ at) × (tree_of n ≡ tree)) (level_at news at) (kind_at Two tree new at lt_at) there no_node lt_there in
      let node_old = All-from_recursion IsNode (level_at olds (suc level)) (nodes_at Two tree old has_old is_tree (suc level) lt) place no_node lp in
      let node_new = All-from_recursion IsNode (level_at news at) (nodes_at Two tree new has_new is_tree at lt_at) there no_node lt_there in
      let equal : parent ≡ node = one_spelling parent node (subst IsNode (sym is_parent) node_old) node_new same in
      let level_is : at ≡ suc level = sym kind_new.0 ∙ ap level_of (sym equal ∙ is_parent) ∙ kind_old.0 in
      go level_is equal
    where
      go : at ≡ suc level → parent ≡ node_in (whole Two tree new) at there → IsNodeOf (whole Two tree new) (spelling child)
      go level_is equal =
          let news = whole Two tree new in
          let lt_new : suc level < length news = omega arith in
          let upper = level_at news (suc level) in
          let lower = level_at news level in
          let at_upper : there < length upper = subst (λ n. there < length (level_at news n)) level_is lt_there in
          let equal_there : parent ≡ get_or upper there no_node = equal ∙ ap (λ n. node_in news n there) level_is in
          let linked : flat_map links_in upper ≡ map link_to lower = ap (flat_map links_in) (pair_at Two tree new level lt_new).1 ∙ over_joined Two tree (suc level) lower in
          let front = flat_map links_in (take there upper) in
          let back = flat_map links_in (drop (suc there) upper) in
          let parts : map link_to lower ≡ (front ++ f) ++ link_to child ∷ (b ++ back) =
          sym linked
          ∙ ap (flat_map links_in) (split_at upper there no_node at_upper)
          ∙ flat_map-append links_in (take there upper) (get_or upper there no_node ∷ drop (suc there) upper)
          ∙ ap (λ (ls : List Link). front ++ (ls ++ back)) (ap links_in (sym equal_there) ∙ links)
          ∙ ap (λ (ls : List Link). front ++ ls) (append_assoc f (link_to child ∷ b) back)
          ∙ sym (append_assoc front f (link_to child ∷ (b ++ back))) in
          let found = map_parts link_to lower (front ++ f) (link_to child) (b ++ back) parts in
          let here : length found.before < length lower = omega (arith, ap (length {A = Node}) found.whole, length-append found.before (found.x ∷ found.behind)) in
          let stands : node_in news level (length found.before) ≡ found.x = ap (λ (ns : List Node). get_or ns (length found.before) no_node) found.whole ∙ get_or-append_seam found.before found.x found.behind no_node in
          let of_new : IsNodeOf news (spelling found.x) = (level, length found.before, (omega arith, here, ap spelling (sym stands))) in
          let one : spelling child ≡ spelling found.x = free (spelling child) (spelling found.x) (inl of_old) (inr of_new) (ap (λ (l : Link). l.child) (sym found.at)) in
          subst (λ (bytes : List ℕ). IsNodeOf news bytes) (sym one) of_new
