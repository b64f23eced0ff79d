use Rattle.std.proofs.Common.{◌≡◌, ◌≢◌, ◌++◌, ◌∷◌, [], ℕ, ◌<◌, ◌≤◌, List, length, map, refl, sym, ap, subst, ◌∙◌, arith}
use Rattle.std.proofs.lemmas.List.{map-append}
use Rattle.tree_build.specs.Shapes.{shape_of}
use Rattle.tree_node.specs.NodeRefs.{link_of, number_of}
use Rattle.tree_node.specs.Nodes.{Binding, Leaf, Node, keys_of, spelling}
use Rattle.tree_node.specs.Trees.{Shape, last_key, leaves}
use Rattle.tree_stream.specs.internal.Cutting.{entries_left, leaves_done}
use Rattle.tree_stream.specs.internal.Opening.{AreOpen}
use Rattle.tree_stream.proofs.OkLemmas.{on_ok_all}
use Rattle.tree_stream.proofs.StreamLemmas.{add_rest, all_fit, last_left, last_none, leaves_all, leaves_last, leaves_none, left_few, own_taken, whole_leaves}
use Rattle.tree_stream.proofs.stream.TreeStream.close_leaf.Goals as goal
use Rattle.tree_stream.proofs.stream.TreeStream.close_leaf.Goals.{else-len-eq0-via-then-len-eq0+else-self-gt0, else-len-eq0-via-else-len-eq0}

-- What is pending makes the last leaf, and its last key is that of the list.
record IsRest (shape : Shape) (tree : ℕ) (entries : List Binding) : Type 0 where
  last : last_key (keys_of entries) ≡ last_key (keys_of (entries_left shape entries))
  all : leaves shape tree entries ≡ leaves_done shape tree entries ++ Leaf tree (entries_left shape entries) ∷ []

rest_none : (shape : Shape) (tree : ℕ) (entries : List Binding) → length entries ≡ 0 → IsRest shape tree entries
rest_none shape tree entries none = record { last = last_none shape entries none; all = leaves_none shape tree entries none }

rest_some : (shape : Shape) (tree : ℕ) (entries : List Binding) → 1 ≤ length (entries_left shape entries) → IsRest shape tree entries
rest_some shape tree entries some = record { last = last_left shape entries some; all = leaves_last shape tree entries some }

pub returns-then-self-gt0-clause-whole : goal.returns-then-self-gt0-clause-whole
returns-then-self-gt0-clause-whole g c = λ entries taken.
    let own = shape_of c.args.self.now.shape in
    let number = number_of c.args.self.now.tree in
    let counted = c.len.ensures (entries_left own entries) taken.leaf in
    let all = leaves_all own number entries (omega (arith, counted, c.if-len-eq0.true)) (omega (arith, taken.count, c.if-self-gt0.true)) in
    whole_leaves own number entries c.args.self.now.last.items c.args.self.now.levels.items (g.W.NodeWriter.given c.args.self.now.writer) taken.have_tree taken.last
    (subst (λ (ns : List Node). AreOpen own number 0 ns c.args.self.now.levels.items (g.W.NodeWriter.given c.args.self.now.writer)) (sym all) taken.levels)
    (taken.leaves ∙ ap (map spelling) (sym all))

pub write-requires : goal.write-requires
write-requires g c =
    let (shape, tree, entries, first) = c.requires in
    let taken = own_taken g.W.NodeWriter.given c.args.self.now shape tree entries first in
    let own = shape_of c.args.self.now.shape in
    (entries_left own entries, taken.leaf, omega (arith, left_few own entries), all_fit _ _ _ _ _ taken)

pub add-requires : goal.add-requires
add-requires g c =
    let (shape, tree, entries, first) = c.requires in
    let taken = own_taken g.W.NodeWriter.given c.args.self.now shape tree entries first in
    let own = shape_of c.args.self.now.shape in
    let number = number_of c.args.self.now.tree in
    let left = entries_left own entries in
    let counted = c.len.ensures left taken.leaf in
    let rest : IsRest own number entries = elim c.else-len-eq0.branch [
      | else-len-eq0-via-then-len-eq0+else-self-gt0 w ↦ rest_none own number entries (omega (arith, taken.count, w.if-self-gt0.false))
      | else-len-eq0-via-else-len-eq0 w ↦ rest_some own number entries (omega (arith, counted, w.if-len-eq0.false))
    ] in
    let put = c.in_ok-sum.ensures.put left taken.leaf in
    let link = link_of (record { greatest = c.as_slice.result; number = c.in_ok-sum.sum.number; digest = c.in_ok-sum.sum.digest }) in (
      leaves_done own number entries,
      Leaf number left,
      add_rest _ _ _ _ _ taken rest.last (g.W.NodeWriter.given c.write.new.writer) put.others link c.as_slice.ensures.value c.in_ok-sum.sum refl refl (c.in_ok-sum.ensures.states left taken.leaf),
    )

pub returns-clause-whole : goal.returns-clause-whole
returns-clause-whole g c = λ entries taken.
    let own = shape_of c.args.self.now.shape in
    let number = number_of c.args.self.now.tree in
    let left = entries_left own entries in
    let counted = c.len.ensures left taken.leaf in
    let rest : IsRest own number entries = elim c.else-len-eq0.branch [
      | else-len-eq0-via-then-len-eq0+else-self-gt0 w ↦ rest_none own number entries (omega (arith, taken.count, w.if-self-gt0.false))
      | else-len-eq0-via-else-len-eq0 w ↦ rest_some own number entries (omega (arith, counted, w.if-len-eq0.false))
    ] in
    let put = c.in_ok-sum.ensures.put left taken.leaf in
    let link = link_of (record { greatest = c.as_slice.result; number = c.in_ok-sum.sum.number; digest = c.in_ok-sum.sum.digest }) in
    let can = add_rest _ _ _ _ _ taken rest.last (g.W.NodeWriter.given c.write.new.writer) put.others link c.as_slice.ensures.value c.in_ok-sum.sum refl refl (c.in_ok-sum.ensures.states left taken.leaf) in
    on_ok_all c.add.result
    (λ added below same reach. whole_leaves own number entries c.args.self.now.last.items c.add.new.levels.items (g.W.NodeWriter.given c.add.new.writer) taken.have_tree taken.last
    (subst (λ (ns : List Node). AreOpen own number 0 ns c.add.new.levels.items (g.W.NodeWriter.given c.add.new.writer)) (sym rest.all) added)
    (same 0 (omega arith) ∙ put.here ∙ ap (λ (bs : List (List ℕ)). bs ++ spelling (Leaf number left) ∷ []) taken.leaves
    ∙ sym (map-append spelling (leaves_done own number entries) (Leaf number left ∷ [])) ∙ ap (map spelling) (sym rest.all)))
    (c.add.ensures.added _ _ can) c.add.ensures.below c.add.ensures.given c.add.ensures.reach
