use Rattle.std.proofs.Common.{◌≡◌, ◌≢◌, ◌++◌, ◌∷◌, [], ℕ, ◌+◌, ◌<◌, ◌≤◌, List, length, map, Bool, true, false, cond, refl, sym, ap, subst, ◌∙◌, length-append, arith}
use Rattle.std.proofs.lemmas.List.{append-nil, map-append}
use Rattle.tree_build.specs.Shapes.{shape_of}
use Rattle.tree_node.specs.NodeRefs.{link_of, number_of}
use Rattle.tree_node.specs.Nodes.{Binding, Leaf, Node, spelling}
use Rattle.tree_node.specs.Trees.{Shape}
use Rattle.tree_stream.specs.declared.level.OpenLevel.{OpenLevel}
use Rattle.tree_stream.specs.internal.Cutting.{entries_left, leaves_done}
use Rattle.tree_stream.specs.internal.Holding.{HoldsEntries}
use Rattle.tree_stream.specs.internal.Opening.{AreOpen}
use Rattle.tree_stream.proofs.StreamLemmas.{add_full, ends_at, last_more, leaves_more, left_few, left_fits, left_more, own_taken, taken_back, tree_more}
use Rattle.tree_stream.proofs.stream.TreeStream.take.Goals as goal

-- whether the leaf ends, as the code asks it
told_by : (shape : Shape) (number : ℕ) (left : List Binding) (e : Binding) (ended : Bool) → number ≡ length (left ++ e ∷ []) → ended ≡ ends_at shape number e → ended ≡ ends_at shape (length left + 1) e
told_by shape number left e ended counted told = told ∙ ap (λ (m : ℕ). ends_at shape m e) (counted ∙ length-append left (e ∷ []))

pub write-requires : goal.write-requires
write-requires g c =
    let (shape, tree, entries, first) = c.requires.sound in
    let taken = own_taken g.W.NodeWriter.given c.args.self.now shape tree entries first in
    let e : Binding = record { key = c.args.key.now; value = c.args.value.now } in
    let left = entries_left (shape_of c.args.self.now.shape) entries in
    (left ++ e ∷ [], c.in_ok-push.ensures left taken.leaf, omega (arith, left_few (shape_of c.args.self.now.shape) entries, length-append left (e ∷ [])), left_fits _ _ _ _ _ taken e c.requires.fits)

pub add-requires : goal.add-requires
add-requires g c =
    let (shape, tree, entries, first) = c.requires.sound in
    let taken = own_taken g.W.NodeWriter.given c.args.self.now shape tree entries first in
    let e : Binding = record { key = c.args.key.now; value = c.args.value.now } in
    let left = entries_left (shape_of c.args.self.now.shape) entries in
    let held = c.in_ok-push.ensures left taken.leaf in
    let put = c.in_ok-sum.ensures.put (left ++ e ∷ []) held in
    let link = link_of (record { greatest = c.args.key; number = c.in_ok-sum.sum.number; digest = c.in_ok-sum.sum.digest }) in (
      leaves_done (shape_of c.args.self.now.shape) (number_of c.args.self.now.tree) entries,
      Leaf (number_of c.args.self.now.tree) (left ++ e ∷ []),
      add_full _ _ _ _ _ taken e c.requires.fits (omega (arith, taken.count, c.requires.few)) (g.W.NodeWriter.given c.write.new.writer) put.others
          link refl c.in_ok-sum.sum refl refl (c.in_ok-sum.ensures.states (left ++ e ∷ []) held),
    )

pub returns-in_ok-add : goal.returns-in_ok-add
returns-in_ok-add g c = λ shape tree entries first.
    let taken = own_taken g.W.NodeWriter.given c.args.self.now shape tree entries first in
    let own = shape_of c.args.self.now.shape in
    let number = number_of c.args.self.now.tree in
    let e : Binding = record { key = c.args.key.now; value = c.args.value.now } in
    let left = entries_left own entries in
    let held = c.in_ok-push.ensures left taken.leaf in
    let put = c.in_ok-sum.ensures.put (left ++ e ∷ []) held in
    let link = link_of (record { greatest = c.args.key; number = c.in_ok-sum.sum.number; digest = c.in_ok-sum.sum.digest }) in
    let few : length entries < 536870912 = omega (arith, taken.count, c.requires.few) in
    let told = told_by own c.len.result left e c.leaf_ends.result (c.len.ensures (left ++ e ∷ []) held) (c.leaf_ends.ensures c.args.value.now) in
    let yes : ends_at own (length left + 1) e ≡ true = sym told ∙ c.if-leaf_ends.true in
    let can = add_full _ _ _ _ _ taken e c.requires.fits few (g.W.NodeWriter.given c.write.new.writer) put.others
    link refl c.in_ok-sum.sum refl refl (c.in_ok-sum.ensures.states (left ++ e ∷ []) held) in
    let rest : entries_left own (entries ++ e ∷ []) ≡ [] = left_more own entries e ∙ ap (λ b. cond b [] (left ++ e ∷ [])) yes in
    let done : leaves_done own number (entries ++ e ∷ []) ≡ leaves_done own number entries ++ Leaf number (left ++ e ∷ []) ∷ [] =
    leaves_more own number entries e ∙ ap (λ b. leaves_done own number entries ++ cond b (Leaf number (left ++ e ∷ []) ∷ []) []) yes in
    taken_back g.W.NodeWriter.given c.args.self.now shape tree entries first _ (entries ++ e ∷ []) (record {
      have_tree = tree_more entries e taken.have_tree (c.requires.next shape tree entries first) c.requires.fits few;
      shape_is = refl;
      tree_is = refl;
      count = omega (arith, taken.count, length-append entries (e ∷ []));
      last = c.in_ok-extend_from_slice.ensures.items ∙ ap (λ (bs : List ℕ). bs ++ c.args.key.now) c.clear.ensures.items ∙ sym (last_more entries e);
      leaf = subst (λ (es : List Binding). HoldsEntries c.write.new.self es) (sym rest) c.in_ok-sum.ensures.left;
      leaves = c.in_ok-add.ensures.given 0 (omega arith) ∙ put.here ∙ ap (λ (bs : List (List ℕ)). bs ++ spelling (Leaf number (left ++ e ∷ [])) ∷ []) taken.leaves
          ∙ sym (map-append spelling (leaves_done own number entries) (Leaf number (left ++ e ∷ []) ∷ [])) ∙ ap (map spelling) (sym done);
      levels = subst (λ (ns : List Node). AreOpen own number 0 ns c.add.new.levels.items (g.W.NodeWriter.given c.add.new.writer)) (sym done) (c.in_ok-add.ensures.added _ _ can);
    })

pub returns-else-leaf_ends : goal.returns-else-leaf_ends
returns-else-leaf_ends g c = λ shape tree entries first.
    let taken = own_taken g.W.NodeWriter.given c.args.self.now shape tree entries first in
    let own = shape_of c.args.self.now.shape in
    let number = number_of c.args.self.now.tree in
    let e : Binding = record { key = c.args.key.now; value = c.args.value.now } in
    let left = entries_left own entries in
    let held = c.in_ok-push.ensures left taken.leaf in
    let few : length entries < 536870912 = omega (arith, taken.count, c.requires.few) in
    let told = told_by own c.len.result left e c.leaf_ends.result (c.len.ensures (left ++ e ∷ []) held) (c.leaf_ends.ensures c.args.value.now) in
    let goes_on : ends_at own (length left + 1) e ≡ false = sym told ∙ c.if-leaf_ends.false in
    let rest : entries_left own (entries ++ e ∷ []) ≡ left ++ e ∷ [] = left_more own entries e ∙ ap (λ b. cond b [] (left ++ e ∷ [])) goes_on in
    let done : leaves_done own number (entries ++ e ∷ []) ≡ leaves_done own number entries =
    leaves_more own number entries e ∙ ap (λ b. leaves_done own number entries ++ cond b (Leaf number (left ++ e ∷ []) ∷ []) []) goes_on ∙ append-nil (leaves_done own number entries) in
    taken_back g.W.NodeWriter.given c.args.self.now shape tree entries first _ (entries ++ e ∷ []) (record {
      have_tree = tree_more entries e taken.have_tree (c.requires.next shape tree entries first) c.requires.fits few;
      shape_is = refl;
      tree_is = refl;
      count = omega (arith, taken.count, length-append entries (e ∷ []));
      last = c.in_ok-extend_from_slice.ensures.items ∙ ap (λ (bs : List ℕ). bs ++ c.args.key.now) c.clear.ensures.items ∙ sym (last_more entries e);
      leaf = subst (λ (es : List Binding). HoldsEntries c.push.new.self es) (sym rest) held;
      leaves = taken.leaves ∙ ap (map spelling) (sym done);
      levels = subst (λ (ns : List Node). AreOpen own number 0 ns c.args.self.now.levels.items (g.W.NodeWriter.given c.args.self.now.writer)) (sym done) taken.levels;
    })
