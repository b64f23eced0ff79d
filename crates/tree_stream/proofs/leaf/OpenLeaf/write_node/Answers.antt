use Rattle.std.proofs.Common.{◌≡◌, ◌≢◌, ℕ, ◌+◌, ◌≤◌, List, ◌++◌, ◌∷◌, [], length, map, arith, sym, ap, subst, ◌∙◌}
use Rattle.std.specs.List.{AllByRecursion}
use Rattle.std.proofs.lemmas.List.{length-map}
use Rattle.tree_node.specs.Digests.{digest}
use Rattle.tree_node.specs.NodeRefs.{binding_of, bindings_of, number_of}
use Rattle.tree_node.specs.Nodes.{Binding, Leaf, spelling}
use Rattle.tree_node.specs.Trees.{FitsTree}
use Rattle.tree_stream.specs.internal.Holding.{HoldsEntries, entry_total}
use Rattle.tree_stream.proofs.HoldLemmas.{entries_total, leaf_items}
use Rattle.tree_stream.proofs.WithinLemmas.{entry_fits}
use Rattle.tree_stream.proofs.leaf.OpenLeaf.write_node.Goals as goal

pub items_of-requires : goal.items_of-requires
items_of-requires g c =
    let held = c.requires.1 in
    let total : entry_total c.as_slice-2.result.now ≡ length c.as_slice.result.now =
    ap entry_total (c.as_slice-2.ensures.value ∙ held.lens) ∙ entries_total c.requires.0 ∙ ap (length {A = ℕ}) (sym (c.as_slice.ensures.value ∙ held.bytes)) in
    omega (arith, total)

pub write_leaf-requires-clause-few : goal.write_leaf-requires-clause-few
write_leaf-requires-clause-few g c =
    let found = leaf_items c.args.self.now c.requires.0 c.as_slice.result.now c.as_slice-2.result.now (bindings_of c.as_slice-3.result.now) c.requires.1 c.as_slice.ensures.value c.as_slice-2.ensures.value
    (ap bindings_of c.as_slice-3.ensures.value ∙ c.in_ok-items.ensures) in
    omega (arith, c.requires.2, ap (length {A = Binding}) found, length-map c.as_slice-3.result.now binding_of)

pub write_leaf-requires-clause-fit : goal.write_leaf-requires-clause-fit
write_leaf-requires-clause-fit g c =
    let found = leaf_items c.args.self.now c.requires.0 c.as_slice.result.now c.as_slice-2.result.now (bindings_of c.as_slice-3.result.now) c.requires.1 c.as_slice.ensures.value c.as_slice-2.ensures.value
    (ap bindings_of c.as_slice-3.ensures.value ∙ c.in_ok-items.ensures) in
    entry_fits c.as_slice-3.result.now (subst (λ (es : List Binding). AllByRecursion FitsTree es) (sym found) c.requires.3)

pub returns-clause-states : goal.returns-clause-states
returns-clause-states g c = λ entries held.
    let found = leaf_items c.args.self.now entries c.as_slice.result.now c.as_slice-2.result.now (bindings_of c.as_slice-3.result.now) held c.as_slice.ensures.value c.as_slice-2.ensures.value
    (ap bindings_of c.as_slice-3.ensures.value ∙ c.in_ok-items.ensures) in
    let items = ap bindings_of (sym c.as_slice-3.ensures.value) ∙ found in
    record {
      number = omega (arith, c.len.ensures, c.in_ok-items.items.ok.0, ap (length {A = Binding}) items, length-map c.in_ok-items.items.items binding_of);
      child = c.digest_of.ensures ∙ ap digest (c.as_slice-5.ensures.value ∙ c.in_ok-write_leaf.ensures.written ∙ ap (λ (bs : List ℕ). bs ++ spelling (Leaf (number_of c.args.tree) (bindings_of c.as_slice-3.result.now))) c.clear.ensures.items
          ∙ ap (λ (es : List Binding). spelling (Leaf (number_of c.args.tree) es)) found);
    }

pub returns-clause-put : goal.returns-clause-put
returns-clause-put g c = λ entries held.
    let found = leaf_items c.args.self.now entries c.as_slice.result.now c.as_slice-2.result.now (bindings_of c.as_slice-3.result.now) held c.as_slice.ensures.value c.as_slice-2.ensures.value
    (ap bindings_of c.as_slice-3.ensures.value ∙ c.in_ok-items.ensures) in
    record {
      here = c.in_ok-put.ensures.gained ∙ ap (λ (bs : List ℕ). g.W.NodeWriter.given c.args.writer.now 0 ++ bs ∷ [])
          (c.as_slice-4.ensures.value ∙ c.in_ok-write_leaf.ensures.written ∙ ap (λ (bs : List ℕ). bs ++ spelling (Leaf (number_of c.args.tree) (bindings_of c.as_slice-3.result.now))) c.clear.ensures.items
          ∙ ap (λ (es : List Binding). spelling (Leaf (number_of c.args.tree) es)) found);
      others = c.in_ok-put.ensures.others;
    }
