use Rattle.std.proofs.Common.{◌+◌, ◌∷◌, ◌++◌, List, [], length, drop, Err, arith, refl, sym, subst}
use Rattle.std.proofs.lemmas.List.{drop-drop, length-drop}
use Rattle.tree_node.specs.Nodes.{Leaf, Link}
use Rattle.tree_node.specs.NodeRefs.{binding_of, bindings_of, leaf_of, links_of, number_of}
use Rattle.tree_node.specs.Stocks.{HasNode}
use Rattle.tree_node.specs.Trees.{FitsTree, ends_by, is_marked_entry, leaves, link_to}
use Rattle.tree_node.specs.declared.item.Item.{Item}
use Rattle.tree_build.specs.declared.fault.BuildFault.TheVariants.{Memory}
use Rattle.tree_build.specs.Shapes.{shape_of}
use Rattle.tree_build.proofs.StockLemmas.{Underway, put_whole, underway_links, underway_gained}
use Rattle.tree_node.proofs.shared.Results.{err_is}
use Rattle.tree_build.proofs.LevelLemmas.{step_stopped, step_no_memory, step_next, step_last, first_of_rest, links_more, drop_end, drop_some, piece_all, rest_all}
use Rattle.tree_build.proofs.leaf.put_leaves.Goals as goal

pub put_leaf-requires-clause-fit : goal.put_leaf-requires-clause-fit
put_leaf-requires-clause-fit c =
    let ends = ends_by (shape_of c.args.shape) (λ (item : Item). is_marked_entry (binding_of item)) in
    piece_all FitsTree binding_of ends (drop c.loop-children.start c.args.entries.now) c.first_piece-piece.result.now
    (first_of_rest ends c.args.entries.now c.loop-children.start c.first_piece-piece.result.now c.first_piece-piece.ensures)
    (rest_all FitsTree binding_of c.loop-children.start c.args.entries.now c.requires)

pub returns-in_err-put_leaf-clause-put : goal.returns-in_err-put_leaf-clause-put
returns-in_err-put_leaf-clause-put c =
    let ends = ends_by (shape_of c.args.shape) (λ (item : Item). is_marked_entry (binding_of item)) in
    let rest = drop c.loop-children.start c.args.entries.now in
    let piece = c.first_piece-piece.result.now in
    let first = first_of_rest ends c.args.entries.now c.loop-children.start piece c.first_piece-piece.ensures in
    step_stopped (shape_of c.args.shape) is_marked_entry binding_of (Leaf (number_of c.args.tree)) (HasNode c.args.stock.now) (HasNode c.loop-children.stock) (HasNode c.put_leaf.new.stock)
    (links_of c.loop-children.children.items) (leaves (shape_of c.args.shape) (number_of c.args.tree) (bindings_of c.args.entries.now)) rest piece first c.loop-children.invariant.so_far
    (Err c.in_err-put_leaf.field-0.0) c.from_residual.result c.in_err-put_leaf.field-0.0 c.in_err-put_leaf.ensures.put refl (err_is c.from_residual.result c.in_err-put_leaf.field-0.0 c.from_residual.ensures.1)

pub returns-in_err-push-clause-put : goal.returns-in_err-push-clause-put
returns-in_err-push-clause-put c =
    let ends = ends_by (shape_of c.args.shape) (λ (item : Item). is_marked_entry (binding_of item)) in
    let rest = drop c.loop-children.start c.args.entries.now in
    let piece = c.first_piece-piece.result.now in
    let first = first_of_rest ends c.args.entries.now c.loop-children.start piece c.first_piece-piece.ensures in
    step_no_memory (shape_of c.args.shape) is_marked_entry binding_of (Leaf (number_of c.args.tree)) (HasNode c.args.stock.now) (HasNode c.loop-children.stock) (HasNode c.put_leaf.new.stock)
    (links_of c.loop-children.children.items) (leaves (shape_of c.args.shape) (number_of c.args.tree) (bindings_of c.args.entries.now)) rest piece first c.loop-children.invariant.so_far
    c.from_residual-in_err-push.result c.in_ok-put_leaf.ensures.put.gained (err_is c.from_residual-in_err-push.result Memory c.from_residual-in_err-push.ensures.1)

-- all leaves were put
all_put : (c : goal.Then-start-entries)
    → Underway (HasNode c.args.stock.now) (HasNode c.put_leaf.new.stock) (links_of c.push.new.self.items) (leaves (shape_of c.args.shape) (number_of c.args.tree) (bindings_of c.args.entries.now)) []
all_put c =
    let ends = ends_by (shape_of c.args.shape) (λ (item : Item). is_marked_entry (binding_of item)) in
    let rest = drop c.loop-children.start c.args.entries.now in
    let piece = c.first_piece-piece.result.now in
    let first = first_of_rest ends c.args.entries.now c.loop-children.start piece c.first_piece-piece.ensures in
    let all = leaves (shape_of c.args.shape) (number_of c.args.tree) (bindings_of c.args.entries.now) in
    let last = step_last (shape_of c.args.shape) is_marked_entry binding_of (Leaf (number_of c.args.tree)) (HasNode c.args.stock.now) (HasNode c.loop-children.stock) (HasNode c.put_leaf.new.stock)
    (links_of c.loop-children.children.items) all rest piece first c.loop-children.invariant.so_far c.in_ok-put_leaf.ensures.put.gained
    (drop_end c.args.entries.now c.loop-children.start (length piece) c.if-start-entries.true) in
    subst (λ (ls : List Link). Underway (HasNode c.args.stock.now) (HasNode c.put_leaf.new.stock) ls all [])
    (sym (links_more c.loop-children.children.items c.push.new.self.items c.in_ok-put_leaf.field-0 (link_to (leaf_of c.args.tree piece)) c.in_ok-push.ensures.items c.in_ok-put_leaf.ensures.link)) last

pub returns-then-start-entries-clause-links : goal.returns-then-start-entries-clause-links
returns-then-start-entries-clause-links c =
    underway_links (HasNode c.args.stock.now) (HasNode c.put_leaf.new.stock) (links_of c.push.new.self.items) (leaves (shape_of c.args.shape) (number_of c.args.tree) (bindings_of c.args.entries.now)) (all_put c)

pub returns-then-start-entries-clause-put : goal.returns-then-start-entries-clause-put
returns-then-start-entries-clause-put c =
    let all = leaves (shape_of c.args.shape) (number_of c.args.tree) (bindings_of c.args.entries.now) in
    put_whole c.push.new.self (HasNode c.args.stock.now) (HasNode c.put_leaf.new.stock) all
    (underway_gained (HasNode c.args.stock.now) (HasNode c.put_leaf.new.stock) (links_of c.push.new.self.items) all (all_put c))

pub loop-children-preserved : goal.loop-children-preserved
loop-children-preserved c =
    let ends = ends_by (shape_of c.args.shape) (λ (item : Item). is_marked_entry (binding_of item)) in
    let rest = drop c.loop-children.start c.args.entries.now in
    let piece = c.first_piece-piece.result.now in
    let first = first_of_rest ends c.args.entries.now c.loop-children.start piece c.first_piece-piece.ensures in
    let all = leaves (shape_of c.args.shape) (number_of c.args.tree) (bindings_of c.args.entries.now) in
    let more = drop_some c.args.entries.now c.loop-children.start (length piece) c.loop-children.invariant.within first.within c.if-start-entries.false in
    let next = step_next (shape_of c.args.shape) is_marked_entry binding_of (Leaf (number_of c.args.tree)) (HasNode c.args.stock.now) (HasNode c.loop-children.stock) (HasNode c.put_leaf.new.stock)
    (links_of c.loop-children.children.items) all rest piece first c.loop-children.invariant.so_far c.in_ok-put_leaf.ensures.put.gained more in
    let linked = links_more c.loop-children.children.items c.push.new.self.items c.in_ok-put_leaf.field-0 (link_to (leaf_of c.args.tree piece)) c.in_ok-push.ensures.items c.in_ok-put_leaf.ensures.link in
    record {
      within = omega (arith, first.within, length-drop c.loop-children.start c.args.entries.now);
      so_far = subst (λ (ls : List Link). Underway (HasNode c.args.stock.now) (HasNode c.put_leaf.new.stock) ls all (leaves (shape_of c.args.shape) (number_of c.args.tree) (bindings_of (drop (c.loop-children.start + length piece) c.args.entries.now))))
          (sym linked)
          (subst (λ (es : List Item). Underway (HasNode c.args.stock.now) (HasNode c.put_leaf.new.stock) (links_of c.loop-children.children.items ++ link_to (leaf_of c.args.tree piece) ∷ []) all (leaves (shape_of c.args.shape) (number_of c.args.tree) (bindings_of es)))
          (drop-drop (length piece) c.loop-children.start c.args.entries.now) next);
    }
