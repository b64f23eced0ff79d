use Rattle.std.proofs.Common.{◌+◌, ◌∷◌, ◌++◌, List, [], length, drop, map, Err, arith, refl, sym, subst}
use Rattle.std.proofs.lemmas.List.{drop-drop, length-drop}
use Rattle.tree_node.specs.Nodes.{Inner, Link}
use Rattle.tree_node.specs.NodeRefs.{inner_of, link_of, links_of, number_of}
use Rattle.tree_node.specs.Stocks.{HasNode}
use Rattle.tree_node.specs.Trees.{ends_by, is_marked_link, link_to, one_at_least, pieces}
use Rattle.tree_node.specs.declared.child.Child.{Child}
use Rattle.tree_build.specs.declared.fault.BuildFault.TheVariants.{Memory}
use Rattle.tree_build.specs.Shapes.{shape_of}
use Rattle.tree_build.proofs.StockLemmas.{Underway, put_whole, underway_links, underway_gained}
use Rattle.tree_node.proofs.shared.Results.{err_is}
use Rattle.tree_build.proofs.LevelLemmas.{step_stopped, step_no_memory, step_next, step_last, first_of_rest, links_more, drop_end, drop_some, within_piece}
use Rattle.tree_build.proofs.inner.put_level.Goals as goal

pub put_inner-requires-clause-within : goal.put_inner-requires-clause-within
put_inner-requires-clause-within c =
    let ends = ends_by (shape_of c.args.shape) (λ (child : Child). is_marked_link (link_of child)) in
    within_piece ends c.args.children.now c.loop-parents.start c.first_piece-piece.result.now
    (first_of_rest ends c.args.children.now c.loop-parents.start c.first_piece-piece.result.now c.first_piece-piece.ensures) c.requires

pub returns-in_err-put_inner-clause-put : goal.returns-in_err-put_inner-clause-put
returns-in_err-put_inner-clause-put c =
    let ends = ends_by (shape_of c.args.shape) (λ (child : Child). is_marked_link (link_of child)) in
    let rest = drop c.loop-parents.start c.args.children.now in
    let piece = c.first_piece-piece.result.now in
    let first = first_of_rest ends c.args.children.now c.loop-parents.start piece c.first_piece-piece.ensures in
    step_stopped (shape_of c.args.shape) is_marked_link link_of (Inner (number_of c.args.tree) c.args.level) (HasNode c.args.stock.now) (HasNode c.loop-parents.stock) (HasNode c.put_inner.new.stock)
    (links_of c.loop-parents.parents.items) (map (Inner (number_of c.args.tree) c.args.level) (one_at_least (pieces (ends_by (shape_of c.args.shape) is_marked_link) (links_of c.args.children.now)))) rest piece first c.loop-parents.invariant.so_far
    (Err c.in_err-put_inner.field-0.0) c.from_residual.result c.in_err-put_inner.field-0.0 c.in_err-put_inner.ensures.put refl (err_is c.from_residual.result c.in_err-put_inner.field-0.0 c.from_residual.ensures.1)

pub returns-in_err-push-clause-put : goal.returns-in_err-push-clause-put
returns-in_err-push-clause-put c =
    let ends = ends_by (shape_of c.args.shape) (λ (child : Child). is_marked_link (link_of child)) in
    let rest = drop c.loop-parents.start c.args.children.now in
    let piece = c.first_piece-piece.result.now in
    let first = first_of_rest ends c.args.children.now c.loop-parents.start piece c.first_piece-piece.ensures in
    step_no_memory (shape_of c.args.shape) is_marked_link link_of (Inner (number_of c.args.tree) c.args.level) (HasNode c.args.stock.now) (HasNode c.loop-parents.stock) (HasNode c.put_inner.new.stock)
    (links_of c.loop-parents.parents.items) (map (Inner (number_of c.args.tree) c.args.level) (one_at_least (pieces (ends_by (shape_of c.args.shape) is_marked_link) (links_of c.args.children.now)))) rest piece first c.loop-parents.invariant.so_far
    c.from_residual-in_err-push.result c.in_ok-put_inner.ensures.put.gained (err_is c.from_residual-in_err-push.result Memory c.from_residual-in_err-push.ensures.1)

-- all leaves were put
all_put : (c : goal.Then-start-children)
    → Underway (HasNode c.args.stock.now) (HasNode c.put_inner.new.stock) (links_of c.push.new.self.items) (map (Inner (number_of c.args.tree) c.args.level) (one_at_least (pieces (ends_by (shape_of c.args.shape) is_marked_link) (links_of c.args.children.now)))) []
all_put c =
    let ends = ends_by (shape_of c.args.shape) (λ (child : Child). is_marked_link (link_of child)) in
    let rest = drop c.loop-parents.start c.args.children.now in
    let piece = c.first_piece-piece.result.now in
    let first = first_of_rest ends c.args.children.now c.loop-parents.start piece c.first_piece-piece.ensures in
    let all = map (Inner (number_of c.args.tree) c.args.level) (one_at_least (pieces (ends_by (shape_of c.args.shape) is_marked_link) (links_of c.args.children.now))) in
    let last = step_last (shape_of c.args.shape) is_marked_link link_of (Inner (number_of c.args.tree) c.args.level) (HasNode c.args.stock.now) (HasNode c.loop-parents.stock) (HasNode c.put_inner.new.stock)
    (links_of c.loop-parents.parents.items) all rest piece first c.loop-parents.invariant.so_far c.in_ok-put_inner.ensures.put.gained
    (drop_end c.args.children.now c.loop-parents.start (length piece) c.if-start-children.true) in
    subst (λ (ls : List Link). Underway (HasNode c.args.stock.now) (HasNode c.put_inner.new.stock) ls all [])
    (sym (links_more c.loop-parents.parents.items c.push.new.self.items c.in_ok-put_inner.field-0 (link_to (inner_of c.args.tree c.args.level piece)) c.in_ok-push.ensures.items c.in_ok-put_inner.ensures.link)) last

pub returns-then-start-children-clause-links : goal.returns-then-start-children-clause-links
returns-then-start-children-clause-links c =
    underway_links (HasNode c.args.stock.now) (HasNode c.put_inner.new.stock) (links_of c.push.new.self.items) (map (Inner (number_of c.args.tree) c.args.level) (one_at_least (pieces (ends_by (shape_of c.args.shape) is_marked_link) (links_of c.args.children.now)))) (all_put c)

pub returns-then-start-children-clause-put : goal.returns-then-start-children-clause-put
returns-then-start-children-clause-put c =
    let all = map (Inner (number_of c.args.tree) c.args.level) (one_at_least (pieces (ends_by (shape_of c.args.shape) is_marked_link) (links_of c.args.children.now))) in
    put_whole c.push.new.self (HasNode c.args.stock.now) (HasNode c.put_inner.new.stock) all
    (underway_gained (HasNode c.args.stock.now) (HasNode c.put_inner.new.stock) (links_of c.push.new.self.items) all (all_put c))

pub loop-parents-preserved : goal.loop-parents-preserved
loop-parents-preserved c =
    let ends = ends_by (shape_of c.args.shape) (λ (child : Child). is_marked_link (link_of child)) in
    let rest = drop c.loop-parents.start c.args.children.now in
    let piece = c.first_piece-piece.result.now in
    let first = first_of_rest ends c.args.children.now c.loop-parents.start piece c.first_piece-piece.ensures in
    let all = map (Inner (number_of c.args.tree) c.args.level) (one_at_least (pieces (ends_by (shape_of c.args.shape) is_marked_link) (links_of c.args.children.now))) in
    let more = drop_some c.args.children.now c.loop-parents.start (length piece) c.loop-parents.invariant.within first.within c.if-start-children.false in
    let next = step_next (shape_of c.args.shape) is_marked_link link_of (Inner (number_of c.args.tree) c.args.level) (HasNode c.args.stock.now) (HasNode c.loop-parents.stock) (HasNode c.put_inner.new.stock)
    (links_of c.loop-parents.parents.items) all rest piece first c.loop-parents.invariant.so_far c.in_ok-put_inner.ensures.put.gained more in
    let linked = links_more c.loop-parents.parents.items c.push.new.self.items c.in_ok-put_inner.field-0 (link_to (inner_of c.args.tree c.args.level piece)) c.in_ok-push.ensures.items c.in_ok-put_inner.ensures.link in
    record {
      within = omega (arith, first.within, length-drop c.loop-parents.start c.args.children.now);
      so_far = subst (λ (ls : List Link). Underway (HasNode c.args.stock.now) (HasNode c.put_inner.new.stock) ls all (map (Inner (number_of c.args.tree) c.args.level) (one_at_least (pieces (ends_by (shape_of c.args.shape) is_marked_link) (links_of (drop (c.loop-parents.start + length piece) c.args.children.now))))))
          (sym linked)
          (subst (λ (cs : List Child). Underway (HasNode c.args.stock.now) (HasNode c.put_inner.new.stock) (links_of c.loop-parents.parents.items ++ link_to (inner_of c.args.tree c.args.level piece) ∷ []) all (map (Inner (number_of c.args.tree) c.args.level) (one_at_least (pieces (ends_by (shape_of c.args.shape) is_marked_link) (links_of cs)))))
          (drop-drop (length piece) c.loop-parents.start c.args.children.now) next);
    }
