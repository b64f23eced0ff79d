use Rattle.std.proofs.Common.{◌≤◌, List, length, map, Ok, Err, arith, refl, ap, subst, ◌∙◌}
use Rattle.std.proofs.lemmas.List.{length-map}
use Rattle.tree_node.specs.Nodes.{Inner}
use Rattle.tree_node.specs.NodeRefs.{bindings_of, link_of, links_of, number_of}
use Rattle.tree_node.specs.Stocks.{HasNode}
use Rattle.tree_node.specs.Outcomes.{GrownByAll}
use Rattle.tree_node.specs.Trees.{ends_by, is_marked_link, levels, link_to, one_at_least, pieces}
use Rattle.tree_node.specs.declared.child.Child.{Child}
use Rattle.tree_node.proofs.shared.PieceLemmas.{join}
use Rattle.tree_build.specs.Shapes.{shape_of}
use Rattle.tree_build.specs.internal.Building.{IsOneOf, PutAll}
use Rattle.tree_node.proofs.shared.Results.{err_is}
use Rattle.tree_node.proofs.shared.StockLaws.{stock_free}
use Rattle.tree_build.proofs.StockLemmas.{put_whole}
use Rattle.tree_build.proofs.BuildLemmas.{only_nodes, clashing_nodes, gained_nodes, none_clash, rising_first, rising_none, rising_stopped, rising_next, rising_fewer, rising_gained, rising_top}
use Rattle.tree_build.proofs.builder.build.Goals as goal

-- the leaves were refused
no_leaves : (c : goal.After-from_residual) → PutAll c.from_residual.result (HasNode c.args.stock.now) (HasNode c.put_leaves.new.stock) (join (levels (shape_of c.args.shape) (number_of c.args.tree) (bindings_of c.args.entries.now)))
no_leaves c =
    rising_none (Err c.in_err-children.field-0.0) c.from_residual.result c.in_err-children.field-0.0 (shape_of c.args.shape) (number_of c.args.tree) (bindings_of c.args.entries.now)
    (HasNode c.args.stock.now) (HasNode c.put_leaves.new.stock) c.in_err-children.ensures.put refl (err_is c.from_residual.result c.in_err-children.field-0.0 c.from_residual.ensures.1)

pub returns-in_err-children-clause-only_its_nodes : goal.returns-in_err-children-clause-only_its_nodes
returns-in_err-children-clause-only_its_nodes c =
    only_nodes c.from_residual.result (HasNode c.args.stock.now) (HasNode c.put_leaves.new.stock) (levels (shape_of c.args.shape) (number_of c.args.tree) (bindings_of c.args.entries.now)) (no_leaves c)

pub returns-in_err-children-clause-clash : goal.returns-in_err-children-clause-clash
returns-in_err-children-clause-clash c =
    clashing_nodes c.from_residual.result (HasNode c.args.stock.now) (HasNode c.put_leaves.new.stock) (levels (shape_of c.args.shape) (number_of c.args.tree) (bindings_of c.args.entries.now)) (no_leaves c)

pub loop-alloc-init : goal.loop-alloc-init
loop-alloc-init c =
    rising_first (shape_of c.args.shape) (number_of c.args.tree) (bindings_of c.args.entries.now) (links_of c.in_ok-children.children.items) (HasNode c.args.stock.now) (HasNode c.put_leaves.new.stock)
    c.requires c.in_ok-children.ensures.links c.in_ok-children.ensures.put.gained

-- a level was refused
no_level : (c : goal.After-drop-children)
    → PutAll c.from_residual-in_err-children-2.result (HasNode c.args.stock.now) (HasNode c.put_level.new.stock) (join (levels (shape_of c.args.shape) (number_of c.args.tree) (bindings_of c.args.entries.now)))
no_level c =
    let r = c.from_residual-in_err-children-2.result in
    let links = links_of c.loop-alloc.children.items in
    let many : 2 ≤ length links = omega (arith, length-map c.loop-alloc.children.items link_of, c.loop-alloc.children.ok.0, c.len.ensures) in
    rising_stopped (shape_of c.args.shape) (number_of c.args.tree) (bindings_of c.args.entries.now) c.loop-alloc.level links (HasNode c.args.stock.now) (HasNode c.loop-alloc.stock) c.loop-alloc.invariant
    (Err c.in_err-children-2.field-0.0) r c.in_err-children-2.field-0.0 (HasNode c.put_level.new.stock) many
    (subst (λ (cs : List Child). PutAll (Err c.in_err-children-2.field-0.0) (HasNode c.loop-alloc.stock) (HasNode c.put_level.new.stock) (map (Inner (number_of c.args.tree) c.loop-alloc.level) (one_at_least (pieces (ends_by (shape_of c.args.shape) is_marked_link) (links_of cs)))))
    c.as_slice.ensures.value c.in_err-children-2.ensures.put)
    refl (err_is r c.in_err-children-2.field-0.0 c.from_residual-in_err-children-2.ensures.1)

pub returns-in_err-children-2-clause-only_its_nodes : goal.returns-in_err-children-2-clause-only_its_nodes
returns-in_err-children-2-clause-only_its_nodes c =
    only_nodes c.from_residual-in_err-children-2.result (HasNode c.args.stock.now) (HasNode c.put_level.new.stock) (levels (shape_of c.args.shape) (number_of c.args.tree) (bindings_of c.args.entries.now)) (no_level c)

pub returns-in_err-children-2-clause-clash : goal.returns-in_err-children-2-clause-clash
returns-in_err-children-2-clause-clash c =
    clashing_nodes c.from_residual-in_err-children-2.result (HasNode c.args.stock.now) (HasNode c.put_level.new.stock) (levels (shape_of c.args.shape) (number_of c.args.tree) (bindings_of c.args.entries.now)) (no_level c)

pub loop-alloc-preserved : goal.loop-alloc-preserved
loop-alloc-preserved c =
    let links = links_of c.loop-alloc.children.items in
    let many : 2 ≤ length links = omega (arith, length-map c.loop-alloc.children.items link_of, c.loop-alloc.children.ok.0, c.len.ensures) in
    let over = λ (cs : List Child). map (Inner (number_of c.args.tree) c.loop-alloc.level) (one_at_least (pieces (ends_by (shape_of c.args.shape) is_marked_link) (links_of cs))) in
    rising_next (shape_of c.args.shape) (number_of c.args.tree) (bindings_of c.args.entries.now) c.loop-alloc.level links (HasNode c.args.stock.now) (HasNode c.loop-alloc.stock) c.loop-alloc.invariant
    (links_of c.in_ok-children-2.children.items) (HasNode c.put_level.new.stock) many
    (c.in_ok-children-2.ensures.links ∙ ap (λ (cs : List Child). map link_to (over cs)) c.as_slice.ensures.value)
    (subst (λ (cs : List Child). GrownByAll (HasNode c.loop-alloc.stock) (HasNode c.put_level.new.stock) (IsOneOf (over cs))) c.as_slice.ensures.value c.in_ok-children-2.ensures.put.gained)

pub loop-alloc-smaller : goal.loop-alloc-smaller
loop-alloc-smaller c =
    let links = links_of c.loop-alloc.children.items in
    let many : 2 ≤ length links = omega (arith, length-map c.loop-alloc.children.items link_of, c.loop-alloc.children.ok.0, c.len.ensures) in
    let over = λ (cs : List Child). map (Inner (number_of c.args.tree) c.loop-alloc.level) (one_at_least (pieces (ends_by (shape_of c.args.shape) is_marked_link) (links_of cs))) in
    rising_fewer (shape_of c.args.shape) (number_of c.args.tree) (bindings_of c.args.entries.now) c.loop-alloc.level links (HasNode c.args.stock.now) (HasNode c.loop-alloc.stock) c.loop-alloc.invariant
    c.loop-alloc.children.items c.in_ok-children-2.children.items many refl
    (c.in_ok-children-2.ensures.links ∙ ap (λ (cs : List Child). map link_to (over cs)) c.as_slice.ensures.value)

pub returns-clause-top : goal.returns-clause-top
returns-clause-top c =
    let links = links_of c.loop-alloc.children.items in
    rising_top (shape_of c.args.shape) (number_of c.args.tree) (bindings_of c.args.entries.now) c.loop-alloc.level links (HasNode c.args.stock.now) (HasNode c.loop-alloc.stock) c.loop-alloc.invariant
    (omega (arith, length-map c.loop-alloc.children.items link_of, c.loop-alloc.children.ok.0, c.len.ensures)) c.loop-alloc.children.items c.index.result.now refl c.index.ensures

pub returns-clause-gained : goal.returns-clause-gained
returns-clause-gained c =
    let links = links_of c.loop-alloc.children.items in
    let tree = levels (shape_of c.args.shape) (number_of c.args.tree) (bindings_of c.args.entries.now) in
    gained_nodes (HasNode c.args.stock.now) (HasNode c.loop-alloc.stock) tree
    (rising_gained (shape_of c.args.shape) (number_of c.args.tree) (bindings_of c.args.entries.now) c.loop-alloc.level links (HasNode c.args.stock.now) (HasNode c.loop-alloc.stock) c.loop-alloc.invariant
    (omega (arith, length-map c.loop-alloc.children.items link_of, c.loop-alloc.children.ok.0, c.len.ensures)))

pub returns-clause-only_its_nodes : goal.returns-clause-only_its_nodes
returns-clause-only_its_nodes c =
    let links = links_of c.loop-alloc.children.items in
    let tree = levels (shape_of c.args.shape) (number_of c.args.tree) (bindings_of c.args.entries.now) in
    only_nodes (Ok c.loop-alloc.level) (HasNode c.args.stock.now) (HasNode c.loop-alloc.stock) tree
    (put_whole c.loop-alloc.level (HasNode c.args.stock.now) (HasNode c.loop-alloc.stock) (join tree)
    (rising_gained (shape_of c.args.shape) (number_of c.args.tree) (bindings_of c.args.entries.now) c.loop-alloc.level links (HasNode c.args.stock.now) (HasNode c.loop-alloc.stock) c.loop-alloc.invariant
    (omega (arith, length-map c.loop-alloc.children.items link_of, c.loop-alloc.children.ok.0, c.len.ensures))))

pub returns-clause-decided : goal.returns-clause-decided
returns-clause-decided c =
    let links = links_of c.loop-alloc.children.items in
    let tree = levels (shape_of c.args.shape) (number_of c.args.tree) (bindings_of c.args.entries.now) in
    let gained = gained_nodes (HasNode c.args.stock.now) (HasNode c.loop-alloc.stock) tree
    (rising_gained (shape_of c.args.shape) (number_of c.args.tree) (bindings_of c.args.entries.now) c.loop-alloc.level links (HasNode c.args.stock.now) (HasNode c.loop-alloc.stock) c.loop-alloc.invariant
    (omega (arith, length-map c.loop-alloc.children.items link_of, c.loop-alloc.children.ok.0, c.len.ensures))) in
    λ clash. absurd (none_clash (HasNode c.args.stock.now) (HasNode c.loop-alloc.stock) tree gained (stock_free c.loop-alloc.stock) clash)
