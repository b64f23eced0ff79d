use Rattle.std.proofs.Common.{List, map, refl, sym, subst, arith}
use Rattle.tree_node.specs.NodeRefs.{number_of}
use Rattle.tree_node.specs.Nodes.{Node}
use Rattle.tree_node.specs.Trees.{Two, ends_by}
use Rattle.tree_build.proofs.GrowLemmas.{none_left}
use Rattle.tree_build.proofs.PendingLemmas.{IsCutting, cutting_done, cutting_fit, cutting_next, cutting_start, fit_meant, next_item}
use Rattle.tree_build.proofs.open_piece.cut.Goals as goal

pub loop-item-init : goal.loop-item-init
loop-item-init g c =
    let X = g.row.T.Denot in
    let Fit : List X → Type 0 = (λ (xs : List X). g.T.NodeItem.Fit (map g.T.NodeItem.meaning xs)) in
    let node : List X → Node = (λ (piece : List X). g.T.NodeItem.node_over (number_of c.args.tree) c.args.level (map g.T.NodeItem.meaning piece)) in
    record { few = c.requires.few; cutting = cutting_start Fit (ends_by Two g.T.Cut.marked) node _ _ _ c.requires.fit }

pub cut_one-requires : goal.cut_one-requires
cut_one-requires g c = λ k.
    let X = g.row.T.Denot in
    let Fit : List X → Type 0 = (λ (xs : List X). g.T.NodeItem.Fit (map g.T.NodeItem.meaning xs)) in
    let node : List X → Node = (λ (piece : List X). g.T.NodeItem.node_over (number_of c.args.tree) c.args.level (map g.T.NodeItem.meaning piece)) in
    let next = next_item c.args.items.now c.loop-item.item-index c.item-item.result c.loop-item-test.true c.item-item.is in
    let so = subst (λ (rest : List X). IsCutting Fit (ends_by Two g.T.Cut.marked) node c.args.pending.now.items c.args.items.now c.args.news.now.items c.loop-item.news.items c.loop-item.pending.items rest) next c.loop-item.invariant.cutting in
    ((refl, tt), (c.loop-item.invariant.few, cutting_fit _ _ _ (fit_meant g.T.NodeItem.meaning g.T.NodeItem.Fit g.met.T.NodeItem.parts) _ _ _ _ _ _ _ so))

pub loop-item-preserved : goal.loop-item-preserved
loop-item-preserved g c =
    let X = g.row.T.Denot in
    let Fit : List X → Type 0 = (λ (xs : List X). g.T.NodeItem.Fit (map g.T.NodeItem.meaning xs)) in
    let node : List X → Node = (λ (piece : List X). g.T.NodeItem.node_over (number_of c.args.tree) c.args.level (map g.T.NodeItem.meaning piece)) in
    let next = next_item c.args.items.now c.loop-item.item-index c.item-item.result c.loop-item-test.true c.item-item.is in
    let so = subst (λ (rest : List X). IsCutting Fit (ends_by Two g.T.Cut.marked) node c.args.pending.now.items c.args.items.now c.args.news.now.items c.loop-item.news.items c.loop-item.pending.items rest) next c.loop-item.invariant.cutting in
    record {
      few = c.in_ok-cut_one.ensures.few;
      cutting = cutting_next _ _ _ (fit_meant g.T.NodeItem.meaning g.T.NodeItem.Fit g.met.T.NodeItem.parts) _ _ _ _ _ _ _ so _ _ c.in_ok-cut_one.ensures.news c.in_ok-cut_one.ensures.pending;
    }

pub returns-clause-news : goal.returns-clause-news
returns-clause-news g c =
    let X = g.row.T.Denot in
    let Fit : List X → Type 0 = (λ (xs : List X). g.T.NodeItem.Fit (map g.T.NodeItem.meaning xs)) in
    let node : List X → Node = (λ (piece : List X). g.T.NodeItem.node_over (number_of c.args.tree) c.args.level (map g.T.NodeItem.meaning piece)) in
    let end = none_left c.args.items.now c.loop-item.item-index (omega arith) in
    let so = subst (λ (rest : List X). IsCutting Fit (ends_by Two g.T.Cut.marked) node c.args.pending.now.items c.args.items.now c.args.news.now.items c.loop-item.news.items c.loop-item.pending.items rest) end c.loop-item.invariant.cutting in
    cutting_done _ _ _ _ _ _ _ _ so

pub returns-clause-pending : goal.returns-clause-pending
returns-clause-pending g c =
    let X = g.row.T.Denot in
    let Fit : List X → Type 0 = (λ (xs : List X). g.T.NodeItem.Fit (map g.T.NodeItem.meaning xs)) in
    let node : List X → Node = (λ (piece : List X). g.T.NodeItem.node_over (number_of c.args.tree) c.args.level (map g.T.NodeItem.meaning piece)) in
    let end = none_left c.args.items.now c.loop-item.item-index (omega arith) in
    let so = subst (λ (rest : List X). IsCutting Fit (ends_by Two g.T.Cut.marked) node c.args.pending.now.items c.args.items.now c.args.news.now.items c.loop-item.news.items c.loop-item.pending.items rest) end c.loop-item.invariant.cutting in
    sym so.pending_is

pub returns-clause-few : goal.returns-clause-few
returns-clause-few g c = c.loop-item.invariant.few
