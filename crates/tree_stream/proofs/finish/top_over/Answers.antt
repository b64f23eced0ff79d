use Rattle.std.proofs.Common.{◌≡◌, List, length, sym, subst, arith}
use Rattle.tree_node.specs.Nodes.{Link}
use Rattle.tree_node.specs.Trees.{link_to}
use Rattle.tree_stream.specs.internal.Cutting.{links_left}
use Rattle.tree_stream.specs.internal.Holding.{IsOnly}
use Rattle.tree_stream.proofs.FinishLemmas.{left_all, not_one, top_of_only}
use Rattle.tree_stream.proofs.HoldLemmas.{held_at}
use Rattle.tree_stream.proofs.OpenLemmas.{first_pending}
use Rattle.tree_stream.proofs.finish.top_over.Goals as goal

pub returns-then-at-levels : goal.returns-then-at-levels
returns-then-at-levels c = λ shape tree nodes given so.
    let held = held_at c.args.levels.now c.args.at c.index-levels-at.result (links_left shape nodes) c.requires c.index-levels-at.is (first_pending shape tree c.args.at nodes c.args.levels.now given so) in
    top_of_only c.only.result nodes
    (subst (λ (ls : List Link). IsOnly c.only.result ls) (left_all shape tree c.args.at nodes c.args.levels.now given so c.if-at-levels.true) (c.only.ensures (links_left shape nodes) held))

pub returns-else-at-levels : goal.returns-else-at-levels
returns-else-at-levels c = λ shape tree nodes given so one.
    not_one shape tree c.args.at nodes c.args.levels.now given so c.requires c.if-at-levels.false one
