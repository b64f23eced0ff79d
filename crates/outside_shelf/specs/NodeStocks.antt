-- What a stock of brought nodes has.
-- Source: this project.
use Rattle.std.specs.Prelude.{ℕ, List}
use Rattle.tree_node.specs.Stocks.{HasNode}
use Rattle.outside_shelf.specs.declared.node_stock.NodeStock.{NodeStock}

-- it has this node
abbrev pub HasKept : NodeStock → List ℕ → Type 0
HasKept kept = HasNode kept.stock
