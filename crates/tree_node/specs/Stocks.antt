-- What a stock holds.
-- Source: this project.
use Rattle.std.specs.Prelude.{ℕ, List}
use Rattle.tree_node.specs.Keys.{StandsIn, owned_at}
use Rattle.tree_node.specs.declared.stock.Stock.{Stock}

-- the stock holds this node
abbrev pub HasNode : Stock → List ℕ → Type 0
HasNode stock = StandsIn (owned_at stock.nodes)
