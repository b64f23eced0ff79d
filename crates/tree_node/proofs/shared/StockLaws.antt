-- What a stock holds, and a recorder over it.
use Rattle.std.specs.Prelude.{ℕ, List}
use Rattle.tree_node.specs.Keys.{lent_at, owned_at}
use Rattle.tree_node.specs.Recorders.{RecorderHolds, RecorderUsed}
use Rattle.tree_node.specs.Shelves.{IsClashFree}
use Rattle.tree_node.specs.Stocks.{HasNode}
use Rattle.tree_node.specs.internal.RecorderLaws.{given_held, stands_once}
use Rattle.tree_node.specs.declared.recorder.Recorder.{Recorder}
use Rattle.tree_node.specs.declared.stock.Stock.{Stock}

-- no two nodes of a stock have one digest
pub stock_free : (stock : Stock) → IsClashFree (HasNode stock)
stock_free stock = stands_once (owned_at stock.nodes)

-- each used node of a recorder is held
pub recorder_used : (recorder : Recorder) (x : List ℕ) → RecorderUsed recorder x → RecorderHolds recorder x
recorder_used recorder = given_held (owned_at recorder.stock.now.nodes) (lent_at recorder.given) recorder.own
