-- What a recorder holds, and which of its nodes were used.
-- Source: this project.
use Rattle.std.specs.Prelude.{ℕ, List}
use Rattle.tree_node.specs.Keys.{StandsIn, lent_at}
use Rattle.tree_node.specs.Stocks.{HasNode}
use Rattle.tree_node.specs.declared.recorder.Recorder.{Recorder}

-- the recorder's stock holds this node
abbrev pub RecorderHolds : Recorder → List ℕ → Type 0
RecorderHolds recorder = HasNode recorder.stock.now

-- this node was used
abbrev pub RecorderUsed : Recorder → List ℕ → Type 0
RecorderUsed recorder = StandsIn (lent_at recorder.given)
