-- What a shelf over a stock used is of bytes, so that no node without a second preimage clashes with it.
use Rattle.std.proofs.Common.{ℕ, List, inl, inr}
use Rattle.tree_node.specs.Keys.{key_of, lent_at, owned_at}
use Rattle.tree_node.specs.Nodes.{AreBytes}
use Rattle.tree_node.specs.internal.RecorderLaws.{given_held}
use Rattle.osm_keys.specs.Publications.{Publication}
use Rattle.ql_eval.specs.Work.{HasNoClash, IsNodeOf}
use Rattle.outside_shelf.specs.SecondPreimages.{HaveSecondPreimage}
use Rattle.outside_shelf.specs.StockedShelves.{StockedUsed}
use Rattle.outside_shelf.specs.declared.stocked.StockedShelf.{StockedShelf}

module _ {N : Type 0} (shelf : StockedShelf N) where
  used_bytes : (node : List ℕ) → StockedUsed shelf node → AreBytes node
  used_bytes node (inl used) = shelf.stocked node (given_held (owned_at shelf.recorder.stock.now.nodes) (lent_at shelf.recorder.given) shelf.recorder.own node used)
  used_bytes node (inr brought) = shelf.outside.bytes (key_of node) node brought

  pub no_clash : (p : Publication) → ¬ HaveSecondPreimage (IsNodeOf p) → HasNoClash p (StockedUsed shelf)
  no_clash p none clash = none (clash.0, clash.1, clash.2, used_bytes clash.1 clash.3, clash.4, clash.5)
