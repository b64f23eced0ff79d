use Rattle.std.proofs.Common.{◌≡◌, ◌⊎◌, inl, inr, List, ℕ, Result, Ok, Err, subst, sym}
use Rattle.std.specs.Prelude.{OnErr, OnOk}
use Rattle.tree_node.specs.Nodes.{AreBytes}
use Rattle.tree_node.specs.Shelves.{GrownBy, SameNodes}
use Rattle.tree_node.specs.Stocks.{HasNode}
use Rattle.outside_shelf.proofs.node_stock.NodeStock.put.Goals as goal

-- what was of bytes stays so, with one node more
still_bytes : {A E : Type 0} (old new : List ℕ → Type 0) (node : List ℕ) (result : Result A E) → OnOk result (GrownBy old new node) → OnErr result (SameNodes old new)
    → ((x : List ℕ) → old x → AreBytes x) → AreBytes node → (x : List ℕ) → new x → AreBytes x
still_bytes old new node (Ok key) grown same bytes own x is = elim ((grown x).0 is) [ inl before ↦ bytes x before | inr this ↦ subst AreBytes (sym this) own ]
still_bytes old new node (Err fault) grown same bytes own x is = bytes x ((same x).0 is)

pub invariant_of-self : goal.invariant_of-self
invariant_of-self c = record {
  bytes = still_bytes (HasNode c.args.self.now.stock) (HasNode c.put_new.new.self) c.args.node.bytes.items c.put_new.result c.put_new.ensures.added c.put_new.ensures.unchanged
      c.args.self.now.bytes (subst AreBytes c.as_slice.ensures.value c.bytes_law.ensures);
}
