use Rattle.std.proofs.Common.{◌≡◌, List, ℕ, Some, sym}
use Rattle.tree_node.specs.Keys.{lent_at, owned_at}
use Rattle.tree_node.specs.declared.digest.Digest.{Digest}
use Rattle.tree_node.specs.declared.recorded_node.RecordedNode.{RecordedNode}
use Rattle.tree_node.proofs.shared.MapLemmas.{update_sets, put_grows, was_given, each_inserted}
use Rattle.tree_node.proofs.recorder.Recorder.remember.Goals as goal

pub invariant_of-self : goal.invariant_of-self
invariant_of-self c = record {
  own = each_inserted (λ (q : Digest) (x : List ℕ). owned_at c.args.self.now.stock.now.nodes q ≡ Some x) (λ (g : RecordedNode). g.bytes.now) c.args.self.now.given c.insert.new.self c.args.key.now c.args.given c.insert.result
      c.insert.ensures.updates c.insert.ensures.err c.requires c.args.self.now.own;
}

-- the node that was found is used now, and no other is more than before
pub returns-in-Ok-clause-grown : goal.returns-in-Ok-clause-grown
returns-in-Ok-clause-grown c =
    put_grows (lent_at c.args.self.now.given) (lent_at c.insert.new.self) c.args.key.now c.args.given.bytes.now
    (update_sets (λ (g : RecordedNode). g.bytes.now) c.args.self.now.given c.insert.new.self c.args.key.now (Some c.args.given) c.in-Ok.ensures.updates)
    (sym (c.args.self.now.stock.now.own c.args.key.now c.args.given.bytes.now c.requires))
    (was_given (owned_at c.args.self.now.stock.now.nodes) (lent_at c.args.self.now.given) c.args.key.now c.args.given.bytes.now c.requires (c.args.self.now.own c.args.key.now))
