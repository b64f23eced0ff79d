use Rattle.std.proofs.Common.{◌≡◌, ℕ, List, None}
use Rattle.std.specs.Global.{Vec}
use Rattle.tree_node.specs.Digests.{digest}
use Rattle.tree_node.specs.Keys.{owned_at}
use Rattle.tree_node.specs.declared.digest.Digest.{Digest}
use Rattle.tree_node.proofs.shared.MapLemmas.{each_after, take_loses, update_sets}
use Rattle.tree_node.proofs.stock.Stock.remove.Goals as goal

pub invariant_of-self : goal.invariant_of-self
invariant_of-self c = record {
  own = each_after (λ (q : Digest) (x : List ℕ). digest x ≡ q.0) (owned_at c.args.self.now.nodes) (owned_at c.remove.new.self) c.args.key.now None
      (update_sets (λ (v : Vec ℕ). v.items) c.args.self.now.nodes c.remove.new.self c.args.key.now None c.remove.ensures.updates) (λ x e. absurd Prim.cc) c.args.self.now.own;
}

pub returns : goal.returns
returns c =
    take_loses (owned_at c.args.self.now.nodes) (owned_at c.remove.new.self) c.args.key.now
    (update_sets (λ (v : Vec ℕ). v.items) c.args.self.now.nodes c.remove.new.self c.args.key.now None c.remove.ensures.updates)
