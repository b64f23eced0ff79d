use Rattle.std.proofs.Common.{◌≡◌, List, ℕ, Some, inl, refl, sym}
use Rattle.tree_node.specs.Digests.{digest}
use Rattle.tree_node.specs.Nodes.{AreBytes}
use Rattle.tree_node.specs.Parts.{node_of}
use Rattle.tree_node.specs.declared.digest.Digest.{Digest}
use Rattle.tree_node.proofs.shared.MapLemmas.{each_inserted, put_grows, update_sets}
use Rattle.outside_shelf.specs.Brought.{brought_at}
use Rattle.outside_shelf.proofs.BroughtLemmas.{none_there, room_kept, same_digest}
use Rattle.outside_shelf.proofs.outside.OutsideShelf.remember.Goals as goal

pub invariant_of-self : goal.invariant_of-self
invariant_of-self g c =
    let brought = c.args.self.now.brought in
    let key = c.args.key.now in
    let own = same_digest c.digest.result.0 key.0 (digest (node_of c.args.part)) c.ne.result c.ne.ensures c.if-ne.false c.digest.ensures in
    record {
      own = each_inserted (λ (q : Digest) (x : List ℕ). digest x ≡ q.0) node_of brought c.insert.new.self key c.args.part c.insert.result
          c.insert.ensures.updates c.insert.ensures.err own c.args.self.now.own;
      bytes = each_inserted (λ (q : Digest) (x : List ℕ). AreBytes x) node_of brought c.insert.new.self key c.args.part c.insert.result
          c.insert.ensures.updates c.insert.ensures.err c.requires.bytes c.args.self.now.bytes;
      within = room_kept brought c.insert.new.self key c.args.part c.args.self.now.bound c.insert.result
          c.insert.ensures.old c.insert.ensures.entries c.insert.ensures.err
          (none_there (brought_at brought) key (brought_at brought key) refl (c.args.self.now.own key) c.requires.fresh) c.requires.room;
    }

pub returns-in-Ok-clause-own : goal.returns-in-Ok-clause-own
returns-in-Ok-clause-own g c =
    same_digest c.digest.result.0 c.args.key.now.0 (digest (node_of c.args.part)) c.ne.result c.ne.ensures c.if-ne.false c.digest.ensures

pub returns-in-Ok-clause-grown : goal.returns-in-Ok-clause-grown
returns-in-Ok-clause-grown g c =
    let brought = c.args.self.now.brought in
    let key = c.args.key.now in
    let own = same_digest c.digest.result.0 key.0 (digest (node_of c.args.part)) c.ne.result c.ne.ensures c.if-ne.false c.digest.ensures in
    put_grows (brought_at brought) (brought_at c.insert.new.self) key (node_of c.args.part)
    (update_sets node_of brought c.insert.new.self key (Some c.args.part) c.in-Ok.ensures.updates)
    (sym own)
    (inl (none_there (brought_at brought) key (brought_at brought key) refl (c.args.self.now.own key) c.requires.fresh))
