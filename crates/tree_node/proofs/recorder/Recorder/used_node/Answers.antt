use Rattle.std.proofs.Common.{sym, ap}
use Rattle.std.specs.Option.{option_map}
use Rattle.tree_node.specs.Keys.{lent_at, owned_at}
use Rattle.tree_node.specs.declared.recorded_node.RecordedNode.{RecordedNode}
use Rattle.tree_node.proofs.shared.MapLemmas.{given_used}
use Rattle.tree_node.proofs.recorder.Recorder.used_node.Goals as goal

pub returns-in-Some : goal.returns-in-Some
returns-in-Some c =
    given_used (owned_at c.args.self.now.stock.now.nodes) (lent_at c.args.self.now.given) c.args.key.now c.in-Some.given.now.bytes.now
    (ap (option_map (λ (g : RecordedNode). g.bytes.now)) (sym c.in-Some.ensures.value))
    (c.args.self.now.own c.args.key.now) (c.args.self.now.stock.now.own c.args.key.now)
