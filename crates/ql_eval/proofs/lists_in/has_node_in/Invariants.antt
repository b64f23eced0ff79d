use Rattle.std.proofs.Common.{ℤ, take}
use Rattle.std.specs.List.{Contains}
use Rattle.osm_model.specs.declared.kind.Kind.TheVariants as kinds
use Rattle.ql_eval.proofs.lists_in.has_node_in.Given as goal

abbrev pub invariant-loop-id : goal.invariant-loop-id
invariant-loop-id l = (id : ℤ) → Contains (take l.id-index l.nodes) id → Contains l.refs (record { kind = kinds.Node; id = id }) → ⊥
