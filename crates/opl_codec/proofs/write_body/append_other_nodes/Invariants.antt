use Rattle.std.proofs.Common.{◌≡◌, ◌++◌, ◌∷◌, take, flat_map}
use Rattle.osm_model.specs.Bytes.{comma}
use Rattle.osm_model.specs.CanonicalLine.{node_text}
use Rattle.opl_codec.proofs.write_body.append_other_nodes.Given as goal

abbrev pub invariant-loop-node : goal.invariant-loop-node
invariant-loop-node l = l.out.items ≡ l.initial.out.items ++ flat_map (λ x. comma ∷ node_text x) (take l.node-index l.nodes)
