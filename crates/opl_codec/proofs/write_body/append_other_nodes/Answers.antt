use Rattle.std.proofs.Common.{◌≡◌, ◌++◌, ◌∷◌, pos, get_or, FitsSigned, to_z-of_z, rules}
use Rattle.std.specs.Int.{w64}
use Rattle.osm_model.specs.Bytes.{comma}
use Rattle.osm_model.specs.CanonicalLine.{node_text}
use Rattle.opl_codec.proofs.shared.AppendSteps.{front_kept}
use Rattle.opl_codec.proofs.WriteLists.{written_more}
use Rattle.opl_codec.proofs.write_body.append_other_nodes.Goals as goal

pub loop-node-preserved : goal.loop-node-preserved
loop-node-preserved c =
    let small : FitsSigned w64 (get_or c.args.nodes.now c.loop-node.node-index (pos 0)) = search rules in
    let put : c.append_other_node.new.out.items ≡ c.loop-node.out.items ++ comma ∷ node_text (get_or c.args.nodes.now c.loop-node.node-index (pos 0)) = simp (to_z-of_z small) at c.in_ok-append_other_node.ensures.ok in
    written_more node_text c.args.nodes.now c.loop-node.node-index (pos 0) _ _ _ c.loop-node-test.true c.loop-node.invariant put

pub returns-in_err-append_other_node-clause-err : goal.returns-in_err-append_other_node-clause-err
returns-in_err-append_other_node-clause-err c =
    search (rules, front_kept c.args.out.now.items c.loop-node.out.items c.append_other_node.new.out.items _ c.loop-node.invariant c.in_err-append_other_node.ensures.err)
