use Rattle.std.proofs.Common.{Ok, refl, sym, subst}
use Rattle.tree_node.specs.Fetches.{ReadsAs}
use Rattle.tree_node.specs.declared.node.NodeRef.{NodeRef}
use Rattle.tree_node.proofs.FetchLemmas.{reads_as}
use Rattle.tree_node.proofs.recorded_node.RecordedNode.fetched.Goals as goal

pub returns-in-Some : goal.returns-in-Some
returns-in-Some c =
    let (fits, reads) = c.args.self.now.own c.in-Some.node c.in-Some.is in (
      refl,
      subst (λ (n : NodeRef). ReadsAs c.args.self.now.bytes.now (Ok n)) (sym c.again.ensures)
          (reads_as c.args.self.now.bytes.now (Ok c.in-Some.node) fits reads),
    )
