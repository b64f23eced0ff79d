use Rattle.std.proofs.Common.{List, subst, sym}
use Rattle.tree_node.specs.Parts.{HaveRisingDigests}
use Rattle.tree_node.specs.declared.part.Part.{Part}
use Rattle.osm_prove.specs.Proofs.{nodes_of}
use Rattle.osm_prove.proofs.shared.PartNodes.{parts_rise}
use Rattle.osm_prove.proofs.proof_reader.read_proof.Goals as goal

pub returns-then-not-are_rising-clause-not_rising : goal.returns-then-not-are_rising-clause-not_rising
returns-then-not-are_rising-clause-not_rising c = λ _.
    let told = c.if-not-are_rising.ensures in (
      nodes_of c.in_ok-parts.parts.items,
      c.in_ok-parts.ensures.read,
      λ rising.
          let yes = told.1 (subst (λ (ps : List Part). HaveRisingDigests ps) (sym c.deref.ensures.value) (parts_rise c.in_ok-parts.parts.items rising)) in cc,
    )
