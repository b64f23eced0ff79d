use Rattle.std.proofs.Common.{arith, subst, sym}
use Rattle.std.proofs.lemmas.Grind.{common_steps}
use Rattle.osm_prove.specs.Proofs.{listing}
use Rattle.osm_prove.proofs.FormLemmas.{short_at}
use Rattle.osm_prove.proofs.shared.ListingLaws.{IsShort}
use Rattle.osm_prove.proofs.proof_writer.write_proof.Goals as goal

pub append_node-requires : goal.append_node-requires
append_node-requires c =
    subst IsShort (sym c.bytes.ensures) (short_at c.args.parts.now c.loop-part.part-index c.part-item.result c.requires.short (omega arith) c.part-item.is)

pub returns : goal.returns
unfolding listing
returns c = grind (arith, common_steps)
