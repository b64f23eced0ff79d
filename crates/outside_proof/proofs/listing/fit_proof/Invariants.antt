use Rattle.std.proofs.Common.{ℕ, ◌<◌, get_or}
use Rattle.tree_node.specs.Parts.{node_of}
use Rattle.tree_node.specs.declared.part.Part.{Part}
use Rattle.osm_prove.proofs.shared.ListingLaws.{IsShort}
use Rattle.outside_proof.proofs.listing.fit_proof.Given as goal

-- the nodes so far are short
abbrev pub invariant-loop-part : goal.invariant-loop-part
invariant-loop-part l = (k : ℕ) (p : Part) → k < l.part-index → IsShort (node_of (get_or l.parts k p))
