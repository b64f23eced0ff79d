use Rattle.std.proofs.Common.{ℕ, ◌+◌, ◌<◌, get_or}
use Rattle.tree_node.specs.Digests.{digest}
use Rattle.tree_node.specs.Order.{IsBelow}
use Rattle.tree_node.specs.Parts.{node_of}
use Rattle.tree_node.specs.declared.part.Part.{Part}
use Rattle.osm_prove.proofs.proof_reader.are_rising.Given as goal

-- each digest so far is below the next
abbrev pub invariant-loop-i : goal.invariant-loop-i
invariant-loop-i l = (k : ℕ) (d : Part) → k + 1 < l.i → IsBelow (digest (node_of (get_or l.parts k d))) (digest (node_of (get_or l.parts (k + 1) d)))
