-- The nodes that an evaluation had brought, as the proof lists them.
use Rattle.std.proofs.Common.{◌≡◌, ℕ, List}
use Rattle.std.specs.List.{Contains}
use Rattle.tree_node.specs.Parts.{HaveNode, HaveRisingDigests}
use Rattle.tree_node.specs.Shelves.{SameNodes}
use Rattle.tree_node.specs.declared.part.Part.{Part}
use Rattle.osm_keys.specs.Publications.{IsPublication, Publication}
use Rattle.ql_syntax.specs.Statements.{Statements}
use Rattle.ql_eval.specs.Asks.{IsNeeded}
use Rattle.osm_prove.specs.Proofs.{FitsProof, listing, nodes_of}
use Rattle.osm_prove.specs.Proved.{IsProofOf}
use Rattle.osm_prove.proofs.shared.NeededNodes.{needed_in}
use Rattle.osm_prove.proofs.shared.PartNodes.{among_parts, node_among, nodes_rise}
use Rattle.outside_proof.specs.Listings.{ListsRising}
use Rattle.outside_proof.proofs.NodeCounts.{few_nodes}
use Rattle.outside_proof.proofs.NodeLengths.{short_nodes}

-- parts by rising digest that fit a proof, listed
pub rising_listed : (parts : List Part) (proof : List ℕ) → HaveRisingDigests parts → FitsProof (nodes_of parts) → proof ≡ listing (nodes_of parts) → ListsRising proof
rising_listed parts proof rising fits listed = (nodes_of parts, record { fits = fits; spelled = listed }, nodes_rise parts rising)

module _ (p : Publication) (statements : Statements) (brought : List ℕ → Type 0) (parts : List Part) (needed : SameNodes (IsNeeded p statements) brought) (held : SameNodes brought (HaveNode parts)) where
  -- the parts of what was brought have just the needed nodes
  parts_needed : SameNodes (IsNeeded p statements) (Contains (nodes_of parts))
  parts_needed x = (
    (λ among. (needed x).0 ((held x).0 (among_parts parts x among))),
    (λ is. node_among parts x ((held x).1 ((needed x).1 is))),
  )

  module _ (rising : HaveRisingDigests parts) where
    -- they fit a proof
    pub needed_fit : IsPublication p → FitsProof (nodes_of parts)
    needed_fit is =
        let all = λ (x : List ℕ) (among : Contains (nodes_of parts) x). needed_in p statements x ((parts_needed x).0 among) in
        record { few = few_nodes p (nodes_of parts) is (nodes_rise parts rising) all; short = short_nodes p is (nodes_of parts) all }

    -- and the bytes that list them are the proof of the query
    pub proof_of : (proof : List ℕ) → FitsProof (nodes_of parts) → proof ≡ listing (nodes_of parts) → IsProofOf p statements proof
    proof_of proof fits listed = record {
      nodes = nodes_of parts;
      lists = record { fits = fits; spelled = listed };
      rising = nodes_rise parts rising;
      needed = parts_needed;
    }
