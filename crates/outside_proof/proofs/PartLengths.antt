-- Whether nodes fit a proof, read from the first on.
use Rattle.std.proofs.Common.{◌≡◌, ℕ, zero, suc, ◌<◌, ◌^◌, List, [], ◌∷◌, length, get_or, subst, sym, arith}
use Rattle.std.specs.List.{AllByRecursion}
use Rattle.std.proofs.lemmas.List.{length-map}
use Rattle.tree_node.specs.Parts.{node_of}
use Rattle.tree_node.specs.declared.part.Part.{Part}
use Rattle.osm_prove.specs.Proofs.{FitsProof, nodes_of}
use Rattle.osm_prove.proofs.shared.ListingLaws.{IsShort}

-- where each part is short, the nodes are
all_short : (parts : List Part) → ((k : ℕ) (p : Part) → k < length parts → IsShort (node_of (get_or parts k p))) → AllByRecursion IsShort (nodes_of parts)
all_short [] short = tt
all_short (p ∷ ps) short = (short zero p (omega arith), all_short ps (λ k q lt. short (suc k) q (omega (arith, lt))))

-- and where they are few too, they fit a proof
pub parts_fit : (parts : List Part) → length parts < 2 ^ 32 → ((k : ℕ) (p : Part) → k < length parts → IsShort (node_of (get_or parts k p))) → FitsProof (nodes_of parts)
parts_fit parts few short = record { few = omega (arith, length-map parts node_of, few); short = all_short parts short }

-- nodes that fit are few
pub fit_few : (parts : List Part) → FitsProof (nodes_of parts) → length parts < 2 ^ 32
fit_few parts fits = omega (arith, length-map parts node_of, fits.few)

-- and each of them is short
pub fit_short : (parts : List Part) (k : ℕ) (p : Part) → FitsProof (nodes_of parts) → k < length parts → p ≡ get_or parts k p → IsShort (node_of p)
fit_short parts k p fits = at parts k fits.short
  where
    at : (ps : List Part) (i : ℕ) → AllByRecursion IsShort (nodes_of ps) → i < length ps → p ≡ get_or ps i p → IsShort (node_of p)
    at [] i all lt is = absurd (omega arith)
    at (q ∷ ps) zero all lt is = subst (λ (x : Part). IsShort (node_of x)) (sym is) all.0
    at (q ∷ ps) (suc i) all lt is = at ps i all.1 (omega (arith, lt)) is
