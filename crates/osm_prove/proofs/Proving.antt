-- The nodes that an evaluation used, as the proof lists them.
use Rattle.std.proofs.Common.{Bool, ◌≡◌, ℕ, ◌↔◌, List, inl, inr}
use Rattle.std.specs.List.{AllByRecursion-prop, Contains}
use Rattle.std.proofs.Math.Bridge.{le_prop}
use Rattle.std.proofs.Math.Logic.{∥∥₁_elim}
use Rattle.tree_node.specs.Outcomes.{GrownByAll}
use Rattle.tree_node.specs.Parts.{HaveNode, HaveRisingDigests}
use Rattle.tree_node.specs.Shelves.{IsEmptySet, SameNodes, Stays}
use Rattle.tree_node.specs.Stocks.{HasNode}
use Rattle.tree_node.specs.declared.part.Part.{Part}
use Rattle.tree_node.specs.declared.stock.Stock.{Stock}
use Rattle.osm_keys.specs.Publications.{IsNodeIn, IsPublication, Publication}
use Rattle.ql_syntax.specs.Statements.{Statements}
use Rattle.ql_eval.specs.Asks.{IsNeeded}
use Rattle.ql_eval.specs.Work as work
use Rattle.osm_prove.specs.Proofs.{AreRising, FitsProof, listing, nodes_of}
use Rattle.osm_prove.specs.Proved.{IsProofOf}
use Rattle.osm_prove.proofs.NodeCounts.{few_nodes}
use Rattle.osm_prove.proofs.NodeLengths.{short_nodes}
use Rattle.osm_prove.proofs.shared.ListingLaws.{IsShort}
use Rattle.osm_prove.proofs.shared.NeededNodes.{askable_in, needed_in}
use Rattle.osm_prove.proofs.shared.PartNodes.{among_parts, node_among, nodes_rise}

-- these nodes are just those that the query needs, by rising digest
pub record AreNeeded (p : Publication) (statements : Statements) (nodes : List (List ℕ)) : Type 0 where
  pub rising : AreRising nodes
  pub needed : SameNodes (IsNeeded p statements) (Contains nodes)

-- the parts of a shelf of which no node was used before
pub parts_needed : (p : Publication) (statements : Statements) (before after : List ℕ → Type 0) (parts : List Part) → IsEmptySet before → GrownByAll before after (IsNeeded p statements)
    → HaveRisingDigests parts → SameNodes after (HaveNode parts) → AreNeeded p statements (nodes_of parts)
parts_needed p statements before after parts none grown rising used = record {
  rising = nodes_rise parts rising;
  needed = λ x. (
    (λ among. elim ((grown x).0 ((used x).0 (among_parts parts x among))) [ inl was ↦ absurd (none x was) | inr is ↦ is ]),
    (λ is. node_among parts x ((used x).1 ((grown x).1 (inr is)))),
  );
}

-- they fit a proof
pub needed_fit : (p : Publication) (statements : Statements) (nodes : List (List ℕ)) → IsPublication p → AreNeeded p statements nodes → FitsProof nodes
needed_fit p statements nodes is are =
    let all = λ (x : List ℕ) (among : Contains nodes x). needed_in p statements x ((are.needed x).0 among) in
    record { few = few_nodes p nodes is are.rising all; short = short_nodes p is nodes all }

-- and the proof that lists them is the proof of the query
pub proof_of_needed : (p : Publication) (statements : Statements) (nodes : List (List ℕ)) (proof : List ℕ) → IsPublication p → AreNeeded p statements nodes → proof ≡ listing nodes → IsProofOf p statements proof
proof_of_needed p statements nodes proof is are e = record {
  nodes = nodes;
  lists = record { fits = needed_fit p statements nodes is are; spelled = e };
  rising = are.rising;
  needed = are.needed;
}

-- a shelf over a stock that has the nodes of the publication holds what the query needs, and goes on to hold it
pub all_held : {fixed : Bool} (p : Publication) (statements : Statements) (stock : Stock) (old new : List ℕ → Type 0) → SameNodes (HasNode stock) old → Stays fixed old new
    → ((x : List ℕ) → HasNode stock x ↔ IsNodeIn p x) → (x : List ℕ) → IsNeeded p statements x → new x
all_held p statements stock old new holds stays nodes x needed =
    (stays x).1 ((holds x).1 ((nodes x).1 (needed_in p statements x needed)))

-- and so it holds whatever may be asked for
pub askable_held : {fixed : Bool} (p : Publication) (stock : Stock) (old new : List ℕ → Type 0) → SameNodes (HasNode stock) old → Stays fixed old new
    → ((x : List ℕ) → HasNode stock x ↔ IsNodeIn p x) → (x : List ℕ) → work.IsNodeOf p x → new x
askable_held p stock old new holds stays nodes x askable = (stays x).1 ((holds x).1 ((nodes x).1 (askable_in p x askable)))

-- what fits a proof isn't known of one publication alone
pub fits_from : (nodes : List (List ℕ)) → ∥ FitsProof nodes ∥₁ → FitsProof nodes
fits_from nodes fits = record {
  few = ∥∥₁_elim fits le_prop (λ is. is.few);
  short = ∥∥₁_elim fits (AllByRecursion-prop IsShort (λ x. le_prop) nodes) (λ is. is.short);
}
