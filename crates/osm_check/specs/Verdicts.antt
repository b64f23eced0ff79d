-- What the checker owes: a yes to the right answer with its proof, else the first reason for a no.
-- Source: this project.
use Rattle.std.specs.List.{AllByRecursion, Contains}
use Rattle.std.specs.Prelude.{◌≡◌, ◌⊎◌, ℕ, ◌*◌, ◌+◌, ◌-◌, ◌≤◌, List, length, ⊤}
use Rattle.tree_node.specs.Outcomes.{Clash}
use Rattle.tree_node.specs.Shelves.{SameNodes}
use Rattle.tree_walk.specs.Fetches.{counted_up}
use Rattle.tree_walk.specs.Walked.{fetched_in}
use Rattle.osm_keys.specs.Publications.{IsPublication, Publication, root_of}
use Rattle.ql_syntax.specs.Queries.{HasFault, Reads}
use Rattle.ql_syntax.specs.Statements.{Statements}
use Rattle.ql_meaning.specs.Meanings.{Means}
use Rattle.ql_eval.specs.Asks.{IsNeeded}
use Rattle.ql_eval.specs.declared.evaluation.Report.{Report}
use Rattle.osm_prove.specs.Proofs.{AreRising, IsProof, Lists}
use Rattle.osm_prove.specs.Proved.{IsProved}
use Rattle.osm_check.specs.Matching.{IsFirstDifference}
use Rattle.osm_check.specs.declared.verdict.Verdict.{Verdict}
use Rattle.osm_check.specs.declared.verdict.Verdict.TheVariants.{Yes, No}
use Rattle.osm_check.specs.declared.why.Why.TheVariants as whys

-- the bytes read as a query
abbrev pub IsReadable : List ℕ → Type 0
IsReadable query = (statements : Statements) × Reads query statements

-- the proof lists nodes by rising digest
abbrev pub IsRisingProof : List ℕ → Type 0
IsRisingProof proof = (nodes : List (List ℕ)) × Lists proof nodes × AreRising nodes

-- the node is one of those that the proof lists
abbrev pub StandsIn : List ℕ → List ℕ → Type 0
StandsIn proof node = (nodes : List (List ℕ)) × Lists proof nodes × Contains nodes node

-- ---- under the root of a publication, which the checker doesn't hold

-- What a verdict says of a query's statements, an answer and the nodes of a proof. The other reasons don't come under the
-- root of a publication.
abbrev pub Tells : Publication → Statements → (answer : List ℕ) → List (List ℕ) → Verdict → Type 0
-- the nodes are just those that are needed, and the answer is the meaning
Tells p statements answer nodes (Yes report) = SameNodes (IsNeeded p statements) (Contains nodes) × Means p.objects statements answer
-- a needed node isn't there
Tells p statements answer nodes (No whys.NodeMissing) = (node : List ℕ) × IsNeeded p statements node × ¬ Contains nodes node
-- all are, and another is there too
Tells p statements answer nodes (No whys.NodeUnused) =
    ((node : List ℕ) → IsNeeded p statements node → Contains nodes node) × (node : List ℕ) × Contains nodes node × ¬ IsNeeded p statements node
-- the nodes are just those that are needed, and the answer isn't the meaning: they differ first at this byte
Tells p statements answer nodes (No (whys.AnswerDiffers byte)) =
    SameNodes (IsNeeded p statements) (Contains nodes) × (meaning : List ℕ) × Means p.objects statements meaning × IsFirstDifference answer meaning byte
Tells p statements answer nodes (No why) = ⊥

-- a verdict tells so of each publication whose root it is, unless a node that is needed there and a different one of the
-- proof have one digest
abbrev pub TellsOfAll : (root : List ℕ) → Statements → (answer : List ℕ) → List (List ℕ) → Verdict → Type 0
TellsOfAll root statements answer nodes verdict =
    (p : Publication) → IsPublication p → root ≡ root_of p → Tells p statements answer nodes verdict ⊎ Clash (IsNeeded p statements) (Contains nodes)

-- ---- under any root

-- What a report counts: these walks, none of which fetched more nodes than there are. Nothing is fetched more often than
-- once a walk, the manifest by none, and each other node by one at least.
pub record IsReport (nodes : List (List ℕ)) (report : Report) : Type 0 where
  pub walks : List (List (List ℕ))
  pub ranges : report.ranges ≡ counted_up 0 (length walks)
  pub fetched : report.fetched ≡ counted_up 0 (length (fetched_in walks))
  pub each : AllByRecursion (λ (walk : List (List ℕ)). length walk ≤ length nodes) walks
  pub least : length nodes ≤ report.fetched + 1
  pub most : report.fetched ≤ report.ranges * (length nodes - 1)

-- a yes carries such a report
abbrev pub IsReported : List (List ℕ) → Verdict → Type 0
IsReported nodes (Yes report) = IsReport nodes report
IsReported nodes (No why) = ⊤

-- the query reads, and the proof lists these nodes by rising digest
pub record IsWhole (query proof : List ℕ) (statements : Statements) (nodes : List (List ℕ)) : Type 0 where
  pub reads : Reads query statements
  pub lists : Lists proof nodes
  pub rising : AreRising nodes

-- the verdict on a whole query and proof, from its walks
pub record IsWalked (query root answer proof : List ℕ) (verdict : Verdict) : Type 0 where
  pub statements : Statements
  pub nodes : List (List ℕ)
  pub whole : IsWhole query proof statements nodes
  pub reported : IsReported nodes verdict
  pub tells : TellsOfAll root statements answer nodes verdict

-- ---- the verdict on a query, a root, an answer and a proof

-- the verdict that is owed; the query is looked at before the proof, and its form before its order
abbrev pub IsVerdict : (query root answer proof : List ℕ) → Verdict → Type 0
IsVerdict query root answer proof (No (whys.QueryRefused fault)) = HasFault query fault
IsVerdict query root answer proof (No whys.ProofMalformed) = IsReadable query × ¬ IsProof proof
IsVerdict query root answer proof (No whys.ProofNotRising) = IsReadable query × IsProof proof × ¬ IsRisingProof proof
IsVerdict query root answer proof verdict = IsWalked query root answer proof verdict

-- it is a yes
abbrev pub IsYes : Verdict → Type 0
IsYes (Yes report) = ⊤
IsYes (No why) = ⊥

-- two verdicts are the same, but for what a yes counts
abbrev pub AreAlike : Verdict → Verdict → Type 0
AreAlike (Yes report) other = IsYes other
AreAlike (No why) (Yes report) = ⊥
AreAlike (No why) (No other) = why ≡ other

-- ---- the same under the root of one publication

-- the query reads, and the proof lacks a node that it needs
pub record HasMissing (p : Publication) (query proof : List ℕ) : Type 0 where
  pub statements : Statements
  pub reads : Reads query statements
  pub node : List ℕ
  pub needed : IsNeeded p statements node
  pub missing : ¬ StandsIn proof node

-- the query reads, and the proof holds all nodes that it needs and another one
pub record HasUnused (p : Publication) (query proof : List ℕ) : Type 0 where
  pub statements : Statements
  pub reads : Reads query statements
  pub all : (node : List ℕ) → IsNeeded p statements node → StandsIn proof node
  pub node : List ℕ
  pub stands : StandsIn proof node
  pub unneeded : ¬ IsNeeded p statements node

-- the query reads, the proof is its proof, and the answer differs from its meaning, first at this byte
pub record HasOtherAnswer (p : Publication) (query answer proof : List ℕ) (byte : ℕ) : Type 0 where
  pub meaning : List ℕ
  pub proved : IsProved p query meaning proof
  pub place : IsFirstDifference answer meaning byte

-- what each verdict says of a publication whose root it is
abbrev pub TellsOf : Publication → (query answer proof : List ℕ) → Verdict → Type 0
TellsOf p query answer proof (Yes report) = IsProved p query answer proof
TellsOf p query answer proof (No (whys.QueryRefused fault)) = HasFault query fault
TellsOf p query answer proof (No whys.ProofMalformed) = IsReadable query × ¬ IsProof proof
TellsOf p query answer proof (No whys.ProofNotRising) = IsReadable query × IsProof proof × ¬ IsRisingProof proof
TellsOf p query answer proof (No whys.NodeMissing) = IsRisingProof proof × HasMissing p query proof
TellsOf p query answer proof (No whys.NodeMalformed) = ⊥
TellsOf p query answer proof (No whys.NodesDisagree) = ⊥
TellsOf p query answer proof (No whys.EntriesDisagree) = ⊥
TellsOf p query answer proof (No whys.NodeUnused) = IsRisingProof proof × HasUnused p query proof
TellsOf p query answer proof (No (whys.AnswerDiffers byte)) = HasOtherAnswer p query answer proof byte
