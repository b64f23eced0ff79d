-- The answer to a query over a publication, and the one proof of it.
-- Source: this project's proofs, docs/FORMATS.md.
use Rattle.std.specs.List.{Contains}
use Rattle.std.specs.Prelude.{ℕ, List}
use Rattle.tree_node.specs.Shelves.{SameNodes}
use Rattle.osm_keys.specs.Publications.{Publication}
use Rattle.ql_syntax.specs.Queries.{Reads}
use Rattle.ql_syntax.specs.Statements.{Statements}
use Rattle.ql_meaning.specs.Meanings.{Means}
use Rattle.ql_eval.specs.Asks.{IsNeeded}
use Rattle.osm_prove.specs.Proofs.{AreRising, Lists}

-- the query reads, and the answer is its meaning over the publication's objects
pub record IsAnswer (p : Publication) (query answer : List ℕ) : Type 0 where
  pub statements : Statements
  pub reads : Reads query statements
  pub means : Means p.objects statements answer

-- the proof lists just the nodes that the query needs, by rising digest
pub record IsProofOf (p : Publication) (statements : Statements) (proof : List ℕ) : Type 0 where
  pub nodes : List (List ℕ)
  pub lists : Lists proof nodes
  pub rising : AreRising nodes
  pub needed : SameNodes (IsNeeded p statements) (Contains nodes)

-- the query reads, the answer is its meaning over the publication's objects, and the proof is the proof of it
pub record IsProved (p : Publication) (query answer proof : List ℕ) : Type 0 where
  pub statements : Statements
  pub reads : Reads query statements
  pub means : Means p.objects statements answer
  pub proof_is : IsProofOf p statements proof
