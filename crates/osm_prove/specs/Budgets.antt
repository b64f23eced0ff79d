-- What a budget makes of answers and proofs.
-- Source: this project.
use Rattle.std.specs.Prelude.{ℕ, List, Option, Result, Ok, Err, ⊤}
use Rattle.osm_keys.specs.Publications.{Publication}
use Rattle.ql_syntax.specs.Queries.{Reads}
use Rattle.ql_syntax.specs.Statements.{Statements}
use Rattle.ql_meaning.specs.Meanings.{Telling}
use Rattle.ql_eval.specs.Work.{Passes, WorkOfQuery}
use Rattle.osm_prove.specs.declared.prove_fault.ProveFault.{ProveFault}
use Rattle.osm_prove.specs.declared.prove_fault.ProveFault.TheVariants.{Memory, Query, Work}

-- the query reads, and this is its work over the publication, where objects are told so
pub record IsWorkOf (tell : Telling) (p : Publication) (query : List ℕ) (n : ℕ) : Type 0 where
  pub statements : Statements
  pub reads : Reads query statements
  pub work : WorkOfQuery tell p statements n

-- a work is one of these, and within the budget
abbrev pub IsWithinBudget : (ℕ → Type 0) → Option ℕ → Type 0
IsWithinBudget IsWork most = (n : ℕ) × IsWork n × (¬ Passes most n)

-- each work of these is more than the budget has
abbrev pub IsTooMuch : (ℕ → Type 0) → Option ℕ → Type 0
IsTooMuch IsWork most = (n : ℕ) → IsWork n → Passes most n

-- something is given only where the work is within the budget, and refused for the budget only where it is too much
abbrev pub KeepsBudget : {A : Type 0} → (ℕ → Type 0) → Option ℕ → Result A ProveFault → Type 0
KeepsBudget IsWork most (Ok given) = IsWithinBudget IsWork most
KeepsBudget IsWork most (Err Work) = IsTooMuch IsWork most
KeepsBudget IsWork most (Err (Query fault)) = ⊤
KeepsBudget IsWork most (Err Memory) = ⊤
