-- What becomes of a budget on the way from an evaluation to an answer.
use Rattle.std.proofs.Common.{◌≡◌, ◌⊎◌, inl, inr, ◌↔◌, ◌-◌, ◌^◌, min, ℕ, List, Option, Err, sym, subst}
use Rattle.osm_keys.specs.Publications.{Publication}
use Rattle.ql_syntax.specs.Queries.{Reads}
use Rattle.ql_syntax.specs.Statements.{Statements}
use Rattle.ql_meaning.specs.Meanings.{Telling}
use Rattle.ql_eval.specs.Work as evaluations
use Rattle.ql_eval.specs.Work.{Passes, WorkOfQuery}
use Rattle.ql_eval.specs.declared.fault.EvalFault.{EvalFault}
use Rattle.ql_eval.specs.declared.fault.EvalFault.TheVariants as faults
use Rattle.osm_prove.specs.Budgets.{IsWithinBudget, IsWorkOf, KeepsBudget}
use Rattle.osm_prove.specs.declared.prove_fault.ProveFault.{ProveFault}
use Rattle.osm_prove.specs.declared.prove_fault.ProveFault.TheVariants.{Memory, Query, Work}
use Rattle.osm_prove.proofs.shared.QueryWorks.{query_too_much}

-- an evaluation that ended well kept it
pub within : (IsWork : ℕ → Type 0) (most : Option ℕ) (work : ℕ) → ((n : ℕ) × IsWork n × (¬ Passes most n) × (work ≡ min n (2 ^ 64 - 1))) → IsWithinBudget IsWork most
within IsWork most work kept = (kept.0, kept.1, kept.2)

-- so did one that was refused
pub refused_within : (A : Type 0) (IsWork : ℕ → Type 0) (most : Option ℕ) (fault : EvalFault) (told : ProveFault) → (told ≡ Work) ↔ (fault ≡ faults.Work)
    → (told ≡ Memory) ⊎ (told ≡ Work) → evaluations.KeepsBudget IsWork most (Err fault) → KeepsBudget {A = A} IsWork most (Err told)
refused_within A IsWork most fault told same (inl memory) kept = subst (λ (f : ProveFault). KeepsBudget {A = A} IsWork most (Err f)) (sym memory) tt
refused_within A IsWork most fault told same (inr work) kept =
    subst (λ (f : ProveFault). KeepsBudget {A = A} IsWork most (Err f)) (sym work) (subst (λ (f : EvalFault). evaluations.KeepsBudget IsWork most (Err f)) (same.0 work) kept)

module _ (tell : Telling) (p : Publication) (query : List ℕ) (statements : Statements) (reads : Reads query statements) where
  -- so a refusal keeps the query's budget where it keeps that of the statements
  pub query_refused : (A B : Type 0) (most : Option ℕ) (told : ProveFault) → KeepsBudget {A = A} (WorkOfQuery tell p statements) most (Err told) → KeepsBudget {A = B} (IsWorkOf tell p query) most (Err told)
  query_refused A B most (Query fault) kept = tt
  query_refused A B most Memory kept = tt
  query_refused A B most Work kept = query_too_much tell p query statements reads most kept
