-- What is told where there is no answer.
use Rattle.std.proofs.Common.{◌≡◌, ◌⊎◌, inl, inr, ℕ, List, Option, Result, Ok, Err, refl, ap, subst, ◌∙◌}
use Rattle.osm_keys.specs.Publications.{Publication}
use Rattle.ql_syntax.specs.Queries.{Reads, memory_fault}
use Rattle.ql_syntax.specs.Statements.{Statements}
use Rattle.ql_syntax.specs.declared.cause.QlCause.{QlCause}
use Rattle.ql_syntax.specs.declared.cause.QlCause.TheVariants as causes
use Rattle.ql_syntax.specs.declared.fault.QlFault.{QlFault}
use Rattle.osm_gate.specs.Mirrors.{KeepsBudget}
use Rattle.osm_gate.specs.declared.mirror_fault.MirrorFault.{MirrorFault}
use Rattle.osm_gate.specs.declared.mirror_fault.MirrorFault.TheVariants.{Memory, Query, Work}
use Rattle.osm_prove.specs.Budgets.{IsWithinBudget, IsWorkOf}
use Rattle.osm_prove.proofs.shared.QueryWorks.{of_query, query_too_much}
use Rattle.ql_eval.specs.Work.{WorkOfQuery}
use Rattle.ql_meaning.specs.Meanings.{Telling}
use Rattle.outside_proof.specs.Budgets as outside
use Rattle.outside_proof.specs.declared.fault.OutsideFault.{OutsideFault}
use Rattle.outside_proof.specs.declared.fault.OutsideFault.TheVariants as answers
use Rattle.pack_mirror.specs.Faults.{fault_of_answer, fault_of_cause, fault_of_query}

by_cause : (fault : QlFault) (cause : QlCause) → (fault_of_cause fault cause ≡ Query fault) ⊎ (fault_of_cause fault cause ≡ Memory)
by_cause fault causes.Memory = inr refl
by_cause fault _ = inl refl

-- what is told of a query with a fault
pub fault_told : (told fault : QlFault) → (told ≡ memory_fault) ⊎ (told ≡ fault) → (fault_of_query told ≡ Query fault) ⊎ (fault_of_query told ≡ Memory)
fault_told told fault (inl memory) = inr (ap fault_of_query memory)
fault_told told fault (inr same) = subst (λ (f : QlFault). (fault_of_query told ≡ Query f) ⊎ (fault_of_query told ≡ Memory)) same (by_cause told told.cause)

-- a refusal that is passed on is of the same query
pub passed_on : {A B : Type 0} (result : Result B MirrorFault) (told of : MirrorFault) (fault : QlFault) → result ≡ Err told → told ≡ of
    → (◌≡◌ {A = Result A MirrorFault} (Err of) (Err (Query fault))) ⊎ (◌≡◌ {A = Result A MirrorFault} (Err of) (Err Memory))
    → (result ≡ Err (Query fault)) ⊎ (result ≡ Err Memory)
passed_on result told of fault is same (inl query) = let of_query : of ≡ Query fault = cc in inl (is ∙ ap (λ (f : MirrorFault). Err f) (same ∙ of_query))
passed_on result told of fault is same (inr memory) = let for_memory : of ≡ Memory = cc in inr (is ∙ ap (λ (f : MirrorFault). Err f) (same ∙ for_memory))

-- a query of which nothing is told has no fault
pub no_fault : {A : Type 0} (a : A) (fault : QlFault) → (◌≡◌ {A = Result A MirrorFault} (Ok a) (Err (Query fault))) ⊎ (◌≡◌ {A = Result A MirrorFault} (Ok a) (Err Memory)) → ⊥
no_fault a fault (inl query) = cc
no_fault a fault (inr memory) = cc

-- what is told for an answer that nodes don't give isn't of the query
pub no_query : (told : OutsideFault) (fault : QlFault) → fault_of_answer told ≡ Query fault → ⊥
no_query answers.Work fault is = cc
no_query answers.Memory fault is = cc
no_query (answers.Source reason) fault is = cc
no_query (answers.Evaluation of) fault is = cc
no_query answers.TooLong fault is = cc

-- too much work is told of it alone
pub work_told : (told : OutsideFault) → fault_of_answer told ≡ Work → told ≡ answers.Work
work_told answers.Work is = refl
work_told answers.Memory is = cc
work_told (answers.Source reason) is = cc
work_told (answers.Evaluation of) is = cc
work_told answers.TooLong is = cc

module _ (tell : Telling) (p : Publication) (query : List ℕ) (statements : Statements) (reads : Reads query statements) where
  -- an answer keeps the query's budget where it keeps that of the statements
  pub query_within : (most : Option ℕ) → IsWithinBudget (WorkOfQuery tell p statements) most → IsWithinBudget (IsWorkOf tell p query) most
  query_within most kept = (kept.0, of_query tell p query statements reads kept.0 kept.1, kept.2)

  -- and so does what is told for an answer that nodes don't give
  pub budget_told : (A B : Type 0) (most : Option ℕ) (told : OutsideFault) → outside.KeepsBudget {A = A} (WorkOfQuery tell p statements) most (Err told)
      → KeepsBudget {A = B} (IsWorkOf tell p query) most (Err (fault_of_answer told))
  budget_told A B most answers.Work kept = query_too_much tell p query statements reads most kept
  budget_told A B most answers.Memory kept = tt
  budget_told A B most (answers.Source reason) kept = tt
  budget_told A B most (answers.Evaluation fault) kept = tt
  budget_told A B most answers.TooLong kept = tt
