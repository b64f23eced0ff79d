-- What becomes of a budget on the way from an evaluation to a verdict, or to what is told.
use Rattle.std.proofs.Common.{◌≡◌, ◌↔◌, refl, ℕ, List, Option, Result, Ok, Err, subst}
use Rattle.std.specs.List.{Contains}
use Rattle.tree_node.specs.Outcomes.{Clash}
use Rattle.tree_node.specs.Shelves.{SameNodes}
use Rattle.tree_node.proofs.shared.OutcomeLaws.{Nodes}
use Rattle.osm_keys.specs.Publications.{IsNodeIn, Publication}
use Rattle.ql_syntax.specs.Queries.{Reads}
use Rattle.ql_syntax.specs.Statements.{Statements}
use Rattle.ql_meaning.specs.Meanings.{Telling}
use Rattle.ql_eval.specs.Work as evaluations
use Rattle.ql_eval.specs.Work.{HasNoClash, WorkOfQuery}
use Rattle.ql_eval.specs.declared.evaluation.Report.{Report}
use Rattle.ql_eval.specs.declared.fault.EvalFault.{EvalFault}
use Rattle.ql_eval.specs.declared.fault.EvalFault.TheVariants as faults
use Rattle.osm_prove.specs.Budgets.{IsWorkOf}
use Rattle.osm_prove.specs.Proofs.{Lists}
use Rattle.osm_prove.proofs.shared.NeededNodes.{askable_in}
use Rattle.osm_prove.proofs.shared.QueryWorks.{of_query, query_too_much}
use Rattle.osm_check.specs.Budgets.{IsFaultWithin, KeepsBudget, ReportsWork, TellsWithin}
use Rattle.osm_check.specs.Verdicts.{StandsIn}
use Rattle.osm_check.specs.declared.check_fault.CheckFault.{CheckFault}
use Rattle.osm_check.specs.declared.check_fault.CheckFault.TheVariants.{Memory, Work}
use Rattle.osm_check.specs.declared.told.Told.{Told}
use Rattle.osm_check.specs.declared.told.Told.TheVariants as tellings
use Rattle.osm_check.specs.declared.verdict.Verdict.{Verdict}
use Rattle.osm_check.specs.declared.verdict.Verdict.TheVariants as verdicts

-- where no node of a proof clashes with one of the publication, no used one does
pub no_used_clash : (p : Publication) (nodes : List (List ℕ)) (held used : Nodes) → SameNodes held (Contains nodes) → ((x : List ℕ) → used x → held x)
    → ¬ Clash (IsNodeIn p) (Contains nodes) → HasNoClash p used
no_used_clash p nodes held used listed used_held clear (a, b, is, is_used, differ, same) = clear (a, b, askable_in p a is, (listed b).1 (used_held b is_used), differ, same)

-- and where none that stands in a proof does, none of the nodes does that it lists
pub no_listed_clash : (p : Publication) (proof : List ℕ) (nodes : List (List ℕ)) → Lists proof nodes → ¬ Clash (IsNodeIn p) (StandsIn proof) → ¬ Clash (IsNodeIn p) (Contains nodes)
no_listed_clash p proof nodes lists clear (a, b, is, stands, differ, same) = clear (a, b, is, (nodes, lists, stands), differ, same)

-- a refused evaluation
pub fault_within : (IsWork : ℕ → Type 0) (most : Option ℕ) (fault : EvalFault) (told : CheckFault) → (told ≡ Work) ↔ (fault ≡ faults.Work)
    → evaluations.KeepsBudget IsWork most (Err fault) → IsFaultWithin IsWork most told
fault_within IsWork most fault Memory same kept = tt
fault_within IsWork most fault Work same kept = subst (λ (f : EvalFault). evaluations.KeepsBudget IsWork most (Err f)) (same.0 refl) kept

module _ (tell : Telling) (p : Publication) (query : List ℕ) (statements : Statements) (reads : Reads query statements) where
  -- what is so of the work of the statements is so of that of the query
  report_of_query : (most : Option ℕ) (report : Report) → ReportsWork (WorkOfQuery tell p statements) most report → ReportsWork (IsWorkOf tell p query) most report
  report_of_query most report (n, work, fits, told) = (n, of_query tell p query statements reads n work, fits, told)

  fault_of_query : (most : Option ℕ) (fault : CheckFault) → IsFaultWithin (WorkOfQuery tell p statements) most fault → IsFaultWithin (IsWorkOf tell p query) most fault
  fault_of_query most Memory kept = tt
  fault_of_query most Work kept = query_too_much tell p query statements reads most kept

  pub verdict_of_query : (most : Option ℕ) (result : Result Verdict CheckFault) → KeepsBudget (WorkOfQuery tell p statements) most result → KeepsBudget (IsWorkOf tell p query) most result
  verdict_of_query most (Ok (verdicts.Yes report)) kept = report_of_query most report kept
  verdict_of_query most (Ok (verdicts.No why)) kept = tt
  verdict_of_query most (Err fault) kept = fault_of_query most fault kept

  pub telling_of_query : (most : Option ℕ) (result : Result Told CheckFault) → TellsWithin (WorkOfQuery tell p statements) most result → TellsWithin (IsWorkOf tell p query) most result
  telling_of_query most (Ok (tellings.Answer text report)) kept = report_of_query most report kept
  telling_of_query most (Ok (tellings.No why)) kept = tt
  telling_of_query most (Err fault) kept = fault_of_query most fault kept
