-- What a budget makes of verdicts, and of what is told.
-- Source: this project.
use Rattle.std.specs.Prelude.{◌≡◌, ◌^◌, ◌-◌, ℕ, Option, Result, Ok, Err, min, ⊤}
use Rattle.ql_eval.specs.Work.{Passes}
use Rattle.ql_eval.specs.declared.evaluation.Report.{Report}
use Rattle.osm_prove.specs.Budgets.{IsTooMuch}
use Rattle.osm_check.specs.declared.check_fault.CheckFault.{CheckFault}
use Rattle.osm_check.specs.declared.check_fault.CheckFault.TheVariants.{Memory, Work}
use Rattle.osm_check.specs.declared.told.Told.{Told}
use Rattle.osm_check.specs.declared.told.Told.TheVariants as tellings
use Rattle.osm_check.specs.declared.verdict.Verdict.{Verdict}
use Rattle.osm_check.specs.declared.verdict.Verdict.TheVariants as verdicts

-- the work that was done is within the budget, and reported, at most the greatest u64
abbrev pub ReportsWork : (ℕ → Type 0) → Option ℕ → Report → Type 0
ReportsWork IsWork most report = (n : ℕ) × IsWork n × (¬ Passes most n) × (report.work ≡ min n (2 ^ 64 - 1))

-- a fault is the budget's only where the work is too much
abbrev pub IsFaultWithin : (ℕ → Type 0) → Option ℕ → CheckFault → Type 0
IsFaultWithin IsWork most Memory = ⊤
IsFaultWithin IsWork most Work = IsTooMuch IsWork most

-- a yes is said only where the work is within the budget, and there is no verdict for the budget only where it is too much
abbrev pub KeepsBudget : (ℕ → Type 0) → Option ℕ → Result Verdict CheckFault → Type 0
KeepsBudget IsWork most (Ok (verdicts.Yes report)) = ReportsWork IsWork most report
KeepsBudget IsWork most (Ok (verdicts.No why)) = ⊤
KeepsBudget IsWork most (Err fault) = IsFaultWithin IsWork most fault

-- the same of an answer that is told
abbrev pub TellsWithin : (ℕ → Type 0) → Option ℕ → Result Told CheckFault → Type 0
TellsWithin IsWork most (Ok (tellings.Answer text report)) = ReportsWork IsWork most report
TellsWithin IsWork most (Ok (tellings.No why)) = ⊤
TellsWithin IsWork most (Err fault) = IsFaultWithin IsWork most fault
