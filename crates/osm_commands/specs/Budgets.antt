-- What a budget makes of the command `check`.
-- Source: this project.
use Rattle.std.specs.Prelude.{◌≡◌, ℕ, Option, Result, Ok, Err, ⊤}
use Rattle.osm_prove.specs.Budgets.{IsTooMuch}
use Rattle.osm_check.specs.Budgets.{ReportsWork}
use Rattle.osm_check.specs.declared.verdict.Verdict.{Verdict}
use Rattle.osm_check.specs.declared.verdict.Verdict.TheVariants as verdicts
use Rattle.osm_commands.specs.declared.command_fault.CommandFault.{CommandFault}
use Rattle.osm_commands.specs.declared.command_fault.CommandFault.TheVariants.{Work}

-- a yes is said only where the work is within the budget, and a fault is the budget's only where it is too much
abbrev pub KeepsBudget : (ℕ → Type 0) → Option ℕ → Result Verdict CommandFault → Type 0
KeepsBudget IsWork most (Ok (verdicts.Yes report)) = ReportsWork IsWork most report
KeepsBudget IsWork most (Ok (verdicts.No why)) = ⊤
KeepsBudget IsWork most (Err fault) = fault ≡ Work → IsTooMuch IsWork most
