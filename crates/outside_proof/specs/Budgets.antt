-- What a budget makes of answers and proofs.
-- Source: this project.
use Rattle.std.specs.Prelude.{ℕ, Option, Result, Ok, Err, ⊤}
use Rattle.osm_prove.specs.Budgets.{IsTooMuch, IsWithinBudget}
use Rattle.outside_proof.specs.declared.fault.OutsideFault.{OutsideFault}
use Rattle.outside_proof.specs.declared.fault.OutsideFault.TheVariants.{Evaluation, Memory, Source, TooLong, Work}

-- something is given only where the work is within the budget, and refused for the budget only where it is too much
abbrev pub KeepsBudget : {A : Type 0} → (ℕ → Type 0) → Option ℕ → Result A OutsideFault → Type 0
KeepsBudget IsWork most (Ok given) = IsWithinBudget IsWork most
KeepsBudget IsWork most (Err Work) = IsTooMuch IsWork most
KeepsBudget IsWork most (Err Memory) = ⊤
KeepsBudget IsWork most (Err (Source reason)) = ⊤
KeepsBudget IsWork most (Err (Evaluation fault)) = ⊤
KeepsBudget IsWork most (Err TooLong) = ⊤
