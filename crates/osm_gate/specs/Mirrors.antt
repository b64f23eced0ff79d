-- What a mirror says to a query, whether it gives an answer or refuses it.
-- Source: this project.
use Rattle.std.specs.Prelude.{ℕ, Option, Result, Ok, Err, ⊤}
use Rattle.osm_prove.specs.Budgets.{IsTooMuch, IsWithinBudget}
use Rattle.osm_prove.specs.declared.prove_fault.ProveFault.{ProveFault}
use Rattle.osm_prove.specs.declared.prove_fault.ProveFault.TheVariants as refusals
use Rattle.osm_gate.specs.declared.mirror_fault.MirrorFault.{MirrorFault}
use Rattle.osm_gate.specs.declared.mirror_fault.MirrorFault.TheVariants.{Device, Memory, Query, Work}

-- a snapshot has no device
abbrev pub fault_of : ProveFault → MirrorFault
fault_of (refusals.Query fault) = Query fault
fault_of refusals.Work = Work
fault_of refusals.Memory = Memory

-- a query is answered only where its work is within the budget, and refused for the budget only where it is too much
abbrev pub KeepsBudget : {A : Type 0} → (ℕ → Type 0) → Option ℕ → Result A MirrorFault → Type 0
KeepsBudget IsWork most (Ok given) = IsWithinBudget IsWork most
KeepsBudget IsWork most (Err (Query fault)) = ⊤
KeepsBudget IsWork most (Err Work) = IsTooMuch IsWork most
KeepsBudget IsWork most (Err Memory) = ⊤
KeepsBudget IsWork most (Err Device) = ⊤
