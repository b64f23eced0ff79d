-- What becomes of a budget on the way from an evaluation to an answer.
use Rattle.std.proofs.Common.{◌≡◌, ◌-◌, ◌^◌, min, ℕ, Option}
use Rattle.ql_eval.specs.Work.{Passes}
use Rattle.osm_prove.specs.Budgets.{IsWithinBudget}

-- an evaluation that ended well kept it
pub within : (IsWork : ℕ → Type 0) (most : Option ℕ) (work : ℕ) → ((n : ℕ) × IsWork n × (¬ Passes most n) × (work ≡ min n (2 ^ 64 - 1))) → IsWithinBudget IsWork most
within IsWork most work kept = (kept.0, kept.1, kept.2)
