-- What the outcome of an evaluation says, where no node of the publication and a used one clash.
use Rattle.std.proofs.Common.{ℕ, List, inl, inr, Result}
use Rattle.tree_node.specs.Outcomes.{Cause, EndsBy, Outcome, ShelfUse}
use Rattle.osm_keys.specs.Publications.{Publication}
use Rattle.ql_syntax.specs.Statements.{Statements}
use Rattle.ql_eval.specs.Asks.{IsNeeded}
use Rattle.ql_eval.specs.Work.{HasNoClash, IsNodeOf}

-- a node that a query needs may be asked for
askable : (p : Publication) (statements : Statements) (x : List ℕ) → IsNeeded p statements x → IsNodeOf p x
askable p statements x (inl manifest) = inl manifest
askable p statements x (inr needed) = inr (record { ask = needed.ask; asked = tt; needs = needed.needs })

-- no clash is left to speak of
pub ends_by : (p : Publication) (statements : Statements) {A F : Type 0} (cause : F → Cause) (Is : A → Type 0) (shelf : ShelfUse) (result : Result A F) → HasNoClash p shelf.after
    → Outcome cause Is (IsNeeded p statements) shelf result → EndsBy cause Is (IsNeeded p statements) shelf result
ends_by p statements cause Is shelf result none so = elim so.ends [
  | inl clash ↦ absurd (none (clash.0, clash.1, askable p statements clash.0 clash.2, clash.3, clash.4, clash.5))
  | inr ends ↦ ends
]
