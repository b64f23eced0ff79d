-- Calls after which what a source knows is true. Each is joined as its outcome is, and the second call may count on what is known
-- after the first.
use Rattle.std.proofs.Common.{◌≡◌, ℕ, List, ◌⊎◌, Result, Ok, Err}
use Rattle.std.specs.Result.{IsErrAnd}
use Rattle.tree_node.specs.Outcomes.{Cause, Outcome}
use Rattle.tree_node.proofs.shared.OutcomeLaws.{Nodes, never_stops, outcome_as, outcome_same, outcome_then, outcome_then_stops, uses}
use Rattle.ql_eval.proofs.StepLemmas.{then_same}

-- what is true whatever the call gave
pub truly_ends : {A F Known : Type 0} {cause : F → Cause} {Is : A → Type 0} {needed held old new : Nodes} {result : Result A F} → Known
    → Outcome cause Is needed (uses held old new) result → Outcome cause (λ value. Is value × Known) needed (uses held old new) result
truly_ends is_true so = outcome_same (λ x needs. needs) (λ value is x needs. needs) (λ value is. (is, is_true)) so

-- what is known is of no account any more
pub truly_ended : {A F Known : Type 0} {cause : F → Cause} {Is : A → Type 0} {needed held old new : Nodes} {result : Result A F}
    → Outcome cause (λ value. Is value × Known) needed (uses held old new) result → Outcome cause Is needed (uses held old new) result
truly_ended so = outcome_same (λ x needs. needs) (λ value is x needs. needs) (λ value is. is.0) so

-- one call, seen in another way
pub truly_as : {A C F H Known : Type 0} {first_cause : F → Cause} {all_cause : H → Cause} {Is : A → Type 0} {All : C → Type 0} {first all before held old new : Nodes} {value : A} {whole : C}
    → ((x : List ℕ) → first x → all x) → (Is value → (x : List ℕ) → all x → first x) → (Is value → All whole)
    → Outcome first_cause (λ v. Is v × Known) first (uses before old new) (Ok value) → Outcome all_cause (λ v. All v × Known) all (uses held old new) (Ok whole)
truly_as more back shown so = outcome_as more (λ is. back is.0) (λ is. (shown is.0, is.1)) so

-- the same of a result that is passed on
pub truly_same : {A F Known : Type 0} {cause : F → Cause} {Is All : A → Type 0} {first all held old new : Nodes} {result : Result A F}
    → ((x : List ℕ) → first x → all x) → ((value : A) → Is value → (x : List ℕ) → all x → first x) → ((value : A) → Is value → All value)
    → Outcome cause (λ v. Is v × Known) first (uses held old new) result → Outcome cause (λ v. All v × Known) all (uses held old new) result
truly_same more back shown so = outcome_same more (λ value is. back value is.0) (λ value is. (shown value is.0, is.1)) so

-- two calls
pub truly_then : {A B C F G H Known Later : Type 0} {first_cause : F → Cause} {step_cause : G → Cause} {all_cause : H → Cause} {Is : A → Type 0} {Next : B → Type 0} {All : C → Type 0}
    {first second all before held old mid new : Nodes} {value : A} {next : B} {whole : C}
    → ((x : List ℕ) → mid x → new x) → ((x : List ℕ) → first x → all x) → (Is value → (x : List ℕ) → second x → all x)
    → (Is value → Next next → (x : List ℕ) → all x → first x ⊎ second x) → (Is value → Next next → All whole)
    → Outcome first_cause (λ v. Is v × Known) first (uses before old mid) (Ok value)
    → (Is value → Known → Outcome step_cause (λ v. Next v × Later) second (uses held mid new) (Ok next))
    → Outcome all_cause (λ v. All v × Later) all (uses held old new) (Ok whole)
truly_then grows more more_too splits shown so step =
    outcome_then grows more (λ is. more_too is.0) (λ is next. splits is.0 next.0) (λ is next. (shown is.0 next.0, next.1)) so (λ is. step is.0 is.1)

-- two calls, and the result of the second is passed on
pub truly_then_same : {A B F G Known Later : Type 0} {first_cause : F → Cause} {cause : G → Cause} {Is : A → Type 0} {Next All : B → Type 0} {first second all before held old mid new : Nodes} {value : A} {result : Result B G}
    → ((x : List ℕ) → mid x → new x) → ((x : List ℕ) → first x → all x) → (Is value → (x : List ℕ) → second x → all x)
    → (Is value → (b : B) → Next b → (x : List ℕ) → all x → first x ⊎ second x) → (Is value → (b : B) → Next b → All b)
    → Outcome first_cause (λ v. Is v × Known) first (uses before old mid) (Ok value)
    → (Is value → Known → Outcome cause (λ v. Next v × Later) second (uses held mid new) result)
    → Outcome cause (λ v. All v × Later) all (uses held old new) result
truly_then_same grows more more_too splits shown so step =
    then_same grows more (λ is. more_too is.0) (λ is b next. splits is.0 b next.0) (λ is b next. (shown is.0 b next.0, next.1)) so (λ is. step is.0 is.1)

-- a call that was refused after another one went well
pub truly_then_stops : {A B C F G H Known : Type 0} {first_cause : F → Cause} {step_cause : G → Cause} {all_cause : H → Cause} {Is : A → Type 0} {Next : B → Type 0} {All : C → Type 0}
    {first second all before held old mid new : Nodes} {value : A} {fault : G} {result : Result C H} (other : H)
    → IsErrAnd result (λ o. o ≡ other) → all_cause other ≡ step_cause fault → ((x : List ℕ) → mid x → new x) → ((x : List ℕ) → first x → all x) → (Is value → (x : List ℕ) → second x → all x)
    → Outcome first_cause (λ v. Is v × Known) first (uses before old mid) (Ok value) → (Is value → Known → Outcome step_cause Next second (uses held mid new) (Err fault))
    → Outcome all_cause All all (uses held old new) result
truly_then_stops other is same grows more more_too so step = outcome_then_stops other is same grows more (λ so. more_too so.0) so (λ so. step so.0 so.1)

-- a refusal that can't come
pub truly_never_stops : {A C F H Known : Type 0} {first_cause : F → Cause} {all_cause : H → Cause} {Is : A → Type 0} {All : C → Type 0} {first all before held old new : Nodes} {value : A} {result : Result C H}
    → ((x : List ℕ) → first x → all x) → (Is value → ⊥) → Outcome first_cause (λ v. Is v × Known) first (uses before old new) (Ok value) → Outcome all_cause All all (uses held old new) result
truly_never_stops more never so = never_stops more (λ is. never is.0) so
