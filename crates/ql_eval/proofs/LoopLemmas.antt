-- Loops that ask something for each of several things, and add what they find to a list.
use Rattle.std.proofs.Common.{◌≡◌, ℕ, ◌+◌, ◌<◌, ◌≤◌, List, Result, Ok, Err, length, take, get_or, refl}
use Rattle.std.specs.Result.{IsErrAnd}
use Rattle.tree_node.specs.Outcomes.{Outcome, ShelfUse}
use Rattle.tree_node.specs.Shelves.{SameNodes}
use Rattle.tree_node.proofs.shared.OutcomeLaws.{Nodes, outcome_starts_same, uses}
use Rattle.osm_keys.specs.Publications.{Publication}
use Rattle.ref_sets.proofs.shared.Adding.{adds_all, adds_more, adds_start}
use Rattle.ref_sets.specs.Adding.{Adds, From}
use Rattle.ql_eval.specs.Faults.{cause_of_evaluation}
use Rattle.ql_eval.specs.Questions.{Ask, NeededBy}
use Rattle.ql_eval.specs.declared.fault.EvalFault.{EvalFault}
use Rattle.ql_eval.proofs.EachLemmas.{all_front, front_all, front_needs, needs_split, next_all, next_needs, none_needed}
use Rattle.ql_eval.proofs.TruthLemmas.{truly_as, truly_then, truly_then_stops}

module _ {A B : Type 0} (p : Publication) (xs : List B) (Gives : B → A → Type 0) (Asks : B → Ask → Type 0) where
  -- so many things are asked for, this list became that one, and this is true of what is known
  abbrev pub HasGone : Type 0 → ℕ → List A → List A → ShelfUse → Type 0
  HasGone Known k earlier later shelf =
      Outcome cause_of_evaluation (λ (_ : Unit {0}). Adds earlier later (From (take k xs) Gives) × Known) (NeededBy p (From (take k xs) Asks)) shelf (Ok tt)

  -- one of them was asked for
  abbrev pub HasStepped : {V : Type 0} → Type 0 → B → List A → List A → ShelfUse → Result V EvalFault → Type 0
  HasStepped Known b earlier later shelf result = Outcome cause_of_evaluation (λ _. Adds earlier later (Gives b) × Known) (NeededBy p (Asks b)) shelf result

  pub gone_same : {Known : Type 0} {held used later : Nodes} {list : List A} → SameNodes used later → Known → HasGone Known 0 list list (uses held used later)
  gone_same same known = outcome_starts_same (adds_start xs Gives, known) (none_needed Asks p xs) same

  pub gone_none : {Known : Type 0} {held used : Nodes} {list : List A} → Known → HasGone Known 0 list list (uses held used used)
  gone_none known = gone_same (λ x. ((λ is. is), (λ is. is))) known

  module _ (k : ℕ) (b : B) (lt : k < length xs) (is_next : b ≡ get_or xs k b) where
    pub gone_next : {V Known Later : Type 0} {before held old mid new : Nodes} {first then last : List A} {value : V} → ((x : List ℕ) → mid x → new x)
        → HasGone Known k first then (uses before old mid) → (Known → HasStepped Later b then last (uses held mid new) (Ok value)) → HasGone Later (k + 1) first last (uses held old new)
    gone_next grows so step =
        truly_then grows (front_needs Asks p xs k b lt is_next) (λ is. next_needs Asks p xs k b lt is_next) (λ is next. needs_split Asks p xs k b lt is_next)
        (λ is next. adds_more xs Gives k b lt is_next is next) so (λ is. step)

    pub gone_stops : {C V Known Later : Type 0} {All : C → Type 0} {all before held old mid new : Nodes} {first then last : List A} {result : Result C EvalFault} (fault : EvalFault) → IsErrAnd result (λ f. f ≡ fault)
        → ((x : List ℕ) → NeededBy p (From xs Asks) x → all x) → ((x : List ℕ) → mid x → new x)
        → HasGone Known k first then (uses before old mid) → (Known → HasStepped {V = V} Later b then last (uses held mid new) (Err fault))
        → Outcome cause_of_evaluation All all (uses held old new) result
    gone_stops fault is more grows so step =
        truly_then_stops fault is refl grows (λ x needs. more x (front_all Asks p xs k x needs)) (λ has x needs. more x (next_all Asks p xs k b lt is_next x needs)) so (λ has. step)

  -- all of them were
  pub gone_all : {C Known : Type 0} {All : C → Type 0} {all before held old new : Nodes} {first last : List A} {value : C} (k : ℕ) → length xs ≤ k
      → ((x : List ℕ) → NeededBy p (From xs Asks) x → all x) → ((x : List ℕ) → all x → NeededBy p (From xs Asks) x) → (Adds first last (From xs Gives) → All value)
      → HasGone Known k first last (uses before old new) → Outcome cause_of_evaluation (λ v. All v × Known) all (uses held old new) (Ok value)
  gone_all k past more back shown so =
      truly_as (λ x needs. more x (front_all Asks p xs k x needs)) (λ is x needs. all_front Asks p xs k past x (back x needs)) (λ is. shown (adds_all xs Gives k past is)) so
