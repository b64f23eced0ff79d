-- Steps of an evaluation: walks, and what is read from what they found.
use Rattle.std.proofs.Common.{◌≡◌, ℕ, List, ◌⊎◌, inl, inr, Result, Ok, Err, MatchResult, refl, sym, ap, subst}
use Rattle.std.specs.Prelude.{IfErr}
use Rattle.std.specs.Result.{IsErrAnd}
use Rattle.tree_node.specs.Outcomes.{Cause, NoMemory, Outcome, RefusedFor}
use Rattle.tree_node.proofs.shared.OutcomeLaws.{Nodes, clash_more, outcome_as, outcome_then, outcome_then_stops, uses}
use Rattle.tree_walk.specs.Fetches.{cause_of}
use Rattle.tree_walk.specs.declared.fault.WalkFault.{WalkFault}
use Rattle.tree_walk.specs.declared.fault.WalkFault.TheVariants as walks
use Rattle.ql_eval.specs.Faults.{cause_of_evaluation, fault_of_walk}
use Rattle.ql_eval.specs.declared.fault.EvalFault.{EvalFault}
use Rattle.ql_eval.specs.declared.fault.EvalFault.TheVariants as faults

-- a refused walk refuses the evaluation for the same cause
pub walk_cause : (fault : WalkFault) → cause_of_evaluation (fault_of_walk fault) ≡ cause_of fault
walk_cause walks.Missing = refl
walk_cause (walks.Malformed fault) = refl
walk_cause walks.WrongTreeOrLevel = refl
walk_cause walks.Disagrees = refl
walk_cause walks.Memory = refl

-- what a call gave is read, which is refused for memory alone where it gave what it should
pub then_read : {A B F G : Type 0} {first_cause : F → Cause} {all_cause : G → Cause} {Is : A → Type 0} {All : B → Type 0} {first all before held old new : Nodes} {value : A} (result : Result B G)
    → ((x : List ℕ) → first x → all x) → ((x : List ℕ) → all x → first x) → (Is value → MatchResult result All (λ fault. all_cause fault ≡ NoMemory))
    → Outcome first_cause Is first (uses before old new) (Ok value) → Outcome all_cause All all (uses held old new) result
then_read (Ok found) more back read so = outcome_as more (λ is. back) read so
then_read {all_cause = all_cause} {first = first} {all = all} {held = held} {new = new} (Err fault) more back read so = record {
  ends = elim so.ends [
    | inl clash ↦ inl (clash_more first all new new more (λ x u. u) clash)
    | inr one ↦ inr (subst (λ (c : Cause). RefusedFor all held c) (sym (read one.0)) tt)
  ];
}

-- out of memory says nothing of the shelf
pub memory_cause : {A : Type 0} (Is : A → Type 0) (result : Result A EvalFault) → MatchResult result Is (λ fault. fault ≡ faults.Memory) → MatchResult result Is (λ fault. cause_of_evaluation fault ≡ NoMemory)
memory_cause Is (Ok value) is = is
memory_cause Is (Err fault) is = ap cause_of_evaluation is

-- a refusal that is passed on
pub refused_as : {A : Type 0} (Says : EvalFault → Type 0) (result : Result A EvalFault) (fault : EvalFault) → IsErrAnd result (λ f. f ≡ fault) → Says fault → IfErr result Says
refused_as Says (Ok value) fault is says = tt
refused_as Says (Err f) fault is says = subst Says (sym is) says

-- a call after another one, whose result is passed on
pub then_same : {A B F G : Type 0} {first_cause : F → Cause} {cause : G → Cause} {Is : A → Type 0} {Next All : B → Type 0} {first second all before held old mid new : Nodes} {value : A} {result : Result B G}
    → ((x : List ℕ) → mid x → new x) → ((x : List ℕ) → first x → all x) → (Is value → (x : List ℕ) → second x → all x)
    → (Is value → (b : B) → Next b → (x : List ℕ) → all x → first x ⊎ second x) → (Is value → (b : B) → Next b → All b)
    → Outcome first_cause Is first (uses before old mid) (Ok value) → (Is value → Outcome cause Next second (uses held mid new) result)
    → Outcome cause All all (uses held old new) result
then_same {result = Ok b} grows more more_too splits shown so step = outcome_then grows more more_too (λ is. splits is b) (λ is. shown is b) so step
then_same {result = Err fault} grows more more_too splits shown so step = outcome_then_stops fault refl refl grows more more_too so step
