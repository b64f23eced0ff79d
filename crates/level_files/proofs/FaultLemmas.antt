-- What an error leaves.
use Rattle.std.proofs.Common.{◌≡◌, ap, refl, None, Some, Result, Ok, Err}
use Rattle.std.specs.Prelude.{IfOk, OnOk}
use Rattle.std.specs.Result.{result_err}

pub no_fault : {A E : Type 0} (r : Result A E) → result_err r ≡ None → (x : A) × (r ≡ Ok x)
no_fault (Ok x) none = (x, refl)
no_fault (Err e) none = absurd (cc)

pub on_none : {A E P : Type 0} (r : Result A E) → ((x : A) × (r ≡ Ok x)) → OnOk r P → P
on_none (Ok x) is h = h
on_none (Err e) is h = absurd (let same = is.1 in cc)

pub fault_told : {A E : Type 0} {e : E} (r : Result A E) → result_err r ≡ Some e → r ≡ Err e
fault_told (Ok x) told = absurd (cc)
fault_told (Err d) told = ap Err (cc)

-- a fault is told on
pub same_fault : {A B E : Type 0} {x y : E} → ◌≡◌ {A = Result A E} (Err x) (Err y) → ◌≡◌ {A = Result B E} (Err x) (Err y)
same_fault e = ap Err (cc)

-- what holds of a value, by all that is known of it
pub by_all : {A E R : Type 0} {P Q S : A → Type 0} (r : Result A E) → ((x : A) → P x → Q x → R → S x) → IfOk r P → IfOk r Q → OnOk r R → IfOk r S
by_all (Ok x) f p q h = f x p q h
by_all (Err e) f p q h = tt

pub on_ok : {A E P Q : Type 0} (r : Result A E) → (P → Q) → OnOk r P → OnOk r Q
on_ok (Ok x) f h = f h
on_ok (Err e) f h = tt
