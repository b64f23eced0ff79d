-- What is said of a result where there is one.
use Rattle.std.proofs.Common.{Result, Ok, Err, IfOk}
use Rattle.std.specs.Prelude.{OnOk}

pub if_ok_as : {T E : Type 0} (r : Result T E) {P Q : T → Type 0} → ((x : T) → P x → Q x) → IfOk r P → IfOk r Q
if_ok_as (Ok x) to p = to x p
if_ok_as (Err e) to p = p

pub on_ok_as : {T E : Type 0} (r : Result T E) {P Q : Type 0} → (P → Q) → OnOk r P → OnOk r Q
on_ok_as (Ok x) to p = to p
on_ok_as (Err e) to p = p
