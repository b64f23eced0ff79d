-- What is said of a result at the exit of a `?`, where it is known to be an error.
use Rattle.std.proofs.Common.{Result, Ok, Err}
use Rattle.std.specs.Prelude.{IfOk}
use Rattle.std.specs.Result.{IsErrAnd}

-- nothing is said of a value
pub no_value : {T E : Type 0} (result : Result T E) (P : T → Type 0) (Q : E → Type 0) → IsErrAnd result Q → IfOk result P
no_value (Ok x) P Q is = absurd is
no_value (Err e) P Q is = tt
