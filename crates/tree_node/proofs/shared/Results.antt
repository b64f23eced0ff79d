-- Results that are known to be errors.
use Rattle.std.proofs.Common.{◌≡◌, Result, Ok, Err, ap}
use Rattle.std.specs.Result.{IsErrAnd}

-- a result that is known to be an error
pub err_is : {A F : Type 0} (result : Result A F) (fault : F) → IsErrAnd result (λ f. f ≡ fault) → result ≡ Err fault
err_is (Ok x) fault is = absurd is
err_is (Err f) fault is = ap (λ g. Err g) is
