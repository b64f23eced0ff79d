-- Tests of lengths, and exits by `?`.
use Rattle.std.proofs.Common.{◌≡◌, ◌≢◌, ℕ, List, [], ◌∷◌, length, Bool, true, false, ◌==◌, refl, sym, ◌∙◌, subst, arith, Result, Ok, Err}
use Rattle.std.specs.Prelude.{IsErrAnd, IfErr}
use Rattle.std.proofs.lemmas.Bool.Decides.{nat_tests}

-- a list without elements, by the test of its length
pub none_from_test : (xs : List ℕ) (test : Bool) → test ≡ (length xs == 0) → test ≡ true → xs ≡ []
none_from_test [] test e holds = refl
none_from_test (x ∷ xs) test e holds = let never : (length (x ∷ xs) == 0) ≡ false = grind (arith, nat_tests) in let bad : true ≡ false = sym holds ∙ e ∙ never in cc

pub some_from_test : (xs : List ℕ) (test : Bool) → test ≡ (length xs == 0) → test ≡ false → xs ≢ []
some_from_test [] test e fails none = let same : true ≡ false = sym e ∙ fails in cc
some_from_test (x ∷ xs) test e fails none = cc

-- what an exit by `?` hands on
pub handed_on : {A F : Type 0} (P : F → Type 0) (r : Result A F) (fault : F) → IsErrAnd r (λ f. f ≡ fault) → P fault → IfErr r P
handed_on P (Ok x) fault is holds = absurd is
handed_on P (Err f) fault is holds = subst P (sym is) holds
