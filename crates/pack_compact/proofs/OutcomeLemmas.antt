-- Results that are known to be errors.
use Rattle.std.proofs.Common.{◌≡◌, ◌∙◌, Result, Ok, Err, sym, subst}
use Rattle.std.specs.Prelude.{IfErr, MatchResult}
use Rattle.std.specs.Result.{IsErrAnd}

-- what is so of the fault is so of the result
pub err_ends : {A F : Type 0} (result : Result A F) (fault : F) (Is : A → Type 0) (Why : F → Type 0) → IsErrAnd result (λ told. told ≡ fault) → Why fault → MatchResult result Is Why
err_ends (Ok x) fault Is Why is why = absurd is
err_ends (Err f) fault Is Why is why = subst Why (sym is) why

-- an outcome, told in other words
pub ends_as : {A F : Type 0} (result : Result A F) (Is So : A → Type 0) (Why : F → Type 0) → ((x : A) → Is x → So x) → MatchResult result Is Why → MatchResult result So Why
ends_as (Ok x) Is So Why told ends = told x ends
ends_as (Err f) Is So Why told ends = ends

pub err_if : {A F : Type 0} (result : Result A F) (fault : F) (Why : F → Type 0) → IsErrAnd result (λ told. told ≡ fault) → Why fault → IfErr result Why
err_if (Ok x) fault Why is why = absurd is
err_if (Err f) fault Why is why = subst Why (sym is) why

pub err_isnt : {A F : Type 0} (result : Result A F) (fault other : F) → IsErrAnd result (λ told. told ≡ fault) → (fault ≡ other → ⊥) → result ≡ Err other → ⊥
err_isnt (Ok x) fault other is isnt e = absurd is
err_isnt (Err f) fault other is isnt e = let same : f ≡ other = cc in isnt (sym is ∙ same)
