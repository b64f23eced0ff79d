-- Items in the front and in the back of a list.
use Rattle.std.proofs.Common.{◌≡◌, ℕ, zero, suc, ◌-◌, ◌<◌, List, [], ◌∷◌, length, take, drop, sym, subst, ◌∙◌, arith}
use Rattle.std.proofs.lemmas.List.{get_or-take, length-drop, length-take, take_all}
use Rattle.std.specs.List.{AllWithin, Contains}

pub in_front : {X : Type 0} (P : X → Type 0) (xs : List X) (i : ℕ) (x : X) → AllWithin P xs 0 i → Contains (take i xs) x → P x
in_front P xs i x all has =
    let short : has.0 < i = omega (arith, has.1, length-take i xs) in
    subst P (sym (get_or-take i xs has.0 x short) ∙ has.2) (all has.0 x (omega arith) short)

pub in_back : {X : Type 0} (P : X → Type 0) (xs : List X) (i : ℕ) (x : X) → AllWithin P xs i (length xs) → Contains (drop i xs) x → P x
in_back P xs zero x all has = subst P has.2 (all has.0 x (omega arith) has.1)
in_back P [] (suc i) x all has = absurd (omega (arith, has.1))
in_back P (y ∷ xs) (suc i) x all has = in_back P xs i x (λ k d from lt. all (suc k) d (omega arith) (omega arith)) has

-- a slice from a place on is what is left there
pub slice_is_rest : {X : Type 0} (xs : List X) (first : ℕ) → take (length xs - first) (drop first xs) ≡ drop first xs
slice_is_rest xs first = take_all (length xs - first) (drop first xs) (omega (arith, length-drop first xs))
