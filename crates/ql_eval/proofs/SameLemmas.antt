-- Lists that are compared one by one.
use Rattle.std.proofs.Common.{◌≡◌, ℕ, ◌+◌, ◌<◌, List, [], ◌∷◌, ◌++◌, length, take, get_or, map, min, sym, ap, ◌∙◌, arith}
use Rattle.std.proofs.lemmas.List.{map-append, take_all, take_more}

-- what so many have in common, and the next
pub same_more : {A B : Type 0} (f : A → B) (xs ys : List A) (k more : ℕ) (x y : A) → more ≡ k + 1 → k < length xs → k < length ys → x ≡ get_or xs k x → y ≡ get_or ys k y → f x ≡ f y
    → map f (take k xs) ≡ map f (take k ys) → map f (take more xs) ≡ map f (take more ys)
same_more {A} {B} f xs ys k more x y is lt lt_too at at_too same before =
    let one = λ (zs : List A) (z : A) (l : k < length zs) (e : z ≡ get_or zs k z). ap (λ (n : ℕ). map f (take n zs)) is ∙ ap (λ (l : List A). map f l) (take_more zs k z l ∙ ap (λ (w : A). take k zs ++ w ∷ []) (sym e)) ∙ map-append f (take k zs) (z ∷ []) in
    one xs x lt at ∙ ap (λ (l : List B). l ++ f x ∷ []) before ∙ ap (λ (b : B). map f (take k ys) ++ b ∷ []) same ∙ sym (one ys y lt_too at_too)

-- and all of them
pub same_all : {A B : Type 0} (f : A → B) (xs ys : List A) (k : ℕ) → length xs ≡ length ys → k ≡ min (length xs) (length ys) → map f (take k xs) ≡ map f (take k ys) → map f xs ≡ map f ys
same_all {A} f xs ys k long is so =
    ap (λ (l : List A). map f l) (sym (take_all k xs (omega (arith, long, is)))) ∙ so ∙ ap (λ (l : List A). map f l) (take_all k ys (omega (arith, long, is)))
