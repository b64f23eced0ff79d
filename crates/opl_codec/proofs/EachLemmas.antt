-- Two lists of which each has its partner in the other.
use Rattle.std.proofs.Common.{◌≡◌, List, [], ◌∷◌, ◌++◌, refl, ◌∙◌, ap}
use Rattle.opl_codec.specs.Fields.{Each}

module _ {A B : Type 0} (R : A → B → Type 0) where
  pub each_append : (xs ys : List A) (as' bs : List B) → Each R xs as' → Each R ys bs → Each R (xs ++ ys) (as' ++ bs)
  each_append [] ys [] bs h k = k
  each_append [] ys (a ∷ as') bs h k = absurd h
  each_append (x ∷ xs) ys [] bs h k = absurd h
  each_append (x ∷ xs) ys (a ∷ as') bs h k = (h.0, each_append xs ys as' bs h.1 k)

  -- where each has one partner at most, a longer list has the same ones first
  pub each_front : ((x : A) (a b : B) → R x a → R x b → a ≡ b) → (xs ys : List A) (as' bs : List B) → Each R xs as' → Each R (xs ++ ys) bs → (rest : List B) × (bs ≡ as' ++ rest) × Each R ys rest
  each_front one [] ys [] bs h k = (bs, refl, k)
  each_front one [] ys (a ∷ as') bs h k = absurd h
  each_front one (x ∷ xs) ys [] bs h k = absurd h
  each_front one (x ∷ xs) ys (a ∷ as') [] h k = absurd k
  each_front one (x ∷ xs) ys (a ∷ as') (b ∷ bs) h k =
      let rest = each_front one xs ys as' bs h.1 k.1 in
      let first : b ≡ a = one x b a k.0 h.0 in
      (rest.0, ap (λ z. z ∷ bs) first ∙ ap (λ zs. a ∷ zs) rest.1, rest.2)

  -- and so the partners of one list are one list
  pub each_same : ((x : A) (a b : B) → R x a → R x b → a ≡ b) → (xs : List A) (as' bs : List B) → Each R xs as' → Each R xs bs → as' ≡ bs
  each_same one [] [] [] h k = refl
  each_same one [] [] (b ∷ bs) h k = absurd k
  each_same one [] (a ∷ as') bs h k = absurd h
  each_same one (x ∷ xs) [] bs h k = absurd h
  each_same one (x ∷ xs) (a ∷ as') [] h k = absurd k
  each_same one (x ∷ xs) (a ∷ as') (b ∷ bs) h k = let first = one x a b h.0 k.0 in let rest = each_same one xs as' bs h.1 k.1 in cc
