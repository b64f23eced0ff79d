-- The order of byte strings, by the numbers that their first bytes spell.
use Rattle.std.proofs.Common.{◌≡◌, ◌≢◌, ◌↔◌, Bool, true, false, IsTrue, ltb, ℕ, zero, suc, ◌+◌, ◌*◌, ◌<◌, ◌≤◌, List, [], ◌∷◌, ◌++◌, length, take, drop, refl, sym, ap, subst, ◌∙◌, inl, inr, arith}
use Rattle.std.specs.Int.{from_be_bytes, w64}
use Rattle.std.specs.Ordering.{ordering_reverse, ordering_then}
use Rattle.std.specs.Cmp.{nat_cmp_is}
use Rattle.std.specs.declared.cmp.Ordering.{Ordering}
use Rattle.std.specs.declared.cmp.Ordering.TheVariants.{Less, Equal, Greater}
use Rattle.std.proofs.lemmas.Bool.{cases_order, le-ltb, lt-ltb}
use Rattle.std.proofs.lemmas.List.{take-append-drop}
use Rattle.tree_node.specs.Nodes.{AreBytes}
use Rattle.tree_node.specs.Order.{order, IsBelow}
use Rattle.tree_node.specs.internal.OrderLemmas.{not_itself, order_above, order_flip, order_trans}

-- ---- the first bytes decide, or else what comes after them

lower_head : (x y : ℕ) (xs ys : List ℕ) → x < y → IsBelow (x ∷ xs) (y ∷ ys)
lower_head x y xs ys lt = ap (λ o. ordering_then o (order xs ys)) (sym (nat_cmp_is x y Less lt))

equal_heads : (x y : ℕ) (xs ys : List ℕ) → x ≡ y → order (x ∷ xs) (y ∷ ys) ≡ order xs ys
equal_heads x y xs ys e = ap (λ o. ordering_then o (order xs ys)) (sym (nat_cmp_is x y Equal e))

after_front : (front xs ys : List ℕ) → order (front ++ xs) (front ++ ys) ≡ order xs ys
after_front [] xs ys = refl
after_front (b ∷ front) xs ys = equal_heads b b (front ++ xs) (front ++ ys) refl ∙ after_front front xs ys

-- ---- bytes as numbers

-- the number that the first n bytes spell after this one
abbrev spelt : ℕ → ℕ → List ℕ → ℕ
spelt zero before xs = before
spelt (suc n) before [] = before
spelt (suc n) before (x ∷ xs) = spelt n (before * 256 + x) xs

-- a lower number stays lower, whatever bytes follow
stays_lower : (n a b : ℕ) (xs ys : List ℕ) → n ≤ length xs → n ≤ length ys → AreBytes xs → a < b → spelt n a xs < spelt n b ys
stays_lower zero a b xs ys p q bytes lt = lt
stays_lower (suc n) a b [] ys p q bytes lt = absurd (omega arith)
stays_lower (suc n) a b (x ∷ xs) [] p q bytes lt = absurd (omega arith)
stays_lower (suc n) a b (x ∷ xs) (y ∷ ys) p q bytes lt =
    let small : x < 256 = bytes 0 in
    stays_lower n (a * 256 + x) (b * 256 + y) xs ys (omega arith) (omega arith) (λ k. bytes (suc k)) (omega arith)

-- a lower number is that of a lower string
lower_spelt : (n a : ℕ) (xs ys : List ℕ) → n ≤ length xs → n ≤ length ys → AreBytes xs → AreBytes ys → spelt n a xs < spelt n a ys → IsBelow xs ys
lower_spelt zero a xs ys p q fits others lt = absurd (omega arith)
lower_spelt (suc n) a [] ys p q fits others lt = absurd (omega arith)
lower_spelt (suc n) a (x ∷ xs) [] p q fits others lt = absurd (omega arith)
lower_spelt (suc n) a (x ∷ xs) (y ∷ ys) p q fits others lt =
    elim (cases_order x y) [
      | inl e ↦
          let tail : spelt n (a * 256 + x) xs < spelt n (a * 256 + x) ys = subst (λ (z : ℕ). spelt n (a * 256 + x) xs < spelt n (a * 256 + z) ys) (sym e) lt in
          equal_heads x y xs ys e ∙ lower_spelt n (a * 256 + x) xs ys (omega arith) (omega arith) (λ k. fits (suc k)) (λ k. others (suc k)) tail
      | inr (inl less) ↦ lower_head x y xs ys less
      | inr (inr more) ↦
          let higher : spelt n (a * 256 + y) ys < spelt n (a * 256 + x) xs = stays_lower n (a * 256 + y) (a * 256 + x) ys xs (omega arith) (omega arith) (λ k. others (suc k)) (omega arith) in
          absurd (omega (arith, higher, lt))
    ]

-- one number is that of one string
same_spelt : (n a : ℕ) (xs ys : List ℕ) → n ≤ length xs → n ≤ length ys → AreBytes xs → AreBytes ys → spelt n a xs ≡ spelt n a ys → take n xs ≡ take n ys
same_spelt zero a xs ys p q fits others same = refl
same_spelt (suc n) a [] ys p q fits others same = absurd (omega arith)
same_spelt (suc n) a (x ∷ xs) [] p q fits others same = absurd (omega arith)
same_spelt (suc n) a (x ∷ xs) (y ∷ ys) p q fits others same =
    elim (cases_order x y) [
      | inl e ↦
          let tail : spelt n (a * 256 + x) xs ≡ spelt n (a * 256 + x) ys = same ∙ ap (λ (z : ℕ). spelt n (a * 256 + z) ys) (sym e) in
          let rest = same_spelt n (a * 256 + x) xs ys (omega arith) (omega arith) (λ k. fits (suc k)) (λ k. others (suc k)) tail in
          (λ i. e i ∷ rest i)
      | inr (inl less) ↦
          let lower : spelt n (a * 256 + x) xs < spelt n (a * 256 + y) ys = stays_lower n (a * 256 + x) (a * 256 + y) xs ys (omega arith) (omega arith) (λ k. fits (suc k)) (omega arith) in
          absurd (omega (arith, lower, same))
      | inr (inr more) ↦
          let higher : spelt n (a * 256 + y) ys < spelt n (a * 256 + x) xs = stays_lower n (a * 256 + y) (a * 256 + x) ys xs (omega arith) (omega arith) (λ k. others (suc k)) (omega arith) in
          absurd (omega (arith, higher, same))
    ]

-- the number of eight bytes is the one that they spell
word_is : (xs : List ℕ) → 8 ≤ length xs → from_be_bytes w64 (take 8 xs) ≡ spelt 8 0 xs
word_is [] long = absurd (omega arith)
word_is (a ∷ []) long = absurd (omega arith)
word_is (a ∷ b ∷ []) long = absurd (omega arith)
word_is (a ∷ b ∷ c ∷ []) long = absurd (omega arith)
word_is (a ∷ b ∷ c ∷ d ∷ []) long = absurd (omega arith)
word_is (a ∷ b ∷ c ∷ d ∷ e ∷ []) long = absurd (omega arith)
word_is (a ∷ b ∷ c ∷ d ∷ e ∷ f ∷ []) long = absurd (omega arith)
word_is (a ∷ b ∷ c ∷ d ∷ e ∷ f ∷ g ∷ []) long = absurd (omega arith)
word_is (a ∷ b ∷ c ∷ d ∷ e ∷ f ∷ g ∷ h ∷ xs) long = omega arith

-- ---- what the code's tests say

-- of two strings one alone is below the other
not_both_below : (xs ys : List ℕ) → IsBelow xs ys → ¬ IsBelow ys xs
not_both_below xs ys below above = not_itself xs xs (order_trans xs ys xs below above) refl

module _ (xs ys : List ℕ) (fits : AreBytes xs) (others : AreBytes ys) (long : 8 ≤ length xs) (others_long : 8 ≤ length ys) where
  -- numbers that differ decide,
  pub unequal_words : (x y : ℕ) → x ≡ from_be_bytes w64 (take 8 xs) → y ≡ from_be_bytes w64 (take 8 ys) → x ≢ y → (IsTrue (ltb x y) ↔ IsBelow xs ys)
  unequal_words x y x_is y_is apart =
      elim (cases_order x y) [
        | inl e ↦ absurd (apart e)
        | inr (inl less) ↦ ((λ _. lower_spelt 8 0 xs ys long others_long fits others (omega (arith, word_is xs long, word_is ys others_long))), (λ _. lt-ltb x y less))
        | inr (inr more) ↦
            let above : IsBelow ys xs = lower_spelt 8 0 ys xs others_long long others fits (omega (arith, word_is xs long, word_is ys others_long)) in
            let fails : ltb x y ≡ false = le-ltb x y (omega arith) in
            ((λ is. absurd (cc (is, fails))), (λ below. absurd (not_both_below xs ys below above)))
      ]

  -- and after equal ones what is left of the strings does
  pub equal_words : (x y : ℕ) → x ≡ from_be_bytes w64 (take 8 xs) → y ≡ from_be_bytes w64 (take 8 ys) → x ≡ y → order xs ys ≡ order (drop 8 xs) (drop 8 ys)
  equal_words x y x_is y_is same =
      let fronts : take 8 xs ≡ take 8 ys = same_spelt 8 0 xs ys long others_long fits others (sym (word_is xs long) ∙ sym x_is ∙ same ∙ y_is ∙ word_is ys others_long) in
      sym (λ i. order (take-append-drop 8 xs i) (take-append-drop 8 ys i))
      ∙ ap (λ (front : List ℕ). order (take 8 xs ++ drop 8 xs) (front ++ drop 8 ys)) (sym fronts)
      ∙ after_front (take 8 xs) (drop 8 xs) (drop 8 ys)

-- ---- the order of two, by which of them is below the other

pub is_above : (xs ys : List ℕ) → IsBelow ys xs → order xs ys ≡ Greater
is_above xs ys below = order_flip xs ys ∙ ap ordering_reverse below

pub is_same : (xs ys : List ℕ) → ¬ IsBelow xs ys → ¬ IsBelow ys xs → order xs ys ≡ Equal
is_same xs ys not_below not_above = only (order xs ys) refl
  where
    only : (o : Ordering) → order xs ys ≡ o → order xs ys ≡ Equal
    only Less is = absurd (not_below is)
    only Equal is = is
    only Greater is = absurd (not_above (order_above xs ys is))

-- a test that failed, of what it decides
pub isnt : (P : Type 0) (test : Bool) → (IsTrue test ↔ P) → test ≡ false → ¬ P
isnt P test decides failed is = not_both test (decides.1 is) failed
  where
    not_both : (t : Bool) → t ≡ true → t ≡ false → ⊥
    not_both t p q = cc
