-- The order of keys by the numbers of their prefixes.
use Rattle.std.proofs.Common.{◌≡◌, ◌≢◌, ℕ, zero, suc, ◌+◌, ◌<◌, List, [], ◌∷◌, drop, get_or, refl, sym, ap, ◌∙◌, inl, inr, arith}
use Rattle.std.specs.Int.{from_be_bytes, to_be_bytes, w64}
use Rattle.std.specs.Ordering.{nat_cmp, ordering_reverse, ordering_then}
use Rattle.std.specs.Cmp.{nat_cmp_is}
use Rattle.std.specs.declared.cmp.Ordering.TheVariants.{Less, Equal, Greater}
use Rattle.std.proofs.lemmas.Bool.{cases_eq, cases_order, lt-ltb}
use Rattle.std.proofs.lemmas.Cmp.{nat_list_cmp_total}
use Rattle.std.proofs.lemmas.List.{get_or-drop}
use Rattle.tree_node.specs.Nodes.{AreBytes}
use Rattle.tree_node.specs.Order.{IsBelow, order}
use Rattle.tree_node.proofs.shared.FieldLemmas.{AreBytes-drop, wide64}
use Rattle.tree_node.proofs.shared.WordOrder.{unequal_words}
use Rattle.osm_index.specs.internal.PrefixedEntries.{StartsWith}
use Rattle.osm_index.specs.internal.Prefixes.{prefix_number}

-- the first n bytes, with zeros after a shorter key
abbrev padded : ℕ → List ℕ → List ℕ
padded zero key = []
padded (suc n) key = get_or key 0 0 ∷ padded n (drop 1 key)

lower_head : (x y : ℕ) (xs ys : List ℕ) → x < y → IsBelow (x ∷ xs) (y ∷ ys)
lower_head x y xs ys lt = ap (λ o. ordering_then o (order xs ys)) (sym (nat_cmp_is x y Less lt))

higher_head : (x y : ℕ) (xs ys : List ℕ) → y < x → order (x ∷ xs) (y ∷ ys) ≡ Greater
higher_head x y xs ys lt = ap (λ o. ordering_then o (order xs ys)) (sym (nat_cmp_is x y Greater lt))

equal_heads : (x y : ℕ) (xs ys : List ℕ) → x ≡ y → order (x ∷ xs) (y ∷ ys) ≡ order xs ys
equal_heads x y xs ys e = ap (λ o. ordering_then o (order xs ys)) (sym (nat_cmp_is x y Equal e))

-- a key with a lower prefix is below
below_padded : (n : ℕ) (xs ys : List ℕ) → IsBelow (padded n xs) (padded n ys) → IsBelow xs ys
below_padded zero xs ys below = absurd (cc)
below_padded (suc n) [] [] below = below_padded n [] [] (sym (equal_heads 0 0 (padded n []) (padded n []) refl) ∙ below)
below_padded (suc n) [] (y ∷ ys) below = refl
below_padded (suc n) (x ∷ xs) [] below =
    elim (cases_order x 0) [
      | inl e ↦ let rest : IsBelow xs [] = below_padded n xs [] (sym (equal_heads x 0 (padded n xs) (padded n []) e) ∙ below) in absurd (above_none xs rest)
      | inr (inl less) ↦ absurd (omega (arith, less))
      | inr (inr more) ↦ let high = higher_head x 0 (padded n xs) (padded n []) more in absurd (cc)
    ]
  where
    above_none : (zs : List ℕ) → IsBelow zs [] → ⊥
    above_none [] below = cc
    above_none (z ∷ zs) below = cc
below_padded (suc n) (x ∷ xs) (y ∷ ys) below =
    elim (cases_order x y) [
      | inl e ↦ equal_heads x y xs ys e ∙ below_padded n xs ys (sym (equal_heads x y (padded n xs) (padded n ys) e) ∙ below)
      | inr (inl less) ↦ lower_head x y xs ys less
      | inr (inr more) ↦ let high = higher_head x y (padded n xs) (padded n ys) more in absurd (cc)
    ]

-- after equal prefixes what follows decides
below_rest : (n : ℕ) (xs ys : List ℕ) → padded n xs ≡ padded n ys → IsBelow (drop n xs) (drop n ys) → IsBelow xs ys
below_rest zero xs ys same below = below
below_rest (suc n) [] [] same below = below
below_rest (suc n) [] (y ∷ ys) same below = refl
below_rest (suc n) (x ∷ xs) [] same below = absurd (above_none (drop n xs) below)
  where
    above_none : (zs : List ℕ) → IsBelow zs [] → ⊥
    above_none [] below = cc
    above_none (z ∷ zs) below = cc
below_rest (suc n) (x ∷ xs) (y ∷ ys) same below =
    let heads : x ≡ y = cc in
    let rests : padded n xs ≡ padded n ys = cc in
    equal_heads x y xs ys heads ∙ below_rest n xs ys rests below

padded_bytes : (n : ℕ) (key : List ℕ) → AreBytes key → AreBytes (padded n key)
padded_bytes zero key bytes i = omega arith
padded_bytes (suc n) key bytes zero = bytes 0
padded_bytes (suc n) key bytes (suc i) = padded_bytes n (drop 1 key) (λ k. omega (arith, bytes (1 + k), get_or-drop 1 key k 0)) i

prefix_is : (key : List ℕ) → prefix_number key ≡ from_be_bytes w64 (padded 8 key)
prefix_is [] = refl
prefix_is (a ∷ []) = refl
prefix_is (a ∷ b ∷ []) = refl
prefix_is (a ∷ b ∷ c ∷ []) = refl
prefix_is (a ∷ b ∷ c ∷ d ∷ []) = refl
prefix_is (a ∷ b ∷ c ∷ d ∷ e ∷ []) = refl
prefix_is (a ∷ b ∷ c ∷ d ∷ e ∷ f ∷ []) = refl
prefix_is (a ∷ b ∷ c ∷ d ∷ e ∷ f ∷ g ∷ rest) = refl

module _ (xs ys : List ℕ) (fits : AreBytes xs) (others : AreBytes ys) where
  pub lower_prefix : prefix_number xs < prefix_number ys → IsBelow xs ys
  lower_prefix lt =
      let words = unequal_words (padded 8 xs) (padded 8 ys) (padded_bytes 8 xs fits) (padded_bytes 8 ys others) (omega arith) (omega arith) (prefix_number xs) (prefix_number ys) (prefix_is xs) (prefix_is ys) (λ e. omega (arith, lt, e)) in
      below_padded 8 xs ys (words.0 (lt-ltb (prefix_number xs) (prefix_number ys) lt))

  same_prefix : prefix_number xs ≡ prefix_number ys → padded 8 xs ≡ padded 8 ys
  same_prefix same =
      sym (wide64.back (padded 8 xs) refl (padded_bytes 8 xs fits))
      ∙ ap (to_be_bytes w64) (sym (prefix_is xs) ∙ same ∙ prefix_is ys)
      ∙ wide64.back (padded 8 ys) refl (padded_bytes 8 ys others)

  pub lower_next : prefix_number xs ≡ prefix_number ys → IsBelow (drop 8 xs) (drop 8 ys) → IsBelow xs ys
  lower_next same below = below_rest 8 xs ys (same_prefix same) below

-- two numbers that differ compare as what they order
pub compares_as : (m n : ℕ) (xs ys : List ℕ) → m ≢ n → (m < n → IsBelow xs ys) → (n < m → IsBelow ys xs) → nat_cmp m n ≡ order xs ys
compares_as m n xs ys apart below above =
    elim (cases_order m n) [
      | inl e ↦ absurd (apart e)
      | inr (inl less) ↦ sym (nat_cmp_is m n Less less) ∙ sym (below less)
      | inr (inr more) ↦ sym (nat_cmp_is m n Greater more) ∙ sym (nat_list_cmp_total.antisymm xs ys ∙ ap ordering_reverse (above more))
    ]

-- numbers in front that differ decide
pub decided : (m n : ℕ) (xs ys : List ℕ) → m ≢ n → order (m ∷ xs) (n ∷ ys) ≡ nat_cmp m n
decided m n xs ys apart =
    elim (cases_order m n) [
      | inl e ↦ absurd (apart e)
      | inr (inl less) ↦ lower_head m n xs ys less ∙ nat_cmp_is m n Less less
      | inr (inr more) ↦ higher_head m n xs ys more ∙ nat_cmp_is m n Greater more
    ]

-- a key that starts with lower numbers is below
pub lower_start : (high low high' low' : ℕ) (xs ys : List ℕ) → StartsWith high low xs → StartsWith high' low' ys → AreBytes xs → AreBytes ys
    → IsBelow (high ∷ low ∷ []) (high' ∷ low' ∷ []) → IsBelow xs ys
lower_start high low high' low' xs ys start other fits others below =
    elim (cases_order high high') [
      | inl e ↦
          let lows : IsBelow (low ∷ []) (low' ∷ []) = sym (equal_heads high high' (low ∷ []) (low' ∷ []) e) ∙ below in
          elim (cases_order low low') [
            | inl f ↦ let same : order (low ∷ []) (low' ∷ []) ≡ Equal = equal_heads low low' [] [] f in absurd (cc)
            | inr (inl less) ↦
                lower_next xs ys fits others (sym start.first ∙ e ∙ other.first)
                (lower_prefix (drop 8 xs) (drop 8 ys) (AreBytes-drop 8 xs fits) (AreBytes-drop 8 ys others) (rw (← start.next, ← other.next) less))
            | inr (inr more) ↦ let high = higher_head low low' [] [] more in absurd (cc)
          ]
      | inr (inl less) ↦ lower_prefix xs ys fits others (rw (← start.first, ← other.first) less)
      | inr (inr more) ↦ let above = higher_head high high' (low ∷ []) (low' ∷ []) more in absurd (cc)
    ]

-- keys with one start compare as the numbers after it, and then as they are
module _ (high low : ℕ) where
  below_next : (xs ys : List ℕ) → StartsWith high low xs → StartsWith high low ys → AreBytes xs → AreBytes ys
      → IsBelow (drop 8 (drop 8 xs)) (drop 8 (drop 8 ys)) → IsBelow xs ys
  below_next xs ys start other fits others below =
      lower_next xs ys fits others (sym start.first ∙ other.first)
      (lower_next (drop 8 xs) (drop 8 ys) (AreBytes-drop 8 xs fits) (AreBytes-drop 8 ys others) (sym start.next ∙ other.next) below)

  after : (xs : List ℕ) → AreBytes xs → AreBytes (drop 8 (drop 8 xs))
  after xs fits = AreBytes-drop 8 (drop 8 xs) (AreBytes-drop 8 xs fits)

  lower_high : (m l n k : ℕ) (xs ys : List ℕ) → StartsWith high low xs → StartsWith high low ys → AreBytes xs → AreBytes ys
      → StartsWith m l (drop 8 (drop 8 xs)) → StartsWith n k (drop 8 (drop 8 ys)) → m < n → IsBelow xs ys
  lower_high m l n k xs ys start other fits others second seconds less =
      below_next xs ys start other fits others (lower_prefix (drop 8 (drop 8 xs)) (drop 8 (drop 8 ys)) (after xs fits) (after ys others) (rw (← second.first, ← seconds.first) less))

  lower_low : (m l n k : ℕ) (xs ys : List ℕ) → StartsWith high low xs → StartsWith high low ys → AreBytes xs → AreBytes ys
      → StartsWith m l (drop 8 (drop 8 xs)) → StartsWith n k (drop 8 (drop 8 ys)) → m ≡ n → l < k → IsBelow xs ys
  lower_low m l n k xs ys start other fits others second seconds same less =
      below_next xs ys start other fits others
      (lower_next (drop 8 (drop 8 xs)) (drop 8 (drop 8 ys)) (after xs fits) (after ys others) (sym second.first ∙ same ∙ seconds.first)
      (lower_prefix (drop 8 (drop 8 (drop 8 xs))) (drop 8 (drop 8 (drop 8 ys))) (AreBytes-drop 8 _ (after xs fits)) (AreBytes-drop 8 _ (after ys others)) (rw (← second.next, ← seconds.next) less)))

  pub second_order : (m l n k : ℕ) (xs ys : List ℕ) → StartsWith high low xs → StartsWith high low ys → AreBytes xs → AreBytes ys
      → StartsWith m l (drop 8 (drop 8 xs)) → StartsWith n k (drop 8 (drop 8 ys)) → order (m ∷ l ∷ xs) (n ∷ k ∷ ys) ≡ order xs ys
  second_order m l n k xs ys start other fits others second seconds =
      elim (cases_eq m n) [
        | inl e ↦
            equal_heads m n (l ∷ xs) (k ∷ ys) e
            ∙ elim (cases_eq l k) [
              | inl f ↦ equal_heads l k xs ys f
              | inr apart ↦
                  decided l k xs ys apart
                  ∙ compares_as l k xs ys apart
                  (λ less. lower_low m l n k xs ys start other fits others second seconds e less)
                  (λ less. lower_low n k m l ys xs other start others fits seconds second (sym e) less)
            ]
        | inr apart ↦
            decided m n (l ∷ xs) (k ∷ ys) apart
            ∙ compares_as m n xs ys apart
            (λ less. lower_high m l n k xs ys start other fits others second seconds less)
            (λ less. lower_high n k m l ys xs other start others fits seconds second less)
      ]
