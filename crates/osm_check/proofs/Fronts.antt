-- What a matcher knows of a text: how many bytes at its front are as expected, and where it differs first.
use Rattle.std.proofs.Common.{◌≡◌, ◌≢◌, ℕ, zero, suc, ◌+◌, ◌-◌, ◌^◌, ◌<◌, ◌≤◌, min, List, [], ◌∷◌, ◌++◌, length, take, drop, ◌⊎◌, inl, inr, Option, Some, None, refl, sym, ap, subst, ◌∙◌, arith}
use Rattle.std.specs.Prelude.{slice_get, MatchOption}
use Rattle.std.proofs.lemmas.Grind.{common_steps}
use Rattle.std.proofs.lemmas.Bool.{cases_eq}
use Rattle.std.proofs.lemmas.List.{length-append, length-take-le}
use Rattle.osm_check.specs.Matching.{IsFirstDifference, IsParted, Matches, common}

pub at_same : (x y : ℕ) (xs ys : List ℕ) → x ≡ y → common (x ∷ xs) (y ∷ ys) ≡ suc (common xs ys)
at_same x y xs ys e = grind arith

pub at_other : (x y : ℕ) (xs ys : List ℕ) → x ≢ y → common (x ∷ xs) (y ∷ ys) ≡ 0
at_other x y xs ys e = grind arith

pub common_nil : (xs : List ℕ) → common xs [] ≡ 0
common_nil [] = refl
common_nil (x ∷ xs) = refl

pub within_first : (xs ys : List ℕ) → common xs ys ≤ length xs
within_first [] ys = omega arith
within_first (x ∷ xs) [] = omega arith
within_first (x ∷ xs) (y ∷ ys) = elim (cases_eq x y) [ inl e ↦ (let h = within_first xs ys in rw (at_same x y xs ys e) (omega arith)) | inr n ↦ rw (at_other x y xs ys n) (omega arith) ]

pub within_second : (xs ys : List ℕ) → common xs ys ≤ length ys
within_second [] ys = omega arith
within_second (x ∷ xs) [] = omega arith
within_second (x ∷ xs) (y ∷ ys) = elim (cases_eq x y) [ inl e ↦ (let h = within_second xs ys in rw (at_same x y xs ys e) (omega arith)) | inr n ↦ rw (at_other x y xs ys n) (omega arith) ]

-- the second is the front of the first so far
pub common_extends : (e m b : List ℕ) → common e m ≡ length m → common e (m ++ b) ≡ length m + common (drop (length m) e) b
common_extends e [] b all = omega arith
common_extends [] (y ∷ ys) b all = absurd (omega (arith, all))
common_extends (x ∷ xs) (y ∷ ys) b all = elim (cases_eq x y) [
  | inl e ↦ (let fewer : common xs ys ≡ length ys = omega (arith, all, at_same x y xs ys e) in let h = common_extends xs ys b fewer in rw (at_same x y xs (ys ++ b) e) (omega (arith, h)))
  | inr n ↦ absurd (omega (arith, all, at_other x y xs ys n))
]

-- they differed before
pub common_stays : (e m b : List ℕ) → common e m < length m → common e (m ++ b) ≡ common e m
common_stays e [] b less = absurd (omega (arith, less))
common_stays [] (y ∷ ys) b less = refl
common_stays (x ∷ xs) (y ∷ ys) b less = elim (cases_eq x y) [
  | inl e ↦ (let fewer : common xs ys < length ys = omega (arith, less, at_same x y xs ys e) in at_same x y xs (ys ++ b) e ∙ ap suc (common_stays xs ys b fewer) ∙ sym (at_same x y xs ys e))
  | inr n ↦ at_other x y xs (ys ++ b) n ∙ sym (at_other x y xs ys n)
]

-- the first is the front of the second
pub common_full : (e m b : List ℕ) → common e m ≡ length e → common e (m ++ b) ≡ length e
common_full [] m b all = refl
common_full (x ∷ xs) [] b all = absurd (omega (arith, all))
common_full (x ∷ xs) (y ∷ ys) b all = elim (cases_eq x y) [
  | inl e ↦ at_same x y xs (ys ++ b) e ∙ ap suc (common_full xs ys b (omega (arith, all, at_same x y xs ys e)))
  | inr n ↦ absurd (omega (arith, all, at_other x y xs ys n))
]

pub common_cut : (n : ℕ) (e m : List ℕ) → common e (take n m) ≡ min (common e m) n
common_cut zero e m = common_nil e ∙ omega arith
common_cut (suc n) [] m = omega arith
common_cut (suc n) (x ∷ xs) [] = omega arith
common_cut (suc n) (x ∷ xs) (y ∷ ys) = elim (cases_eq x y) [
  | inl e ↦ at_same x y xs (take n ys) e ∙ ap suc (common_cut n xs ys) ∙ omega (arith, at_same x y xs ys e)
  | inr d ↦ at_other x y xs (take n ys) d ∙ omega (arith, at_other x y xs ys d)
]

-- ---- the first difference

pub first_alike : (e m : List ℕ) → take (common e m) m ≡ take (common e m) e
first_alike [] m = refl
first_alike (x ∷ xs) [] = refl
first_alike (x ∷ xs) (y ∷ ys) = elim (cases_eq x y) [
  | inl e ↦ rw (at_same x y xs ys e) (ap (λ (z : ℕ). z ∷ take (common xs ys) ys) (sym e) ∙ ap (λ (zs : List ℕ). x ∷ zs) (first_alike xs ys))
  | inr n ↦ rw (at_other x y xs ys n) refl
]

pub first_differ : (e m : List ℕ) → m ≢ e → slice_get m (common e m) ≢ slice_get e (common e m)
first_differ [] [] differ = λ same. differ refl
first_differ [] (y ∷ ys) differ = λ same. absurd (Prim.cc)
first_differ (x ∷ xs) [] differ = λ same. absurd (Prim.cc)
first_differ (x ∷ xs) (y ∷ ys) differ = elim (cases_eq x y) [
  | inl e ↦ (let rest : ys ≢ xs = λ s. differ (ap (λ (z : ℕ). z ∷ ys) (sym e) ∙ ap (λ (zs : List ℕ). x ∷ zs) s) in rw (at_same x y xs ys e) (first_differ xs ys rest))
  | inr n ↦ rw (at_other x y xs ys n) (λ same. n (heads x y same))
]
  where
    heads : (a b : ℕ) → Some b ≡ Some a → a ≡ b
    heads a b e = cc

pub both_whole : (e m : List ℕ) → common e m ≡ length e → length m ≡ length e → m ≡ e
both_whole [] [] all long = refl
both_whole [] (y ∷ ys) all long = absurd (omega (arith, long))
both_whole (x ∷ xs) [] all long = absurd (omega (arith, long))
both_whole (x ∷ xs) (y ∷ ys) all long = elim (cases_eq x y) [
  | inl e ↦ ap (λ (z : ℕ). z ∷ ys) (sym e) ∙ ap (λ (zs : List ℕ). x ∷ zs) (both_whole xs ys (omega (arith, all, at_same x y xs ys e)) (omega (arith, long)))
  | inr n ↦ absurd (omega (arith, all, at_other x y xs ys n))
]

-- ---- what a matcher keeps

pub parted_before : (e m b : List ℕ) (place : ℕ) → IsParted e m (Some place) → IsParted e (m ++ b) (Some place)
parted_before e m b place is = (common_stays e m b (omega (arith, is.0, is.1)) ∙ is.0, omega (arith, is.1, length-append m b))

pub parted_here : (e m b : List ℕ) (len same : ℕ) → length e ≤ 2 ^ 64 - 1 → Matches e len None m → len ≤ length e → same ≡ common (drop len e) b → same < length b → IsParted e (m ++ b) (Some (len + same))
parted_here e m b len same fits is within shared less =
    let long : len ≡ length m = (let h = within_first e m in omega (arith, is.0, is.1, h, fits)) in
    (common_extends e m b is.1 ∙ ap (λ (k : ℕ). k + common (drop k e) b) (sym long) ∙ ap (λ (k : ℕ). len + k) (sym shared), omega (arith, less, length-append m b, long))

pub parted_nowhere : (e m b : List ℕ) (len same : ℕ) → length e ≤ 2 ^ 64 - 1 → Matches e len None m → len ≤ length e → same ≡ common (drop len e) b → length b ≤ same → IsParted e (m ++ b) None
parted_nowhere e m b len same fits is within shared all =
    let long : len ≡ length m = (let h = within_first e m in omega (arith, is.0, is.1, h, fits)) in
    let whole : same ≡ length b = (let h = within_second (drop len e) b in omega (arith, shared, all, h)) in
    common_extends e m b is.1 ∙ ap (λ (k : ℕ). k + common (drop k e) b) (sym long) ∙ ap (λ (k : ℕ). len + k) (sym shared ∙ whole) ∙ omega (arith, length-append m b, long)

pub cut_before : (n : ℕ) (e m : List ℕ) (place : ℕ) → n ≤ length m → IsParted e m (Some place) → place < n → IsParted e (take n m) (Some place)
cut_before n e m place within is less = (common_cut n e m ∙ omega (arith, is.0, less), omega (arith, less, length-take-le n m within))

pub cut_after : (n : ℕ) (e m : List ℕ) (place : ℕ) → n ≤ length m → IsParted e m (Some place) → n ≤ place → IsParted e (take n m) None
cut_after n e m place within is less = common_cut n e m ∙ omega (arith, is.0, less, length-take-le n m within)

pub cut_none : (n : ℕ) (e m : List ℕ) → n ≤ length m → IsParted e m None → IsParted e (take n m) None
cut_none n e m within is = common_cut n e m ∙ omega (arith, is, length-take-le n m within)

pub difference_is : (e m : List ℕ) (place : ℕ) → common e m ≡ place → (m ≢ e) → IsFirstDifference m e place
difference_is e m place is other = record {
  alike = subst (λ (k : ℕ). take k m ≡ take k e) is (first_alike e m);
  differ = subst (λ (k : ℕ). slice_get m k ≢ slice_get e k) is (first_differ e m other);
}

pub cut_place : (n : ℕ) (e m : List ℕ) (len : ℕ) (first result : Option ℕ) → n ≤ 2 ^ 64 - 1 → n ≤ length m
    → MatchOption first (result ≡ None) (λ at. ((at < n) × (result ≡ Some at)) ⊎ ((n ≤ at) × (result ≡ None)))
    → Matches e len first m → Matches e (min len n) result (take n m)
cut_place n e m len None result fits within is at = (omega (arith, at.0, length-take-le n m within), subst (λ (o : Option ℕ). IsParted e (take n m) o) (sym is) (cut_none n e m within at.1))
cut_place n e m len (Some place) result fits within is at = (
  omega (arith, at.0, length-take-le n m within),
  elim is [
    | inl before ↦ subst (λ (o : Option ℕ). IsParted e (take n m) o) (sym before.1) (cut_before n e m place within at.1 before.0)
    | inr after ↦ subst (λ (o : Option ℕ). IsParted e (take n m) o) (sym after.1) (cut_after n e m place within at.1 after.0)
  ],
)

pub all_after : (n : ℕ) (e : List ℕ) → take (length e - n) (drop n e) ≡ drop n e
all_after n e = grind (arith, common_steps)

-- ---- what a matcher tells

pub none_differs : (e m : List ℕ) (len : ℕ) → length e ≤ 2 ^ 64 - 1 → Matches e len None m → len ≡ length e → m ≡ e
none_differs e m len fits is whole = both_whole e m (let h = within_first e m in omega (arith, is.0, is.1, whole, h, fits)) (let h = within_first e m in omega (arith, is.0, is.1, whole, h, fits))

pub end_differs : (e m : List ℕ) (len : ℕ) → length e ≤ 2 ^ 64 - 1 → Matches e len None m → len ≢ length e → IsFirstDifference m e len
end_differs e m len fits is other =
    let h = within_first e m in
    difference_is e m len (omega (arith, is.0, is.1, h, fits)) (λ same. other (omega (arith, is.0, ap (length {A = ℕ}) same, fits)))

pub place_differs : (e m : List ℕ) (place : ℕ) → IsParted e m (Some place) → IsFirstDifference m e place
place_differs e m place is = difference_is e m place is.0 (λ same. itself_whole e m place is same)
  where
    whole : (xs : List ℕ) → common xs xs ≡ length xs
    whole [] = refl
    whole (x ∷ xs) = at_same x x xs xs refl ∙ ap suc (whole xs)

    itself_whole : (e m : List ℕ) (place : ℕ) → IsParted e m (Some place) → m ≡ e → ⊥
    itself_whole e m place is same = let h : common e m ≡ length m = subst (λ (t : List ℕ). common t m ≡ length m) same (whole m) in absurd (omega (arith, is.0, is.1, h))
