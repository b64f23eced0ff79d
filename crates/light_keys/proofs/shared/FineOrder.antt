-- Rows and columns of fine cells, and the order of their bytes.
use Rattle.std.proofs.Common.{◌≡◌, ◌⊎◌, inl, inr, ℕ, zero, suc, ◌+◌, ◌*◌, ◌/◌, ◌%◌, ◌^◌, ◌<◌, ◌≤◌, ℤ, pos, negsuc, unsigned_abs, w16, w32, true, List, [], ◌∷◌, ◌++◌, length, refl, sym, ap, subst, ◌∙◌, append_assoc, append-nil, arith}
use Rattle.std.specs.Int.{bytes_high_first, to_be_bytes}
use Rattle.std.specs.Prelude.{◌≤ℤ◌, ◌<ℤ◌}
use Rattle.std.proofs.Math.Nat.{div-div-eq-div-mul, div-mul-le_self, pow-suc}
use Rattle.std.proofs.lemmas.Bool.{cases_lt, cases_order}
use Rattle.std.proofs.lemmas.Int.{ints}
use Rattle.std.proofs.lemmas.Nat.{le-div}
use Rattle.tree_node.specs.Order.{IsBelow}
use Rattle.tree_node.specs.internal.OrderLemmas.{not_itself, order_trans}
use Rattle.tree_walk.specs.Ranges.{Begins, IsAtMost, IsIn}
use Rattle.tree_walk.proofs.shared.KeyLemmas.{below_cons, cons_below}
use Rattle.osm_keys.specs.Keys.{above}
use Rattle.osm_keys.proofs.shared.RangeLaws.{front_at_most}
use Rattle.osm_keys.specs.FineKeys.{fine_column, fine_corner, fine_row}
use Rattle.osm_keys.specs.FineRanges.{fine_range}

-- ---- rows and columns

above_rises : (least : ℕ) (y z : ℤ) → unsigned_abs y ≤ least → y ≤ℤ z → above least y ≤ above least z
above_rises least (pos m) (pos n) few up = omega (arith, ints)
above_rises least (pos m) (negsuc n) few up = omega (arith, ints)
above_rises least (negsuc m) (pos n) few up = omega (arith, ints)
above_rises least (negsuc m) (negsuc n) few up = omega (arith, ints)

above_few : (least : ℕ) (z : ℤ) → unsigned_abs z ≤ least → above least z ≤ 2 * least
above_few least (pos n) few = omega (arith, ints)
above_few least (negsuc n) few = omega (arith, ints)

-- what is as far above the least number is as great
above_back : (least : ℕ) (y z : ℤ) → unsigned_abs y ≤ least → unsigned_abs z ≤ least → above least y ≤ above least z → y ≤ℤ z
above_back least (pos m) (pos n) few_y few_z up = omega (arith, ints)
above_back least (pos m) (negsuc n) few_y few_z up = omega (arith, ints)
above_back least (negsuc m) (pos n) few_y few_z up = omega (arith, ints)
above_back least (negsuc m) (negsuc n) few_y few_z up = omega (arith, ints)

above_less : (least : ℕ) (y z : ℤ) → unsigned_abs y ≤ least → y <ℤ z → above least y < above least z
above_less least (pos m) (pos n) few less = omega (arith, ints)
above_less least (pos m) (negsuc n) few less = omega (arith, ints)
above_less least (negsuc m) (pos n) few less = omega (arith, ints)
above_less least (negsuc m) (negsuc n) few less = omega (arith, ints)

-- rows rise with latitudes, and columns with longitudes
pub row_rises : (y z : ℤ) → unsigned_abs y ≤ 900000000 → y ≤ℤ z → fine_row y ≤ fine_row z
row_rises y z few up = omega (arith, above_rises 900000000 y z few up)

pub column_rises : (y z : ℤ) → unsigned_abs y ≤ 1800000000 → y ≤ℤ z → fine_column y ≤ fine_column z
column_rises y z few up = above_rises 1800000000 y z few up

pub column_less : (y z : ℤ) → unsigned_abs y ≤ 1800000000 → y <ℤ z → fine_column y < fine_column z
column_less y z few less = above_less 1800000000 y z few less

-- and the other way round: a column has one longitude, and a row's latitudes are below those of the rows above it
pub column_back : (y z : ℤ) → unsigned_abs y ≤ 1800000000 → unsigned_abs z ≤ 1800000000 → fine_column y ≤ fine_column z → y ≤ℤ z
column_back y z few_y few_z up = above_back 1800000000 y z few_y few_z up

pub row_back : (y z : ℤ) → unsigned_abs y ≤ 900000000 → unsigned_abs z ≤ 900000000 → fine_row y < fine_row z → y ≤ℤ z
row_back y z few_y few_z less = above_back 900000000 y z few_y few_z (omega (arith, less))

pub row_few : (z : ℤ) → unsigned_abs z ≤ 900000000 → fine_row z ≤ 18000
row_few z few = omega (arith, above_few 900000000 z few)

pub column_few : (z : ℤ) → unsigned_abs z ≤ 1800000000 → fine_column z ≤ 3600000000
column_few z few = above_few 1800000000 z few

-- ---- numbers, the greatest byte first

pow_positive : (k : ℕ) → 0 < 256 ^ k
pow_positive zero = omega arith
pow_positive (suc k) =
    let before = pow_positive k in
    let split : 256 ^ suc k ≡ 256 ^ k * 256 = pow-suc 256 k in
    omega (arith, before, split)

-- numbers with one upper part are ordered as their lower bytes are
pub bytes_below : (k n m : ℕ) → n / 256 ^ k ≡ m / 256 ^ k → n < m → IsBelow (bytes_high_first k n) (bytes_high_first k m)
bytes_below zero n m e less = let same : n / 1 ≡ m / 1 = e in absurd (omega (arith, same, less))
bytes_below (suc zero) n m e less =
    let same : n / 256 ≡ m / 256 = e in
    cons_below (n % 256) (m % 256) [] [] (inl (omega (arith, same, less)))
bytes_below (suc (suc i)) n m e less =
    let q : ℕ = 256 ^ suc i in
    let split : 256 ^ suc (suc i) ≡ q * 256 = pow-suc 256 (suc i) in
    let upper : n / q / 256 ≡ m / q / 256 = div-div-eq-div-mul n q 256 ∙ ap (λ (p : ℕ). n / p) (sym split) ∙ e ∙ ap (λ (p : ℕ). m / p) split ∙ sym (div-div-eq-div-mul m q 256) in
    let low : n / q * q ≤ n = div-mul-le_self n q in
    let most : n / q ≤ m / q = le-div (n / q) m q (pow_positive (suc i)) (omega (arith, low, less)) in
    cons_below (n / q % 256) (m / q % 256) (bytes_high_first (suc i) n) (bytes_high_first (suc i) m) (elim (cases_order (n / q) (m / q)) [
      | inl same ↦ inr (ap (λ (x : ℕ). x % 256) same, bytes_below (suc i) n m same less)
      | inr (inl lt) ↦ inl (omega (arith, upper, lt))
      | inr (inr gt) ↦ absurd (omega (arith, most, gt))
    ])

-- ---- strings by their fronts

-- fronts of one length decide, where they differ
front_below : (a b x y : List ℕ) → length a ≡ length b → IsBelow a b → IsBelow (a ++ x) (b ++ y)
front_below [] [] x y len below = absurd (not_itself [] [] below refl)
front_below [] (d ∷ b) x y len below = absurd (omega (arith, len))
front_below (c ∷ a) [] x y len below = absurd (omega (arith, len))
front_below (c ∷ a) (d ∷ b) x y len below =
    cons_below c d (a ++ x) (b ++ y) (elim (below_cons c d a b below) [
      | inl lt ↦ inl lt
      | inr (e, more) ↦ inr (e, front_below a b x y (omega (arith, len)) more)
    ])

-- what comes after one front decides
pub rest_below : (a x y : List ℕ) → IsBelow x y → IsBelow (a ++ x) (a ++ y)
rest_below [] x y below = below
rest_below (c ∷ a) x y below = cons_below c c (a ++ x) (a ++ y) (inr (refl, rest_below a x y below))

-- what is at most a string isn't above it
pub not_above : (a b : List ℕ) → IsAtMost a b → IsBelow b a → ⊥
not_above a b (inl h) k = not_itself a a (order_trans a b a h k) refl
not_above a b (inr e) k = not_itself b a k (sym e)

at_most_after : (a b c : List ℕ) → IsAtMost a b → IsAtMost b c → IsAtMost a c
at_most_after a b c (inl h) (inl k) = inl (order_trans a b c h k)
at_most_after a b c (inl h) (inr e) = inl (subst (λ (x : List ℕ). IsBelow a x) e h)
at_most_after a b c (inr e) k = subst (λ (x : List ℕ). IsAtMost x c) (sym e) k

-- ---- corners of fine cells in order

module _ (r c s d : ℕ) (hr : r < 65536) (hc : c < 4294967296) (hs : s < 65536) (hd : d < 4294967296) where
  pub corner_below : (xs ys : List ℕ) → r * 4294967296 + c < s * 4294967296 + d → IsBelow (fine_corner r c ++ xs) (fine_corner s d ++ ys)
  unfolding fine_corner
  corner_below xs ys less =
      let left = append_assoc (to_be_bytes w16 r) (to_be_bytes w32 c) xs in
      let right = append_assoc (to_be_bytes w16 s) (to_be_bytes w32 d) ys in
      let whole : IsBelow (to_be_bytes w16 r ++ (to_be_bytes w32 c ++ xs)) (to_be_bytes w16 s ++ (to_be_bytes w32 d ++ ys)) = elim (cases_order r s) [
        | inl e ↦ subst (λ (n : ℕ). IsBelow (to_be_bytes w16 r ++ (to_be_bytes w32 c ++ xs)) (to_be_bytes w16 n ++ (to_be_bytes w32 d ++ ys))) e
            (rest_below (to_be_bytes w16 r) (to_be_bytes w32 c ++ xs) (to_be_bytes w32 d ++ ys)
            (front_below (to_be_bytes w32 c) (to_be_bytes w32 d) xs ys refl (bytes_below 4 c d (omega arith) (omega arith))))
        | inr (inl lt) ↦ front_below (to_be_bytes w16 r) (to_be_bytes w16 s) (to_be_bytes w32 c ++ xs) (to_be_bytes w32 d ++ ys) refl (bytes_below 2 r s (omega arith) lt)
        | inr (inr gt) ↦ absurd (omega arith)
      ] in
      subst (λ (x : List ℕ). IsBelow x (fine_corner s d ++ ys)) (sym left) (subst (λ (y : List ℕ). IsBelow (to_be_bytes w16 r ++ (to_be_bytes w32 c ++ xs)) y) (sym right) whole)

  pub corner_below_end : (xs : List ℕ) → r * 4294967296 + c < s * 4294967296 + d → IsBelow (fine_corner r c ++ xs) (fine_corner s d)
  corner_below_end xs less = subst (λ (y : List ℕ). IsBelow (fine_corner r c ++ xs) y) (append-nil (fine_corner s d)) (corner_below xs [] less)

  pub end_below_corner : (ys : List ℕ) → r * 4294967296 + c < s * 4294967296 + d → IsBelow (fine_corner r c) (fine_corner s d ++ ys)
  end_below_corner ys less = subst (λ (x : List ℕ). IsBelow x (fine_corner s d ++ ys)) (append-nil (fine_corner r c)) (corner_below [] ys less)

-- ---- keys in ranges of fine cells

from_low : (r c s d : ℕ) (rest : List ℕ) → r < 65536 → c < 4294967296 → s < 65536 → d < 4294967296 → IsAtMost (fine_corner r c) (fine_corner s d ++ rest) → r * 4294967296 + c ≤ s * 4294967296 + d
from_low r c s d rest hr hc hs hd most =
    elim (cases_lt (s * 4294967296 + d) (r * 4294967296 + c)) [
      | inl lt ↦ absurd (not_above (fine_corner r c) (fine_corner s d ++ rest) most (corner_below_end s d r c hs hd hr hc rest lt))
      | inr le ↦ le
    ]

to_high : (r c s d : ℕ) (rest : List ℕ) → r < 65536 → c < 4294967296 → s < 65536 → d < 4294967296 → IsAtMost (fine_corner s d ++ rest) (fine_corner r c) → s * 4294967296 + d ≤ r * 4294967296 + c
to_high r c s d rest hr hc hs hd most =
    elim (cases_lt (r * 4294967296 + c) (s * 4294967296 + d)) [
      | inl lt ↦ absurd (not_above (fine_corner s d ++ rest) (fine_corner r c) most (end_below_corner r c s d hr hc hs hd rest lt))
      | inr le ↦ le
    ]

begun_by : (r c s d : ℕ) (rest more : List ℕ) → r < 65536 → c < 4294967296 → s < 65536 → d < 4294967296 → fine_corner s d ++ rest ≡ fine_corner r c ++ more → s * 4294967296 + d ≤ r * 4294967296 + c
begun_by r c s d rest more hr hc hs hd e =
    elim (cases_lt (r * 4294967296 + c) (s * 4294967296 + d)) [
      | inl lt ↦ absurd (not_itself (fine_corner r c ++ more) (fine_corner s d ++ rest) (corner_below r c s d hr hc hs hd more rest lt) (sym e))
      | inr le ↦ le
    ]

-- the key's fine cell is in the row, in one of these columns
pub in_fine : (r first last s d : ℕ) (rest : List ℕ) → r < 65536 → first < 4294967296 → last < 4294967296 → s < 65536 → d < 4294967296
    → IsIn (fine_range r (first, last)) (fine_corner s d ++ rest) → (s ≡ r) × (first ≤ d) × (d ≤ last)
in_fine r first last s d rest hr hf hl hs hd inside =
    let low = from_low r first s d rest hr hf hs hd inside.0 in
    let high : s * 4294967296 + d ≤ r * 4294967296 + last = elim inside.1 [
      | inl most ↦ to_high r last s d rest hr hl hs hd most
      | inr begun ↦ begun_by r last s d rest begun.1.0 hr hl hs hd begun.1.1
    ] in
    (omega arith, omega arith, omega arith)

low_in : (r c d : ℕ) (rest : List ℕ) → r < 65536 → c < 4294967296 → d < 4294967296 → c ≤ d → IsAtMost (fine_corner r c) (fine_corner r d ++ rest)
low_in r c d rest hr hc hd le =
    elim (cases_order c d) [
      | inl e ↦ subst (λ (n : ℕ). IsAtMost (fine_corner r c) (fine_corner r n ++ rest)) e (front_at_most (fine_corner r c) rest)
      | inr (inl lt) ↦ inl (end_below_corner r c r d hr hc hr hd rest (omega arith))
      | inr (inr gt) ↦ absurd (omega arith)
    ]

high_in : (r c d : ℕ) (rest : List ℕ) → r < 65536 → c < 4294967296 → d < 4294967296 → d ≤ c
    → IsAtMost (fine_corner r d ++ rest) (fine_corner r c) ⊎ ((true ≡ true) × Begins (fine_corner r c) (fine_corner r d ++ rest))
high_in r c d rest hr hc hd le =
    elim (cases_order d c) [
      | inl e ↦ inr (refl, (rest, ap (λ (n : ℕ). fine_corner r n ++ rest) e))
      | inr (inl lt) ↦ inl (inl (corner_below_end r d r c hr hd hr hc rest (omega arith)))
      | inr (inr gt) ↦ absurd (omega arith)
    ]

pub fine_in : (r first last d : ℕ) (rest : List ℕ) → r < 65536 → first < 4294967296 → last < 4294967296 → d < 4294967296 → first ≤ d → d ≤ last → IsIn (fine_range r (first, last)) (fine_corner r d ++ rest)
fine_in r first last d rest hr hf hl hd low high = (low_in r first d rest hr hf hd low, high_in r last d rest hr hl hd high)

-- so the first fine cell is in its own range
pub first_in : (r first last : ℕ) → r < 65536 → last < 4294967296 → first ≤ last → IsIn (fine_range r (first, last)) (fine_corner r first)
first_in r first last hr hl le = subst (λ (key : List ℕ). IsIn (fine_range r (first, last)) key) (append-nil (fine_corner r first)) (fine_in r first last first [] hr (omega arith) hl (omega arith) (omega arith) le)

-- no key is in two ranges, one of which ends before the other one starts
pub apart : (r s first last begin end : ℕ) (key : List ℕ) → r < 65536 → s < 65536 → last < 4294967296 → begin < 4294967296 → r * 4294967296 + last < s * 4294967296 + begin
    → IsIn (fine_range r (first, last)) key → IsIn (fine_range s (begin, end)) key → ⊥
apart r s first last begin end key hr hs hl hb less (low, inl most) second =
    let below = subst (λ (x : List ℕ). IsBelow x (fine_corner s begin)) (append-nil (fine_corner r last)) (corner_below_end r last s begin hr hl hs hb [] less) in
    not_above (fine_corner s begin) (fine_corner r last) (at_most_after (fine_corner s begin) key (fine_corner r last) second.0 most) below
apart r s first last begin end key hr hs hl hb less (low, inr (under, (rest, e))) second =
    not_above (fine_corner s begin) key second.0 (subst (λ (x : List ℕ). IsBelow x (fine_corner s begin)) (sym e) (corner_below_end r last s begin hr hl hs hb rest less))
