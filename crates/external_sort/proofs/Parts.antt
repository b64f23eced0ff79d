-- Parts of lists.
use Rattle.std.proofs.Common.{◌≡◌, ◌∙◌, sym, ap, refl, ℕ, ◌+◌, ◌-◌, ◌<◌, ◌≤◌, min, List, ◌++◌, length, take, drop, arith, slice_range, append_assoc, length-append}
use Rattle.std.specs.Ordering.{nat_cmp}
use Rattle.std.proofs.lemmas.Cmp.{by_ranked, ranked}
use Rattle.std.proofs.lemmas.List.{drop-append-le, drop-drop, drop-take, drop_all, drop_at, length-drop, length-take, take-append-le, take-take, take_at}

-- the part that stands between a and c
pub seam : (a x c : List ℕ) (s t : ℕ) → length a ≡ s → s + length x ≡ t → slice_range (a ++ (x ++ c)) s t ≡ x
seam a x c s t la lx = ap (λ (l : List ℕ). take (t - s) l) (drop_at a (x ++ c) s la) ∙ take_at x c (t - s) (omega (arith, lx))

-- a part of a list is one of a longer list
pub part_grows : (b m : List ℕ) (s e : ℕ) → s ≤ e → e ≤ length b → slice_range (b ++ m) s e ≡ slice_range b s e
part_grows b m s e se eb =
    let sb : s ≤ length b = omega arith in
    let le : e - s ≤ length (drop s b) = omega (arith, length-drop s b) in
    ap (λ (l : List ℕ). take (e - s) l) (drop-append-le s b m sb) ∙ take-append-le (e - s) (drop s b) m le

pub length_part : (b : List ℕ) (s e : ℕ) → e ≤ length b → length (slice_range b s e) ≡ e - s
length_part b s e eb = omega (arith, length-take (e - s) (drop s b), length-drop s b)

-- what is left of a part
pub part_passed : (b : List ℕ) (s e count : ℕ) → s ≤ e → count ≤ e - s → slice_range b (s + count) e ≡ drop count (slice_range b s e)
part_passed b s e count se few =
    let n : e - s ≡ count + (e - (s + count)) = omega arith in
    sym (ap (λ (k : ℕ). drop count (take k (drop s b))) n ∙ drop-take count (e - (s + count)) (drop s b) ∙ ap (λ (l : List ℕ). take (e - (s + count)) l) (drop-drop count s b))

pub part_passed_all : (b : List ℕ) (s e count : ℕ) → s ≤ e → e - s ≤ count → slice_range b (s + (e - s)) e ≡ drop count (slice_range b s e)
part_passed_all b s e count se many =
    let z : e - (s + (e - s)) ≡ 0 = omega arith in
    let le : length (slice_range b s e) ≤ count = omega (arith, length-take (e - s) (drop s b)) in
    ap (λ (k : ℕ). take k (drop (s + (e - s)) b)) z ∙ sym (drop_all count (slice_range b s e) le)

pub part_passed_min : (b : List ℕ) (s e count m : ℕ) → s ≤ e → m ≡ min count (e - s) → slice_range b (s + m) e ≡ drop count (slice_range b s e)
part_passed_min b s e count m se is =
    let few : count ≤ e - s → slice_range b (s + m) e ≡ drop count (slice_range b s e) =
    λ h. let same : m ≡ count = omega arith in ap (λ (k : ℕ). slice_range b (s + k) e) same ∙ part_passed b s e count se h in
    let many : e - s ≤ count → slice_range b (s + m) e ≡ drop count (slice_range b s e) =
    λ h. let same : m ≡ e - s = omega arith in ap (λ (k : ℕ). slice_range b (s + k) e) same ∙ part_passed_all b s e count se h in
    by_ranked (count < e - s) (count ≡ e - s) (e - s < count) (nat_cmp count (e - s)) (ranked count (e - s) (nat_cmp count (e - s)) refl) (λ _ lt. few (omega arith)) (λ _ same. few (omega arith)) (λ _ gt. many (omega arith))

-- what stands before the bytes that were read, and those
pub filled : (d new post after : List ℕ) (e end len : ℕ) → e ≤ length d → length new + e ≡ end → end ≤ len
    → slice_range (take len ((take e d ++ (new ++ post)) ++ after)) 0 end ≡ take e d ++ new
filled d new post after e end len within long room =
    let z : end - 0 ≡ end = omega arith in
    let front : length (take e d ++ new) ≡ end = omega (arith, length-append (take e d) new, length-take e d) in
    let same : (take e d ++ (new ++ post)) ++ after ≡ (take e d ++ new) ++ (post ++ after) = simp append_assoc in
    ap (λ (n : ℕ). take n (take len ((take e d ++ (new ++ post)) ++ after))) z
    ∙ take-take end len ((take e d ++ (new ++ post)) ++ after) room
    ∙ ap (λ (l : List ℕ). take end l) same
    ∙ take_at (take e d ++ new) (post ++ after) end front

-- the front of a list and more
pub front_grows : (b more : List ℕ) (e : ℕ) → e ≤ length b → take e (b ++ more) ≡ slice_range b 0 e
front_grows b more e within =
    let z : e - 0 ≡ e = omega arith in
    take-append-le e b more within ∙ sym (ap (λ (n : ℕ). take n b) z)
