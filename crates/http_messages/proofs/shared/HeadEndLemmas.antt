-- Where a head ends doesn't change with what follows, and is looked for from where a look ended.
use Rattle.std.proofs.Common.{◌≡◌, ◌∙◌, ◌<◌, ◌≤◌, ◌+◌, ◌-◌, ◌≢◌, get_or, min, ℕ, Bool, true, false, List, [], ◌∷◌, ◌++◌, ap, inl, inr, sym, subst, refl, arith, length, drop, take}
use Rattle.std.specs.Prelude.{Option, Some, None, option_map, if◌then◌else◌, zero, suc, ◌&&◌, ◌==◌, nat_lt}
use Rattle.std.proofs.lemmas.Bool.{and_parts, cases_lt}
use Rattle.std.proofs.lemmas.Bool.Decides.{nat_tests}
use Rattle.std.proofs.lemmas.List.{drop-drop, drop_all, drop_more, get_or-drop, length-drop}
use Rattle.std.proofs.Math.Seq.{take_all}
use Rattle.memchr.specs.Find.{NoneBefore, Nowhere, Passes, is_byte}
use Rattle.http_messages.specs.HeadEnds.{empty_line, head_length}

-- ---- the empty line

pub empty_line-append : (a b : List ℕ) → 0 < empty_line a → empty_line (a ++ b) ≡ empty_line a
empty_line-append [] b h = absurd (omega arith)
empty_line-append (x ∷ []) [] h = refl
empty_line-append (x ∷ []) (y ∷ b) h = grind (arith, nat_tests, h)
empty_line-append (x ∷ y ∷ a) b h = refl

pub empty_line-fits : (a : List ℕ) → empty_line a ≤ length a
empty_line-fits [] = omega arith
empty_line-fits (x ∷ []) = grind (arith, nat_tests)
empty_line-fits (x ∷ y ∷ a) = grind (arith, nat_tests)

empty_line-take : (k : ℕ) (a : List ℕ) → empty_line (take (suc (suc k)) a) ≡ empty_line a
empty_line-take k [] = refl
empty_line-take k (x ∷ []) = refl
empty_line-take k (x ∷ y ∷ a) = refl

-- ---- the end

abbrev here : ℕ → List ℕ → Bool
here b bytes = b == 10 && nat_lt 0 (empty_line bytes)

suc-some : (o : Option ℕ) (n : ℕ) → option_map (λ k. suc k) o ≡ Some n → (k : ℕ) × (o ≡ Some k) × (n ≡ suc k)
suc-some None n e = cc
suc-some (Some k) n e = (k, refl, cc)

pub head_length-fits : (a : List ℕ) (n : ℕ) → head_length a ≡ Some n → (0 < n) × (n ≤ length a)
head_length-fits [] n e = cc
head_length-fits (x ∷ a) n e = go (here x a) refl e (λ k ek. head_length-fits a k ek)
  where
    go : (c : Bool) → here x a ≡ c
        → (if c then Some (suc (empty_line a)) else option_map (λ k. suc k) (head_length a)) ≡ Some n
        → ((k : ℕ) → head_length a ≡ Some k → (0 < k) × (k ≤ length a)) → (0 < n) × (n ≤ length (x ∷ a))
    go true t e later = let is : suc (empty_line a) ≡ n = cc in let fits = empty_line-fits a in (omega arith, omega (arith, fits))
    go false t e later = let (k, is, nk) = suc-some (head_length a) n e in let fits = later k is in (omega arith, omega (arith, fits.1))

here-append : (x : ℕ) (a b : List ℕ) → here x a ≡ true → here x (a ++ b) ≡ true
here-append x a b t =
    let parts = and_parts (x == 10) (nat_lt 0 (empty_line a)) t in
    let some : 0 < empty_line a = grind (arith, nat_tests, parts.1) in
    rw (empty_line-append a b some) t

-- not here, and found later: there are two bytes at least, so what follows changes nothing
not_here-append : (x : ℕ) (a b : List ℕ) (k : ℕ) → head_length a ≡ Some k → here x a ≡ false → here x (a ++ b) ≡ false
not_here-append x [] b k later f = cc
not_here-append x (y ∷ []) b k later f = absurd (go (here y []) refl later)
  where
    go : (c : Bool) → here y [] ≡ c → (if c then Some 1 else option_map (λ n. suc n) None) ≡ Some k → ⊥
    go true t e = let parts = and_parts (y == 10) false t in cc
    go false t e = cc
not_here-append x (y ∷ z ∷ a) b k later f = f

pub head_length-append : (a b : List ℕ) (n : ℕ) → head_length a ≡ Some n → head_length (a ++ b) ≡ Some n
head_length-append [] b n e = cc
head_length-append (x ∷ a) b n e = go (here x a) refl e (λ k ek. head_length-append a b k ek)
  where
    go : (c : Bool) → here x a ≡ c
        → (if c then Some (suc (empty_line a)) else option_map (λ k. suc k) (head_length a)) ≡ Some n
        → ((k : ℕ) → head_length a ≡ Some k → head_length (a ++ b) ≡ Some k) → head_length ((x ∷ a) ++ b) ≡ Some n
    go true t e later =
        let parts = and_parts (x == 10) (nat_lt 0 (empty_line a)) t in
        let some : 0 < empty_line a = grind (arith, nat_tests, parts.1) in
        rw (here-append x a b t) (ap (λ (k : ℕ). Some (suc k)) (empty_line-append a b some) ∙ e)
    go false t e later =
        let (k, is, nk) = suc-some (head_length a) n e in
        rw (not_here-append x a b k is t) (ap (option_map (λ m. suc m)) (later k is) ∙ ap (λ (m : ℕ). Some m) (sym nk))

-- ---- a look from where the last one ended

shift-zero : (o : Option ℕ) → o ≡ option_map (λ n. 0 + n) o
shift-zero None = refl
shift-zero (Some n) = ap (λ (k : ℕ). Some k) (omega arith)

shift-suc : (k : ℕ) (o : Option ℕ) → option_map (λ n. suc n) (option_map (λ n. k + n) o) ≡ option_map (λ n. suc k + n) o
shift-suc k None = refl
shift-suc k (Some n) = ap (λ (k : ℕ). Some k) (omega arith)

none-suc : (o : Option ℕ) → option_map (λ n. suc n) o ≡ None → o ≡ None
none-suc None e = refl
none-suc (Some n) e = cc

not_here : (x : ℕ) (a : List ℕ) → head_length (x ∷ a) ≡ None → (here x a ≡ false) × (head_length a ≡ None)
not_here x a e = go (here x a) refl e
  where
    go : (c : Bool) → here x a ≡ c
        → (if c then Some (suc (empty_line a)) else option_map (λ k. suc k) (head_length a)) ≡ None
        → (here x a ≡ false) × (head_length a ≡ None)
    go true t e = cc
    go false t e = (t, none-suc (head_length a) e)

-- nothing ends before the place
pub head_length-from : (k : ℕ) (a : List ℕ) → head_length (take (suc (suc k)) a) ≡ None
    → head_length a ≡ option_map (λ n. k + n) (head_length (drop k a))
head_length-from zero a none = shift-zero (head_length a)
head_length-from (suc k) [] none = refl
head_length-from (suc k) (x ∷ a) none =
    let parts = not_here x (take (suc (suc k)) a) none in
    let is : here x a ≡ false = rw (empty_line-take k a) at parts.0 in
    rw is (ap (option_map (λ n. suc n)) (head_length-from k a parts.1) ∙ shift-suc k (head_length (drop k a)))

pub head_length-since : (from : ℕ) (k : ℕ) (a : List ℕ) → k ≡ from - 2 → head_length (take from a) ≡ None
    → head_length a ≡ option_map (λ n. k + n) (head_length (drop k a))
head_length-since zero k a is none = let zero_is : k ≡ 0 = omega arith in rw zero_is (shift-zero (head_length a))
head_length-since (suc zero) k a is none = let zero_is : k ≡ 0 = omega arith in rw zero_is (shift-zero (head_length a))
head_length-since (suc (suc j)) k a is none = let same : k ≡ j = omega arith in rw same (head_length-from j a none)

-- ---- from line feed to line feed

-- no head ends before this place
abbrev pub Passed : ℕ → List ℕ → Type 0
Passed at a = head_length a ≡ option_map (λ n. at + n) (head_length (drop at a))

-- what comes from this place on, as a slice is
pub rest_is : (at : ℕ) (a : List ℕ) → take (length a - at) (drop at a) ≡ drop at a
rest_is at a = take_all (length a - at) (drop at a) (omega (arith, length-drop at a))

-- the first line feed
pub record FirstFeed (a : List ℕ) (len : ℕ) : Type 0 where
  pub within : len < length a
  pub here : get_or a len 0 ≡ 10
  pub none : (k : ℕ) → k < len → get_or a k 0 ≢ 10

feed_is : (b : ℕ) → (b == 10) ≡ true → b ≡ 10
feed_is b e = grind (arith, nat_tests)

feed_tested : (b : ℕ) → b ≡ 10 → (b == 10) ≡ true
feed_tested b e = grind (arith, nat_tests)

pub first_feed : (found a : List ℕ) (len : ℕ) → found ≡ a
    → NoneBefore (Passes (is_byte 10) found) 0 (length found) len × Passes (is_byte 10) found len → FirstFeed a len
first_feed found a len same is = subst (λ (s : List ℕ). FirstFeed s len) same (record {
  within = is.0.high;
  here = feed_is (get_or found len 0) is.1;
  none = λ k lt e. is.0.before k (omega arith) lt (feed_tested (get_or found k 0) e);
})

pub no_feed : (found a : List ℕ) → found ≡ a → Nowhere (Passes (is_byte 10) found) 0 (length found) → (k : ℕ) → k < length a → get_or a k 0 ≢ 10
no_feed found a same none = subst (λ (s : List ℕ). (k : ℕ) → k < length s → get_or s k 0 ≢ 10) same (λ k lt e. none k (omega arith) lt (feed_tested (get_or found k 0) e))

shift-add : (at k : ℕ) (o : Option ℕ) → option_map (λ n. at + n) (option_map (λ n. k + n) o) ≡ option_map (λ n. (at + k) + n) o
shift-add at k None = refl
shift-add at k (Some n) = ap (λ (m : ℕ). Some m) (omega arith)

shift-more : (at : ℕ) (o : Option ℕ) → option_map (λ n. at + n) (option_map (λ n. suc n) o) ≡ option_map (λ n. (at + 1) + n) o
shift-more at None = refl
shift-more at (Some n) = ap (λ (k : ℕ). Some k) (omega arith)

other-here : (x : ℕ) (a : List ℕ) → x ≢ 10 → here x a ≡ false
other-here x a h = grind (arith, nat_tests)

none-here : (x : ℕ) (a : List ℕ) → empty_line a ≡ 0 → here x a ≡ false
none-here x a h = grind (arith, nat_tests)

is-here : (x : ℕ) (a : List ℕ) → x ≡ 10 → 0 < empty_line a → here x a ≡ true
is-here x a h some = grind (arith, nat_tests)

-- no head ends where no line feed comes
without_feed : (k : ℕ) (a : List ℕ) → ((i : ℕ) → i < k → get_or a i 0 ≢ 10) → Passed k a
without_feed zero a none = shift-zero (head_length a)
without_feed (suc k) [] none = refl
without_feed (suc k) (x ∷ a) none =
    let is : here x a ≡ false = other-here x a (none 0 (omega arith)) in
    rw is (ap (option_map (λ n. suc n)) (without_feed k a (λ i lt. none (suc i) (omega arith))) ∙ shift-suc k (head_length (drop k a)))

passed-then : (at k : ℕ) (a : List ℕ) → Passed at a → Passed k (drop at a) → Passed (at + k) a
passed-then at k a first second =
    first ∙ ap (option_map (λ n. at + n)) second ∙ shift-add at k (head_length (drop k (drop at a)))
    ∙ ap (λ (t : List ℕ). option_map (λ n. (at + k) + n) (head_length t)) (drop-drop k at a)

-- nor at a line feed that no empty line follows
pub passed-feed : (at len next : ℕ) (a : List ℕ) → next ≡ at + (len + 1) → Passed at a → FirstFeed (drop at a) len → empty_line (drop next a) ≡ 0
    → Passed next a
passed-feed at len next a is so_far feed none =
    let next_is : next ≡ (at + len) + 1 = omega arith in
    let inside : at + len < length a = omega (arith, feed.within, length-drop at a) in
    let before = passed-then at len a so_far (without_feed len (drop at a) feed.none) in
    let rest = drop ((at + len) + 1) a in
    let not : here (get_or a (at + len) 0) rest ≡ false = none-here (get_or a (at + len) 0) rest (subst (λ n. empty_line (drop n a) ≡ 0) next_is none) in
    subst (λ n. Passed n a) (sym next_is) (before ∙ ap (λ (t : List ℕ). option_map (λ n. (at + len) + n) (head_length t)) (drop_more a (at + len) 0 inside)
    ∙ rw not (shift-more (at + len) (head_length rest)))

-- at one that an empty line follows, it ends with that line
pub ended-feed : (at len next line : ℕ) (a : List ℕ) → next ≡ at + (len + 1) → Passed at a → FirstFeed (drop at a) len → line ≡ empty_line (drop next a) → 0 < line
    → Some (next + line) ≡ head_length a
ended-feed at len next line a is so_far feed line_is some =
    let next_is : next ≡ (at + len) + 1 = omega arith in
    let inside : at + len < length a = omega (arith, feed.within, length-drop at a) in
    let before = passed-then at len a so_far (without_feed len (drop at a) feed.none) in
    let rest = drop ((at + len) + 1) a in
    let follows : line ≡ empty_line rest = subst (λ n. line ≡ empty_line (drop n a)) next_is line_is in
    let ten : get_or a (at + len) 0 ≡ 10 = sym (get_or-drop at a len 0) ∙ feed.here in
    let ends : here (get_or a (at + len) 0) rest ≡ true = is-here (get_or a (at + len) 0) rest ten (omega arith) in
    let found : head_length (get_or a (at + len) 0 ∷ rest) ≡ Some (suc (empty_line rest)) = rw ends refl in
    let sum : next + line ≡ (at + len) + suc (empty_line rest) = omega arith in
    ap (λ (n : ℕ). Some n) sum
    ∙ sym (before ∙ ap (λ (t : List ℕ). option_map (λ n. (at + len) + n) (head_length t)) (drop_more a (at + len) 0 inside) ∙ ap (option_map (λ n. (at + len) + n)) found)

-- and no head ends where no further line feed comes
pub passed-all : (at : ℕ) (a : List ℕ) → Passed at a → ((k : ℕ) → k < length (drop at a) → get_or (drop at a) k 0 ≢ 10) → None ≡ head_length a
passed-all at a so_far none =
    let rest = drop at a in
    sym (passed-then at (length rest) a so_far (without_feed (length rest) rest none)
    ∙ ap (λ (t : List ℕ). option_map (λ n. (at + length rest) + n) (head_length t)) (drop_all (at + length rest) a (omega (arith, length-drop at a))))

-- what was looked at may be longer than the bytes
pub passed-least : (k at : ℕ) (a : List ℕ) → at ≡ min k (length a) → Passed k a → Passed at a
passed-least k at a is so_far = elim (cases_lt k (length a)) [
  | inl fits ↦ let same : at ≡ k = omega arith in subst (λ n. Passed n a) (sym same) so_far
  | inr more ↦
      let same : at ≡ length a = omega arith in
      so_far ∙ ap (λ (t : List ℕ). option_map (λ n. k + n) (head_length t)) (drop_all k a (omega arith))
      ∙ ap (λ (t : List ℕ). option_map (λ n. at + n) (head_length t)) (sym (drop_all at a (omega arith)))
]
