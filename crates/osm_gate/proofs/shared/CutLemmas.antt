-- What is cut ends where the cut is.
use Rattle.std.proofs.Common.{◌≡◌, ◌∙◌, ◌<◌, ◌≤◌, ℕ, Bool, true, false, List, [], ◌∷◌, ap, sym, refl, subst, arith, length, take}
use Rattle.std.specs.Prelude.{Option, Some, None, option_map, if◌then◌else◌, zero, suc, ◌&&◌, ◌==◌, nat_lt}
use Rattle.std.proofs.lemmas.Bool.{and_parts}
use Rattle.std.proofs.lemmas.Bool.Decides.{nat_tests}
use Rattle.std.proofs.Math.Seq.{length-take-le, take_all}
use Rattle.http_messages.specs.HeadEnds.{empty_line, head_length}
use Rattle.http_messages.proofs.shared.HeadEndLemmas.{head_length-fits}
use Rattle.osm_gate.specs.Pieces.{IsCut, cut_length, cut_or}

abbrev here : ℕ → List ℕ → Bool
here b bytes = b == 10 && nat_lt 0 (empty_line bytes)

suc-some : (o : Option ℕ) (n : ℕ) → option_map (λ k. suc k) o ≡ Some n → (k : ℕ) × (o ≡ Some k) × (n ≡ suc k)
suc-some None n e = cc
suc-some (Some k) n e = (k, refl, cc)

empty_line-own : (a : List ℕ) → empty_line (take (empty_line a) a) ≡ empty_line a
empty_line-own [] = refl
empty_line-own (x ∷ []) = by (x == 10) refl
  where
    by : (b : Bool) → x == 10 ≡ b → empty_line (take (if b then 1 else 0) (x ∷ [])) ≡ (if b then 1 else 0)
    by true is = rw is refl
    by false is = refl
empty_line-own (x ∷ y ∷ a) = by (x == 10) refl (x == 13 && y == 10) refl
  where
    by : (b : Bool) → x == 10 ≡ b → (d : Bool) → (x == 13 && y == 10) ≡ d
        → empty_line (take (if b then 1 else (if d then 2 else 0)) (x ∷ y ∷ a)) ≡ (if b then 1 else (if d then 2 else 0))
    by true is d its = rw is refl
    by false is true its = rw (is, its) refl
    by false is false its = refl

-- a beginning has no empty line at its front that the whole hasn't
empty_line-front : (k : ℕ) (a : List ℕ) → 0 < empty_line (take k a) → 0 < empty_line a
empty_line-front zero a some = absurd (omega arith)
empty_line-front (suc k) [] some = some
empty_line-front (suc zero) (x ∷ []) some = some
empty_line-front (suc zero) (x ∷ y ∷ a) some = grind (arith, nat_tests, some)
empty_line-front (suc (suc k)) (x ∷ []) some = some
empty_line-front (suc (suc k)) (x ∷ y ∷ a) some = some

here-front : (x k : ℕ) (a : List ℕ) → here x a ≡ false → here x (take k a) ≡ false
here-front x k a isnt = by (here x (take k a)) refl
  where
    by : (b : Bool) → here x (take k a) ≡ b → here x (take k a) ≡ false
    by false is = is
    by true is =
        let parts = and_parts (x == 10) (nat_lt 0 (empty_line (take k a))) is in
        let some : 0 < empty_line (take k a) = grind (arith, nat_tests, parts.1) in
        let more = empty_line-front k a some in
        absurd (grind (arith, nat_tests, more, parts.0, isnt))

pub head_length-own : (a : List ℕ) (n : ℕ) → head_length a ≡ Some n → head_length (take n a) ≡ Some n
head_length-own [] n e = cc
head_length-own (x ∷ a) n e = go (here x a) refl e (λ k ek. head_length-own a k ek)
  where
    go : (c : Bool) → here x a ≡ c
        → (if c then Some (suc (empty_line a)) else option_map (λ k. suc k) (head_length a)) ≡ Some n
        → ((k : ℕ) → head_length a ≡ Some k → head_length (take k a) ≡ Some k) → head_length (take n (x ∷ a)) ≡ Some n
    go true t e later =
        let is : n ≡ suc (empty_line a) = cc in
        let parts = and_parts (x == 10) (nat_lt 0 (empty_line a)) t in
        let some : 0 < empty_line a = grind (arith, nat_tests, parts.1) in
        let same = empty_line-own a in
        let still : here x (take (empty_line a) a) ≡ true = rw same t in
        rw (is, still) (ap (λ (k : ℕ). Some (suc k)) same)
    go false t e later =
        let (k, found, nk) = suc-some (head_length a) n e in
        rw (nk, here-front x k a t) (ap (option_map (λ m. suc m)) (later k found))

pub cut-fits : (a : List ℕ) → cut_length a ≤ length a
cut-fits a = by (head_length a) refl
  where
    by : (o : Option ℕ) → head_length a ≡ o → cut_or (length a) o ≤ length a
    by None is = omega arith
    by (Some n) is = (head_length-fits a n is).1

pub cut-some : (a : List ℕ) → 0 < length a → 0 < cut_length a
cut-some a some = by (head_length a) refl
  where
    by : (o : Option ℕ) → head_length a ≡ o → 0 < cut_or (length a) o
    by None is = some
    by (Some n) is = (head_length-fits a n is).0

pub cut-is : (a : List ℕ) → IsCut (take (cut_length a) a)
cut-is a = by (head_length a) refl
  where
    by : (o : Option ℕ) → head_length a ≡ o → IsCut (take (cut_or (length a) o) a)
    by None is = subst IsCut (sym (take_all (length a) a (omega arith))) (ap (cut_or (length a)) is)
    by (Some n) is =
        let fits = head_length-fits a n is in
        ap (cut_or (length (take n a))) (head_length-own a n is) ∙ sym (length-take-le n a fits.1)
