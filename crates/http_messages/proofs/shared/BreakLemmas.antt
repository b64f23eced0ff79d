-- CR and LF before a request.
use Rattle.std.proofs.Common.{◌≡◌, ◌∙◌, ◌<◌, ◌≤◌, ℕ, Bool, true, false, List, [], ◌∷◌, ◌++◌, refl, arith, length}
use Rattle.std.specs.Prelude.{if◌then◌else◌}
use Rattle.http_messages.specs.HeadEnds.{begins_with_break, is_break, skip_breaks}

pub skip-begins : (a : List ℕ) → begins_with_break (skip_breaks a) ≡ false
skip-begins [] = refl
skip-begins (x ∷ a) = go (is_break x) refl (skip-begins a)
  where
    go : (c : Bool) → is_break x ≡ c → begins_with_break (skip_breaks a) ≡ false → begins_with_break (if c then skip_breaks a else x ∷ a) ≡ false
    go true e later = later
    go false e later = e

-- bytes that begin with none stay as they are
pub skip-none : (a : List ℕ) → begins_with_break a ≡ false → skip_breaks a ≡ a
skip-none [] e = refl
skip-none (x ∷ a) e = rw e refl

pub skip-twice : (a : List ℕ) → skip_breaks (skip_breaks a) ≡ skip_breaks a
skip-twice a = skip-none (skip_breaks a) (skip-begins a)

pub skip-fits : (a : List ℕ) → length (skip_breaks a) ≤ length a
skip-fits [] = omega arith
skip-fits (x ∷ a) = go (is_break x) (skip-fits a)
  where
    go : (c : Bool) → length (skip_breaks a) ≤ length a → length (if c then skip_breaks a else x ∷ a) ≤ length (x ∷ a)
    go true h = omega arith
    go false h = omega arith

pub skip-append : (a b : List ℕ) → skip_breaks (a ++ b) ≡ skip_breaks (skip_breaks a ++ b)
skip-append [] b = refl
skip-append (x ∷ a) b = go (is_break x) refl (skip-append a b)
  where
    go : (c : Bool) → is_break x ≡ c → skip_breaks (a ++ b) ≡ skip_breaks (skip_breaks a ++ b)
        → (if c then skip_breaks (a ++ b) else x ∷ (a ++ b)) ≡ skip_breaks ((if c then skip_breaks a else x ∷ a) ++ b)
    go true e later = later
    go false e later = rw e refl

begins-append : (a b : List ℕ) → 0 < length a → begins_with_break a ≡ false → begins_with_break (a ++ b) ≡ false
begins-append [] b some e = absurd (omega arith)
begins-append (x ∷ a) b some e = e

pub skip-some : (a b : List ℕ) → 0 < length (skip_breaks a) → skip_breaks (a ++ b) ≡ skip_breaks a ++ b
skip-some a b some = skip-append a b ∙ skip-none (skip_breaks a ++ b) (begins-append (skip_breaks a) b some (skip-begins a))
