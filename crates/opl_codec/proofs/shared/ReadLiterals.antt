-- Texts of ASCII, and texts that aren't empty.
use Rattle.std.proofs.Common.{◌≡◌, ◌≢◌, ℕ, zero, suc, ◌<◌, List, [], ◌∷◌, length, get_or, Bool, true, false, ◌==◌, ap, arith}
use Rattle.std.specs.List.{AllByRecursion}
use Rattle.std.specs.Str.{IsAscii}

pub ascii_from : (bytes : List ℕ) → AllByRecursion (λ b. b < 128) bytes → IsAscii bytes
ascii_from [] all i = lit
  where
    lit : get_or [] i 0 < 128
    lit = omega arith
ascii_from (x ∷ bytes) all zero = all.0
ascii_from (x ∷ bytes) all (suc i) = ascii_from bytes all.1 i

pub not_empty : (b : Bool) (text : List ℕ) → b ≡ (length text == 0) → b ≡ false → text ≢ []
not_empty b text is h e = let zero : (length text == 0) ≡ true = ap (λ t. length t == 0) e in cc
