-- The bytes of a character other than NUL are none of them 0.
use Rattle.std.proofs.Common.{◌≢◌, ℕ, ◌+◌, ◌/◌, Bool, true, false, cond, ltb, [], ◌∷◌, arith}
use Rattle.std.specs.List.{AllByRecursion}
use lib.Utf8.{encode, next}

abbrev pub IsSome : ℕ → Type 0
IsSome byte = byte ≢ 0

by_length : (v : ℕ) (a b c : Bool) → v ≢ 0
    → AllByRecursion IsSome (cond a (v ∷ []) (cond b ((192 + v / 64) ∷ next v ∷ []) (cond c ((224 + v / 4096) ∷ next (v / 64) ∷ next v ∷ []) ((240 + v / 262144) ∷ next (v / 4096) ∷ next (v / 64) ∷ next v ∷ []))))
by_length v true b c some = (some, tt)
by_length v false true c some = (λ e. absurd (omega arith), (λ e. absurd (omega arith), tt))
by_length v false false true some = (λ e. absurd (omega arith), (λ e. absurd (omega arith), (λ e. absurd (omega arith), tt)))
by_length v false false false some = (λ e. absurd (omega arith), (λ e. absurd (omega arith), (λ e. absurd (omega arith), (λ e. absurd (omega arith), tt))))

pub encoded_some : (v : ℕ) → v ≢ 0 → AllByRecursion IsSome (encode v)
unfolding encode
encoded_some v some = by_length v (ltb v 128) (ltb v 2048) (ltb v 65536) some
