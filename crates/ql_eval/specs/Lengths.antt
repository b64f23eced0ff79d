-- Lengths of texts, in 64 bits.
-- Source: this project.
use Rattle.std.specs.Prelude.{ℕ, ◌-◌, ◌^◌, min}

-- a greater number is told as the greatest one
abbrev pub saturating_u64 : ℕ → ℕ
saturating_u64 n = min n (2 ^ 64 - 1)
