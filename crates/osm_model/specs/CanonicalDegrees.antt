-- The one canonical spelling of degrees.
-- Source: this project, within what Osmium's OPL manual allows.
use Rattle.std.specs.Prelude.{ℕ, ◌+◌, ◌/◌, ◌%◌, ◌^◌, ℤ, pos, negsuc, unsigned_abs, Bool, true, false, ◌==◌, if◌then◌else◌, List, [], ◌∷◌, ◌++◌, zero, suc}
use Rattle.std.specs.Fmt.{decimal}
use Rattle.osm_model.specs.Bytes.{dot, digit_zero}
use Rattle.osm_model.specs.Degrees.{sign}

abbrev pub is_negative : ℤ → Bool
is_negative (pos n) = false
is_negative (negsuc n) = true

-- k decimals of n, n below 10 ^ k, without zeros at the end
abbrev pub decimals_of : ℕ → ℕ → List ℕ
decimals_of zero n = []
decimals_of (suc k) n = if n == 0 then [] else (digit_zero + n / 10 ^ k) ∷ decimals_of k (n % 10 ^ k)

-- a point before decimals, where there are any
abbrev pub with_point : List ℕ → List ℕ
with_point [] = []
with_point (d ∷ ds) = dot ∷ (d ∷ ds)

-- the text of a value in 1e-7 degree: `-` where it is below 0, the whole degrees without leading
-- zeros, and decimals without zeros at the end, with no point where there are none
unfoldable pub degrees : ℤ → List ℕ
degrees z = sign (is_negative z) ++ (decimal (unsigned_abs z / 10000000) ++ with_point (decimals_of 7 (unsigned_abs z % 10000000)))
