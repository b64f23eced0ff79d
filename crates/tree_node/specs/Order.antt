-- The order of byte strings: the first byte that differs decides, else the shorter is below.
-- Source: this project's trees, docs/FORMATS.md.
use Rattle.std.specs.Prelude.{◌≡◌, ℕ, List}
use Rattle.std.specs.Ordering.{nat_cmp}
use Rattle.std.specs.Cmp.Lexicographic.{slice_cmp}
use Rattle.std.specs.declared.cmp.Ordering.{Ordering}
use Rattle.std.specs.declared.cmp.Ordering.TheVariants.{Less}

-- how the first compares to the second
abbrev pub order : List ℕ → List ℕ → Ordering
order a b = slice_cmp nat_cmp a b

-- the first is below the second
abbrev pub IsBelow : List ℕ → List ℕ → Type 0
IsBelow a b = order a b ≡ Less
