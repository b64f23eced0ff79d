-- The budgets that two texts write.
use Rattle.std.proofs.Common.{◌≡◌, ℕ, Option, Some, codes, lit<}
use Rattle.command_line.specs.Numbers.{IsNumberOrNone, IsNumberText}

-- `0`
pub no_budget : (most : Option ℕ) → IsNumberOrNone 64 (Some (codes "0")) most → most ≡ Some 0
no_budget most read = read.0 is
  where
    is : IsNumberText 64 (codes "0")
    is = ((lit< tt, (lit< tt, tt)), lit< tt)

-- the greatest u64
pub greatest_budget : (most : Option ℕ) → IsNumberOrNone 64 (Some (codes "18446744073709551615")) most → most ≡ Some 18446744073709551615
greatest_budget most read = read.0 is
  where
    is : IsNumberText 64 (codes "18446744073709551615")
    is = ((lit< tt, (lit< tt, (lit< tt, (lit< tt, (lit< tt, (lit< tt, (lit< tt, (lit< tt, (lit< tt, (lit< tt, (lit< tt, (lit< tt, (lit< tt, (lit< tt, (lit< tt, (lit< tt, (lit< tt, (lit< tt, (lit< tt, (lit< tt, (lit< tt, tt))))))))))))))))))))), lit< tt)
