-- The parts of a decimal in its text, as a decimal.
-- Source: this project.
use Rattle.std.specs.Borrow.{Bor}
use Rattle.std.specs.Prelude.{ℕ, List, Option, None, Some}
use Rattle.osm_model.specs.Degrees.{Decimal}
use Rattle.osm_model.specs.declared.decimal.Parts.{Parts}

-- the digits after a point, where there is one
abbrev pub fraction_of : Option (Bor (List ℕ)) → Option (List ℕ)
fraction_of None = None
fraction_of (Some digits) = Some digits.now

abbrev pub decimal_of : Parts → Decimal
decimal_of p = record { negative = p.negative; whole = p.whole.now; fraction = fraction_of p.fraction }
