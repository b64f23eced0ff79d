-- What is wanted of two lists.
use Rattle.std.specs.Prelude.{Bool, true, false}

-- this is so, or it isn't, as wanted
abbrev pub IsWanted : Bool → Type 0 → Type 0
IsWanted true P = P
IsWanted false P = ¬ P
