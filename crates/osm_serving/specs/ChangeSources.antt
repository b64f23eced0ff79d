-- What sources of change files say.
-- Source: this project.
use Rattle.std.specs.Prelude.{ℕ, List, Option, Some, None, Result, Ok, Err}
use Rattle.osm_desk.specs.Published.{FoundFile, file, nothing}
use Rattle.osm_serving.specs.declared.root_line.RootLine.{RootLine}

-- what was found, where the bytes of a reader are these
abbrev pub found_in : {R E : Type 0} → (R → Option (List ℕ)) → Result (Option R) E → FoundFile
found_in bytes (Ok (Some reader)) = file (bytes reader)
found_in bytes (Ok None) = nothing
found_in bytes (Err fault) = nothing

-- a source of change files that is looked at, and whether each of its files has to say which root it gives
pub record Watch (C : Type 0) : Type 0 where
  pub source : C
  pub root_line : RootLine
