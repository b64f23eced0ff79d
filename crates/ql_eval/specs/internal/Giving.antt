-- References that an evaluation was given.
use Rattle.std.specs.Prelude.{ℕ, List}
use Rattle.std.specs.List.{Contains}
use Rattle.osm_model.specs.declared.reference.Ref.{Ref}
use Rattle.ref_sets.specs.NamedSets.{Env}

-- each reference of the list was given
abbrev pub AllGiven : (Ref → Type 0) → List Ref → Type 0
AllGiven gave refs = (r : Ref) → Contains refs r → gave r

-- and so was each of all named sets
abbrev pub AllSetsGiven : (Ref → Type 0) → Env → Type 0
AllSetsGiven gave env = (name : List ℕ) → AllGiven gave (env name)
