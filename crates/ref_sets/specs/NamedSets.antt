-- The named sets of a query, and the same without where they lie in memory.
-- Source: the Overpass QL page of the OpenStreetMap wiki, "Sets".
use Rattle.std.specs.Prelude.{ℕ, List, [], ◌∷◌, bytes_eq, if◌then◌else◌}
use Rattle.osm_model.specs.declared.reference.Ref.{Ref}
use Rattle.ref_sets.specs.declared.named_set.NamedSet.{NamedSet}

-- a set of references for each name of the query
abbrev pub Env : Type 0
Env = List ℕ → List Ref

-- a set is given this name
abbrev pub put : List ℕ → List Ref → Env → Env
put into refs env name = if bytes_eq into name then refs else env name

-- a name that was never written is an empty set
abbrev pub nothing_named : Env
nothing_named name = []

-- what each name has: the first set with it, and none where no set has it
abbrev pub lists_of : List NamedSet → Env
lists_of [] name = []
lists_of (set ∷ sets) name = if bytes_eq set.name.now name then set.refs.value else lists_of sets name
