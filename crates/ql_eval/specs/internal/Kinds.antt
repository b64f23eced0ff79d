-- The first and the last of some kinds.
use Rattle.std.specs.Prelude.{Option, Some, None}
use Rattle.osm_model.specs.declared.kind.Kind.{Kind}
use Rattle.osm_model.specs.declared.kind.Kind.TheVariants as kinds

-- the first and the last of all kinds, or the one
abbrev pub first_of : Option Kind → Kind
first_of None = kinds.Node
first_of (Some kind) = kind

abbrev pub last_of : Option Kind → Kind
last_of None = kinds.Rel
last_of (Some kind) = kind
