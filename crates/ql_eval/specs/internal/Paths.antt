-- Where paths lead, of a kind or of all kinds.
use Rattle.std.specs.Prelude.{List, Option}
use Rattle.osm_model.specs.Elements.{Element}
use Rattle.osm_model.specs.declared.kind.Kind.{Kind}
use Rattle.osm_model.specs.declared.reference.Ref.{Ref}
use Rattle.osm_keys.specs.Ranges.{IsKindOf}
use Rattle.ql_syntax.specs.declared.path.Path.{Path}
use Rattle.ql_meaning.specs.Values.{IsBelow, IsOnPath, IsRefOf}

-- the path leads from the set to an object with this reference, and it is of the kind
abbrev pub IsAt : List Element → List Ref → Option Kind → Path → Ref → Type 0
IsAt objects set kind path r = IsKindOf kind r × IsRefOf objects (IsOnPath objects set path) r

-- some object of the one kind in the set is a parent of the object with this reference, which is of the other kind
abbrev pub IsBelowOf : List Element → List Ref → Kind → Option Kind → Ref → Type 0
IsBelowOf objects set from kind r = IsKindOf kind r × IsRefOf objects (IsBelow objects set from) r
