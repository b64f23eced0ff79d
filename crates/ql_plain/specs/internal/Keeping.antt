-- Sets that have just those objects of a list of which something is so, and perhaps references of no object.
use Rattle.std.specs.Prelude.{List, ◌↔◌}
use Rattle.std.specs.List.{Contains}
use Rattle.osm_model.specs.Elements.{Element, reference}
use Rattle.osm_model.specs.declared.reference.Ref.{Ref}

abbrev pub Keeps : List Element → List Ref → (Element → Type 0) → Type 0
Keeps objects refs P = (o : Element) → Contains objects o → Contains refs (reference o) ↔ P o
