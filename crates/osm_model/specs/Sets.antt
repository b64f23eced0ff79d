-- Sets of objects, each object once.
-- Source: ids are unique within a kind (OpenStreetMap API 0.6).
use Rattle.std.specs.Prelude.{List, All, Option, find}
use Rattle.std.specs.Ordering.{eq_by_cmp}
use Rattle.std.specs.List.{IsDistinct}
use Rattle.std.specs.List.Sorted.{IsStrictlySortedBy}
use Rattle.osm_model.specs.Elements.{Element, reference, references, ref_cmp}
use Rattle.osm_model.specs.Limits.{IsElement}
use Rattle.osm_model.specs.declared.reference.Ref.{Ref}

-- a set of objects, as the list of them by rising reference
pub record IsObjectSet (objects : List Element) : Type 0 where
  pub rising : IsStrictlySortedBy ref_cmp (references objects)
  pub elements : All IsElement objects

-- no two objects have one reference
abbrev pub HasDistinctReferences : List Element → Type 0
HasDistinctReferences objects = IsDistinct (eq_by_cmp ref_cmp) (references objects)

-- the object with this reference
abbrev pub object_at : List Element → Ref → Option Element
object_at objects r = find (λ o. eq_by_cmp ref_cmp (reference o) r) objects
