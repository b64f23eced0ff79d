-- Kinds in their order: nodes, ways, relations.
-- Source: this project.
use Rattle.std.specs.Prelude.{◌≤◌}
use Rattle.osm_model.specs.Elements.{kind_byte}
use Rattle.osm_model.specs.declared.kind.Kind.{Kind}
use Rattle.osm_model.specs.declared.reference.Ref.{Ref}

-- the kind of the reference is from the first to the last
pub record IsBetween (first last : Kind) (r : Ref) : Type 0 where
  pub not_below : kind_byte first ≤ kind_byte r.kind
  pub not_above : kind_byte r.kind ≤ kind_byte last
