-- What the parts of a line make: words of the reader's own clauses.
-- Source: this project.
use Rattle.std.specs.Prelude.{◌≡◌, ◌⊎◌, ℤ, List, [], Option, Some}
use Rattle.std.specs.Option.{unwrap_or}
use Rattle.osm_model.specs.Elements.{kind_of}
use Rattle.osm_model.specs.Places.{Place}
use Rattle.osm_model.specs.declared.body.Body.{Body}
use Rattle.osm_model.specs.declared.body.Body.TheVariants as bodies
use Rattle.osm_model.specs.declared.kind.Kind.{Kind}
use Rattle.osm_model.specs.declared.member.Member.{Member}

-- a coordinate is missing
abbrev pub LacksPlace : Option (Option ℤ) → Option (Option ℤ) → Type 0
LacksPlace lon lat = ((z : ℤ) → lon ≡ Some (Some z) → ⊥) ⊎ ((z : ℤ) → lat ≡ Some (Some z) → ⊥)

-- the body has this location, or these lists, which are empty where they are missing
abbrev pub HoldsParts : Option Place → Option (List ℤ) → Option (List Member) → Body → Type 0
HoldsParts place nodes members (bodies.Node own) = place ≡ Some own
HoldsParts place nodes members (bodies.Way own) = own ≡ unwrap_or nodes []
HoldsParts place nodes members (bodies.Rel own) = own ≡ unwrap_or members []

-- and is one of this kind
abbrev pub IsBodyWith : Kind → Option Place → Option (List ℤ) → Option (List Member) → Body → Type 0
IsBodyWith kind place nodes members body = (kind_of body ≡ kind) × HoldsParts place nodes members body
