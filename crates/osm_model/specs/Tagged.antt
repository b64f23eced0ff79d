-- Which tags an object has.
-- Source: the element model of the OpenStreetMap API 0.6.
use Rattle.std.specs.Prelude.{◌≡◌, ℕ, List}
use Rattle.std.specs.List.{Contains}
use Rattle.osm_model.specs.Elements.{Element}
use Rattle.osm_model.specs.declared.tag.Tag.{Tag}

-- one of the object's tags has this key
abbrev pub HasKeyOf : Element → List ℕ → Type 0
HasKeyOf o key = (tag : Tag) × Contains o.tags tag × (tag.key ≡ key)

-- one of the object's tags has this key and this value
abbrev pub HasTag : Element → List ℕ → List ℕ → Type 0
HasTag o key value = (tag : Tag) × Contains o.tags tag × (tag.key ≡ key) × (tag.value ≡ value)
