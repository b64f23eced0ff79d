-- What a filter asks of an object alone.
-- Source: this project.
use Rattle.std.specs.Prelude.{◌≡◌, ⊤}
use Rattle.osm_model.specs.Boxes.{ExactBox, Holds}
use Rattle.osm_model.specs.Elements.{Element}
use Rattle.osm_model.specs.Places.{Place}
use Rattle.osm_model.specs.Tagged.{HasKeyOf, HasTag}
use Rattle.osm_model.specs.declared.body.Body.TheVariants as bodies
use Rattle.ql_syntax.specs.Filters.{Filter, InSet, HasKey, KeyIs, LacksKey, KeyIsNot, Ids, Within, Via}

-- a node in the box
abbrev pub IsNodeInBox : ExactBox → Element → Type 0
IsNodeInBox area o = (place : Place) × (o.body ≡ bodies.Node place) × Holds area place

-- the filter keeps the object, as far as the object alone tells
abbrev pub PassesAlone : Filter → Element → Type 0
PassesAlone (InSet name) o = ⊤
PassesAlone (HasKey key) o = HasKeyOf o key
PassesAlone (KeyIs key value) o = HasTag o key value
PassesAlone (LacksKey key) o = ¬ (HasKeyOf o key)
PassesAlone (KeyIsNot key value) o = ¬ (HasTag o key value)
PassesAlone (Ids ids) o = ⊤
PassesAlone (Within area) o = IsNodeInBox area o
PassesAlone (Via path name) o = ⊤
