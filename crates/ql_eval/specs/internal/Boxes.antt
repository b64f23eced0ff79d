-- What a range of cells asks, and which nodes in a box it has.
use Rattle.std.specs.Prelude.{◌≡◌, List}
use Rattle.std.specs.List.{Contains}
use Rattle.osm_model.specs.Boxes.{ExactBox, Holds}
use Rattle.osm_model.specs.Elements.{Element, reference}
use Rattle.osm_model.specs.Places.{Place}
use Rattle.osm_model.specs.declared.body.Body.TheVariants as bodies
use Rattle.osm_model.specs.declared.reference.Ref.{Ref}
use Rattle.tree_node.specs.declared.tree.Tree.TheVariants.{Cells}
use Rattle.tree_walk.specs.Ranges.{IsIn, Range}
use Rattle.osm_keys.specs.Keys.{cell_key}
use Rattle.ql_eval.specs.Questions.{Ask, Listed}

-- a node in the box whose key is in the range
abbrev pub IsFoundIn : List Element → ExactBox → Range → Ref → Type 0
IsFoundIn objects area range r =
    (o : Element) × (place : Place) × Contains objects o × (reference o ≡ r) × (o.body ≡ bodies.Node place) × IsIn range (cell_key place o.id) × Holds area place

abbrev pub IsCellsAsk : Range → Ask → Type 0
IsCellsAsk range ask = ask ≡ Listed Cells range

-- a node whose key is in the range, wherever it lies
abbrev pub IsInRange : List Element → Range → Ref → Type 0
IsInRange objects range r =
    (o : Element) × (place : Place) × Contains objects o × (reference o ≡ r) × (o.body ≡ bodies.Node place) × IsIn range (cell_key place o.id)

-- a node in the box
abbrev pub IsInBox : ExactBox → Element → Type 0
IsInBox area o = (place : Place) × (o.body ≡ bodies.Node place) × Holds area place
