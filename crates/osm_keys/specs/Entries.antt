-- What the four trees of a set of objects hold.
-- Source: this project's trees, docs/FORMATS.md.
use Rattle.std.specs.List.{Contains}
use Rattle.std.specs.Prelude.{◌≡◌, ◌↔◌, ℕ, ℤ, List, [], None}
use Rattle.osm_model.specs.CanonicalLine.{canonical_line}
use Rattle.osm_model.specs.Elements.{Element, reference}
use Rattle.osm_model.specs.Membership.{BodyLists}
use Rattle.osm_model.specs.Places.{Place}
use Rattle.osm_model.specs.declared.body.Body.TheVariants as bodies
use Rattle.osm_model.specs.declared.reference.Ref.{Ref}
use Rattle.osm_model.specs.declared.tag.Tag.{Tag}
use Rattle.tree_node.specs.Nodes.{AreRisingFrom, Binding, keys_of}
use Rattle.tree_node.specs.declared.tree.Tree.{Tree}
use Rattle.tree_node.specs.declared.tree.Tree.TheVariants.{Objects, Tags, Cells, Backs}
use Rattle.osm_keys.specs.FineKeys.{fine_cell_key, fine_cell_value}
use Rattle.osm_keys.specs.Grains.{Grain, Lines, Whole}
use Rattle.osm_keys.specs.Keys.{back_key, cell_key, cell_value, ref_key, tag_key}
use Rattle.osm_keys.specs.Lines.{digest_of_line}

-- ---- what depends on where the lines are

-- what the object tree says of an object: its line, or the digest of its line
abbrev pub object_value : Grain → Element → List ℕ
object_value Whole o = canonical_line o
object_value Lines o = digest_of_line o

-- what the trees of tags and of back references say of it: nothing, or the digest of its line
abbrev pub named_value : Grain → Element → List ℕ
named_value Whole o = []
named_value Lines o = digest_of_line o

-- the cell of a place, with a node's id
abbrev pub placed_key : Grain → Place → ℤ → List ℕ
placed_key Whole place id = cell_key place id
placed_key Lines place id = fine_cell_key place id

-- what the cell tree says of a node in that place: the place; or its latitude, which the key doesn't tell, and the digest of
-- its line
abbrev pub placed_value : Grain → Place → Element → List ℕ
placed_value Whole place o = cell_value place
placed_value Lines place o = fine_cell_value place.lat (digest_of_line o)

-- ---- entries

-- an object under its reference
abbrev pub object_entry : Grain → Element → Binding
object_entry grain o = record { key = ref_key (reference o); value = object_value grain o }

-- an object under one of its tags
abbrev pub tag_entry : Grain → List ℕ → List ℕ → Element → Binding
tag_entry grain key value o = record { key = tag_key key value (reference o); value = named_value grain o }

-- a node of the map, which lies here, under its cell
abbrev pub cell_entry : Grain → Place → Element → Binding
cell_entry grain place o = record { key = placed_key grain place o.id; value = placed_value grain place o }

-- an object under one that it lists
abbrev pub back_entry : Grain → Ref → Element → Binding
back_entry grain target o = record { key = back_key target (reference o); value = named_value grain o }

-- The tree has this entry for the object. An object that this one lists needn't be in the set.
abbrev pub IsEntryOf : Grain → Element → Tree → Binding → Type 0
IsEntryOf grain o Objects b = b ≡ object_entry grain o
IsEntryOf grain o Tags b = (tag : Tag) × Contains o.tags tag × (b ≡ tag_entry grain tag.key tag.value o)
IsEntryOf grain o Cells b = (place : Place) × (o.body ≡ bodies.Node place) × (b ≡ cell_entry grain place o)
IsEntryOf grain o Backs b = (target : Ref) × BodyLists o.body target × (b ≡ back_entry grain target o)

-- the tree has this entry for one of the objects
abbrev pub IsEntryOfSome : Grain → List Element → Tree → Binding → Type 0
IsEntryOfSome grain objects tree b = (o : Element) × Contains objects o × IsEntryOf grain o tree b

-- the entries of a tree of these objects, in order of their keys, each once
pub record AreEntriesOf (grain : Grain) (objects : List Element) (tree : Tree) (entries : List Binding) : Type 0 where
  pub rising : AreRisingFrom None (keys_of entries)
  pub members : (b : Binding) → Contains entries b ↔ IsEntryOfSome grain objects tree b
