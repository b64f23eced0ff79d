-- Entries as they are met, object by object, and as they are packed.
-- Source: this project.
use Rattle.std.specs.List.{flat_map}
use Rattle.std.specs.Prelude.{◌≡◌, ℕ, ℤ, List, [], ◌∷◌, ◌++◌, length, map}
use Rattle.osm_model.specs.Elements.{Element, reference}
use Rattle.osm_model.specs.Places.{Place}
use Rattle.osm_model.specs.declared.body.Body.{Body}
use Rattle.osm_model.specs.declared.body.Body.TheVariants as bodies
use Rattle.osm_model.specs.declared.kind.Kind.TheVariants as kinds
use Rattle.osm_model.specs.declared.member.Member.{Member}
use Rattle.osm_model.specs.declared.reference.Ref.{Ref}
use Rattle.osm_model.specs.declared.tag.Tag.{Tag}
use Rattle.tree_node.specs.Nodes.{Binding}
use Rattle.tree_node.specs.declared.tree.Tree.{Tree}
use Rattle.tree_node.specs.declared.tree.Tree.TheVariants.{Objects, Tags, Cells, Backs}
use Rattle.osm_keys.specs.Entries.{object_entry}
use Rattle.osm_keys.specs.Grains.{Whole}
use Rattle.osm_keys.specs.Keys.{back_key, cell_key, cell_value, tag_key}
use Rattle.osm_index.specs.declared.entry_list.Span.{Span}

-- ---- the entries of one object

-- the entry of a place, and of what an object lists, where the object tree has the lines
abbrev pub cell_of : Place → ℤ → Binding
cell_of place id = record { key = cell_key place id; value = cell_value place }

abbrev pub back_of : Ref → Ref → Binding
back_of target referrer = record { key = back_key target referrer; value = [] }

-- the entries for a body in the cell tree
abbrev pub cells_of : Body → ℤ → List Binding
cells_of (bodies.Node place) id = cell_of place id ∷ []
cells_of (bodies.Way nodes) id = []
cells_of (bodies.Rel members) id = []

-- a node that a way lists
abbrev pub node_back : Ref → ℤ → Binding
node_back referrer id = back_of (record { kind = kinds.Node; id = id }) referrer

-- an object that a relation lists
abbrev pub member_back : Ref → Member → Binding
member_back referrer member = back_of member.target referrer

-- the entries for a body in the back tree, one for each time that an object is listed
abbrev pub backs_of : Body → Ref → List Binding
backs_of (bodies.Node place) referrer = []
backs_of (bodies.Way nodes) referrer = map (node_back referrer) nodes
backs_of (bodies.Rel members) referrer = map (member_back referrer) members

-- the entry for a tag of an object
abbrev pub tag_of : Ref → Tag → Binding
tag_of r tag = record { key = tag_key tag.key tag.value r; value = [] }

-- the entries of a tree for one object, as they are met
abbrev pub entries_from : Tree → Element → List Binding
entries_from Objects o = object_entry Whole o ∷ []
entries_from Tags o = map (tag_of (reference o)) o.tags
entries_from Cells o = cells_of o.body o.id
entries_from Backs o = backs_of o.body (reference o)

-- ---- packed entries

abbrev pub text_of : Binding → List ℕ
text_of b = b.key ++ b.value

abbrev pub span_of : Binding → Span
span_of b = record { key = length b.key; value = length b.value }

-- these entries have been packed after what was there
pub record Gains (bytes more_bytes : List ℕ) (spans more_spans : List Span) (entries : List Binding) : Type 0 where
  pub texts : more_bytes ≡ bytes ++ flat_map text_of entries
  pub lengths : more_spans ≡ spans ++ map span_of entries
