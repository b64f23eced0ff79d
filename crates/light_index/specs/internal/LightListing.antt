-- Entries as they are met, object by object, and as they are packed.
-- Source: this project.
use Rattle.std.specs.List.{flat_map}
use Rattle.std.specs.Prelude.{◌≡◌, ℕ, ℤ, List, [], ◌∷◌, ◌++◌, length, map}
use Rattle.light_index.specs.declared.light_entry_list.LightSpan.{LightSpan}
use Rattle.osm_keys.specs.Entries.{object_entry}
use Rattle.osm_keys.specs.FineKeys.{fine_cell_key, fine_cell_value}
use Rattle.osm_keys.specs.Grains.{Lines}
use Rattle.osm_keys.specs.Lines.{digest_of_line}
use Rattle.osm_keys.specs.Keys.{back_key, tag_key}
use Rattle.osm_model.specs.Elements.{Element, reference}
use Rattle.osm_model.specs.declared.body.Body.{Body}
use Rattle.osm_model.specs.declared.body.Body.TheVariants as bodies
use Rattle.osm_model.specs.declared.kind.Kind.TheVariants as kinds
use Rattle.osm_model.specs.declared.member.Member.{Member}
use Rattle.osm_model.specs.declared.reference.Ref.{Ref}
use Rattle.osm_model.specs.declared.tag.Tag.{Tag}
use Rattle.tree_node.specs.Nodes.{Binding}
use Rattle.tree_node.specs.declared.tree.Tree.{Tree}
use Rattle.tree_node.specs.declared.tree.Tree.TheVariants.{Objects, Tags, Cells, Backs}

-- ---- the entries of one object, by the digest of its line

-- the entry for a tag
abbrev pub tag_of : Ref → List ℕ → Tag → Binding
tag_of name line tag = record { key = tag_key tag.key tag.value name; value = line }

-- the entries for a body in the cell tree
abbrev pub cells_of : Body → ℤ → List ℕ → List Binding
cells_of (bodies.Node place) id line = record { key = fine_cell_key place id; value = fine_cell_value place.lat line } ∷ []
cells_of (bodies.Way nodes) id line = []
cells_of (bodies.Rel members) id line = []

-- an object that this one lists
abbrev pub back_of : Ref → List ℕ → Ref → Binding
back_of referrer line target = record { key = back_key target referrer; value = line }

-- a node that a way lists
abbrev pub node_back : Ref → List ℕ → ℤ → Binding
node_back referrer line id = back_of referrer line (record { kind = kinds.Node; id = id })

-- an object that a relation lists
abbrev pub member_back : Ref → List ℕ → Member → Binding
member_back referrer line member = back_of referrer line member.target

-- the entries for a body in the back tree, one for each time that an object is listed
abbrev pub backs_of : Body → Ref → List ℕ → List Binding
backs_of (bodies.Node place) referrer line = []
backs_of (bodies.Way nodes) referrer line = map (node_back referrer line) nodes
backs_of (bodies.Rel members) referrer line = map (member_back referrer line) members

-- the entries of a tree for one object, as they are met
abbrev pub light_entries_from : Tree → Element → List Binding
light_entries_from Objects o = object_entry Lines o ∷ []
light_entries_from Tags o = map (tag_of (reference o) (digest_of_line o)) o.tags
light_entries_from Cells o = cells_of o.body o.id (digest_of_line o)
light_entries_from Backs o = backs_of o.body (reference o) (digest_of_line o)

-- ---- packed entries

abbrev pub text_of : Binding → List ℕ
text_of b = b.key ++ b.value

abbrev pub span_of : Binding → LightSpan
span_of b = record { key = length b.key; value = length b.value }

-- these entries have been packed after what was there
pub record Gains (bytes more_bytes : List ℕ) (spans more_spans : List LightSpan) (entries : List Binding) : Type 0 where
  pub texts : more_bytes ≡ bytes ++ flat_map text_of entries
  pub lengths : more_spans ≡ spans ++ map span_of entries
