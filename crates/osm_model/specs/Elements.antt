-- What an object is, apart from where it lies in memory.
-- Source: the element model of the OpenStreetMap API 0.6.
use Rattle.std.specs.Prelude.{ℕ, ℤ, Bool, ◌&&◌, List, [], map, nat_eq, bytes_eq}
use Rattle.std.specs.Ordering.{nat_cmp, int_cmp, int_eq, ordering_then}
use Rattle.std.specs.declared.cmp.Ordering.{Ordering}
use Rattle.osm_model.specs.declared.tag.Tag.{Tag}
use Rattle.osm_model.specs.declared.member.Member.{Member}
use Rattle.osm_model.specs.declared.reference.Ref.{Ref}
use Rattle.osm_model.specs.declared.kind.Kind.{Kind}
use Rattle.osm_model.specs.declared.kind.Kind.TheVariants as kinds
use Rattle.osm_model.specs.declared.meta.Meta.{Meta}
use Rattle.osm_model.specs.declared.body.Body.{Body}
use Rattle.osm_model.specs.declared.body.Body.TheVariants as bodies

-- an object
pub record Element : Type 0 where
  pub id : ℤ
  pub meta : Meta
  pub tags : List Tag
  pub body : Body

-- two tags have the same bytes
abbrev pub tag_eq : Tag → Tag → Bool
tag_eq a b = bytes_eq a.key b.key && bytes_eq a.value b.value

-- the kinds' bytes, in their order
abbrev pub kind_byte : Kind → ℕ
kind_byte kinds.Node = 1
kind_byte kinds.Way = 2
kind_byte kinds.Rel = 3

abbrev pub kind_of : Body → Kind
kind_of (bodies.Node place) = kinds.Node
kind_of (bodies.Way nodes) = kinds.Way
kind_of (bodies.Rel members) = kinds.Rel

-- the ids of the nodes that a body lists
abbrev pub nodes_of : Body → List ℤ
nodes_of (bodies.Node place) = []
nodes_of (bodies.Way nodes) = nodes
nodes_of (bodies.Rel members) = []

-- the members that a body lists
abbrev pub members_of : Body → List Member
members_of (bodies.Node place) = []
members_of (bodies.Way nodes) = []
members_of (bodies.Rel members) = members

-- what names an object
abbrev pub reference : Element → Ref
reference o = record { kind = kind_of o.body; id = o.id }

-- by kind, then by id
unfoldable pub ref_cmp : Ref → Ref → Ordering
ref_cmp a b = ordering_then (nat_cmp (kind_byte a.kind) (kind_byte b.kind)) (int_cmp a.id b.id)

-- two references name one object
abbrev pub ref_eq : Ref → Ref → Bool
ref_eq a b = nat_eq (kind_byte a.kind) (kind_byte b.kind) && int_eq a.id b.id

-- two members refer to one object and have the same role
abbrev pub member_eq : Member → Member → Bool
member_eq a b = ref_eq a.target b.target && bytes_eq a.role b.role

-- the keys of tags
abbrev pub keys : List Tag → List (List ℕ)
keys tags = map (λ tag. tag.key) tags

-- the references of objects
abbrev pub references : List Element → List Ref
references objects = map (λ o. reference o) objects
