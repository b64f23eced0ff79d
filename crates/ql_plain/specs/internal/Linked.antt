-- Links of membership between the references of objects of a list.
use Rattle.std.specs.Prelude.{◌≡◌, List, ℤ, ◌↔◌}
use Rattle.std.specs.List.{Contains}
use Rattle.osm_model.specs.Elements.{Element, reference}
use Rattle.osm_model.specs.Membership.{BodyLists}
use Rattle.osm_model.specs.declared.kind.Kind.TheVariants as kinds
use Rattle.osm_model.specs.declared.member.Member.{Member}
use Rattle.osm_model.specs.declared.reference.Ref.{Ref}
use Rattle.ql_meaning.specs.Values.{IsParent}
use Rattle.ql_plain.specs.declared.links.Link.{Link}

-- an object of the list has the reference
abbrev pub IsThere : List Element → Ref → Type 0
IsThere objects r = (o : Element) × Contains objects o × (reference o ≡ r)

-- the link from this reference to one that is there
abbrev pub IsLinkTo : List Element → Ref → Ref → Link → Type 0
IsLinkTo objects parent child link = (link ≡ record { parent = parent; child = child }) × IsThere objects child

abbrev pub IsLinkToNode : List Element → Ref → ℤ → Link → Type 0
IsLinkToNode objects parent id = IsLinkTo objects parent (record { kind = kinds.Node; id = id })

abbrev pub IsLinkToMember : List Element → Ref → Member → Link → Type 0
IsLinkToMember objects parent member = IsLinkTo objects parent member.target

-- the link leads down from this object
abbrev pub IsLinkOf : List Element → Element → Link → Type 0
IsLinkOf objects parent link = (link.parent ≡ reference parent) × BodyLists parent.body link.child × IsThere objects link.child

-- the links are all those between objects of the list
abbrev pub AreLinks : List Element → List Link → Type 0
AreLinks objects links = (link : Link) → Contains links link ↔ ((parent child : Element) × IsParent objects parent child × (link ≡ record { parent = reference parent; child = reference child }))
