-- Which objects the body of an object lists.
-- Source: the element model of the OpenStreetMap API 0.6.
use Rattle.std.specs.Prelude.{◌≡◌, map}
use Rattle.std.specs.List.{Contains}
use Rattle.osm_model.specs.declared.body.Body.{Body}
use Rattle.osm_model.specs.declared.body.Body.TheVariants as bodies
use Rattle.osm_model.specs.declared.kind.Kind.TheVariants as kinds
use Rattle.osm_model.specs.declared.member.Member.{Member}
use Rattle.osm_model.specs.declared.reference.Ref.{Ref}

-- the body has this reference in its list of nodes or among its members
abbrev pub BodyLists : Body → Ref → Type 0
BodyLists (bodies.Node place) r = ⊥
BodyLists (bodies.Way nodes) r = (r.kind ≡ kinds.Node) × Contains nodes r.id
BodyLists (bodies.Rel members) r = Contains (map (λ (member : Member). member.target) members) r
