-- What the JSON of an element in each mode, and that of a document, say as values.
-- Source: RFC 8259 for values; the names of the members are those of the Overpass API's JSON (OpenStreetMap wiki,
-- "Overpass API/Output formats").
use Rattle.std.specs.Prelude.{◌≡◌, ℤ, pos, ℕ, List, [], ◌∷◌, ◌++◌, map, if◌then◌else◌, Option, Some, None, codes}
use Rattle.std.specs.Fmt.{signed_decimal}
use Rattle.std.specs.Ordering.{int_eq}
use Rattle.json.specs.Json.{Json, Items, Members, array, document, item, member, no_items, no_members, number, object, string}
use Rattle.osm_model.specs.CanonicalDegrees.{degrees}
use Rattle.osm_model.specs.CanonicalLine.{moment}
use Rattle.osm_model.specs.Elements.{Element, kind_of}
use Rattle.osm_model.specs.Moments.{Moment}
use Rattle.osm_model.specs.declared.body.Body.{Body}
use Rattle.osm_model.specs.declared.body.Body.TheVariants as bodies
use Rattle.osm_model.specs.declared.member.Member.{Member}
use Rattle.osm_model.specs.declared.meta.Meta.{Meta}
use Rattle.osm_model.specs.declared.out_mode.OutMode.{OutMode}
use Rattle.osm_model.specs.declared.out_mode.OutMode.TheVariants as modes
use Rattle.osm_model.specs.declared.tag.Tag.{Tag}
use Rattle.osm_forms.specs.Words.{kind_word}

-- a member of an object: its name and its value
abbrev pub Named : Type 0
Named = List ℕ × Json

abbrev pub items_of : List Json → Items
items_of [] = no_items
items_of (value ∷ values) = item value (items_of values)

abbrev pub members_of : List Named → Members
members_of [] = no_members
members_of (named ∷ more) = member named.0 named.1 (members_of more)

abbrev pub array_of : List Json → Json
array_of values = array (items_of values)

abbrev pub object_of : List Named → Json
object_of members = object (members_of members)

-- the text is JSON, and says this value
abbrev pub SpellsJson : List ℕ → Json → Type 0
SpellsJson text value = document text ≡ Some value

-- ---- what is known of the last change

abbrev pub known_number : List ℕ → ℤ → List Named
known_number name z = if int_eq z (pos 0) then [] else (name, number (signed_decimal z)) ∷ []

abbrev pub known_moment : Option Moment → List Named
known_moment None = []
known_moment (Some m) = (codes "timestamp", string (moment (Some m))) ∷ []

abbrev pub known_user : List ℕ → List Named
known_user [] = []
known_user (b ∷ bytes) = (codes "user", string (b ∷ bytes)) ∷ []

abbrev pub change_members : Meta → List Named
change_members m = known_moment m.stamp ++ (known_number (codes "version") (pos m.version) ++ known_number (codes "changeset") m.changeset)

abbrev pub author_members : Meta → List Named
author_members m = known_user m.user ++ known_number (codes "uid") m.uid

abbrev pub meta_members : Meta → List Named
meta_members m = change_members m ++ author_members m

-- ---- tags and bodies

abbrev pub tag_member : Tag → Named
tag_member tag = (tag.key, string tag.value)

abbrev pub tags_members : List Tag → List Named
tags_members [] = []
tags_members (tag ∷ tags) = (codes "tags", object_of (map tag_member (tag ∷ tags))) ∷ []

abbrev pub member_value : Member → Json
member_value m = object_of ((codes "type", string (kind_word m.target.kind)) ∷ (codes "ref", number (signed_decimal m.target.id)) ∷ (codes "role", string m.role) ∷ [])

abbrev pub id_value : ℤ → Json
id_value id = number (signed_decimal id)

abbrev pub body_members : Body → List Named
body_members (bodies.Node place) = (codes "lat", number (degrees place.lat)) ∷ (codes "lon", number (degrees place.lon)) ∷ []
body_members (bodies.Way nodes) = (codes "nodes", array_of (map id_value nodes)) ∷ []
body_members (bodies.Rel members) = (codes "members", array_of (map member_value members)) ∷ []

-- ---- objects and documents

-- what a mode keeps beside kind and id
abbrev pub kept_members : Element → OutMode → List Named
kept_members o modes.Ids = []
kept_members o modes.Tags = tags_members o.tags
kept_members o modes.Skel = body_members o.body
kept_members o modes.Body = body_members o.body ++ tags_members o.tags
kept_members o modes.Meta = meta_members o.meta ++ (body_members o.body ++ tags_members o.tags)

abbrev pub object_members : Element → OutMode → List Named
object_members o mode = (codes "type", string (kind_word (kind_of o.body))) ∷ (codes "id", number (signed_decimal o.id)) ∷ kept_members o mode

unfoldable pub object_value : Element → OutMode → Json
object_value o mode = object_of (object_members o mode)

abbrev pub document_value : List Element → OutMode → Json
document_value objects mode = object_of ((codes "version", number (codes "0.6")) ∷ (codes "generator", string (codes "osm_mirror")) ∷ (codes "elements", array_of (map (λ o. object_value o mode) objects)) ∷ [])
