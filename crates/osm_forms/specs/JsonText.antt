-- The JSON object of an element in each mode.
-- Source: RFC 8259, section 7, for strings, with the shortest escapes; the names of the members are those of the Overpass
-- API's JSON (OpenStreetMap wiki, "Overpass API/Output formats"); their order, that nothing stands between two tokens,
-- and that what isn't known of the last change is left out, are this project's.
use Rattle.std.specs.Prelude.{ℕ, ℤ, pos, if◌then◌else◌, List, [], ◌∷◌, ◌++◌, map, Option, Some, None, codes}
use Rattle.std.specs.Ordering.{int_eq}
use Rattle.std.specs.Fmt.{signed_decimal}
use Rattle.std.specs.List.{join_with_byte}
use Rattle.osm_model.specs.Bytes.{comma}
use Rattle.osm_model.specs.CanonicalDegrees.{degrees}
use Rattle.osm_model.specs.CanonicalLine.{moment}
use Rattle.osm_model.specs.Elements.{Element, reference}
use Rattle.osm_model.specs.Moments.{Moment}
use Rattle.osm_model.specs.declared.tag.Tag.{Tag}
use Rattle.osm_model.specs.declared.member.Member.{Member}
use Rattle.osm_model.specs.declared.meta.Meta.{Meta}
use Rattle.osm_model.specs.declared.reference.Ref.{Ref}
use Rattle.osm_model.specs.declared.body.Body.{Body}
use Rattle.osm_model.specs.declared.body.Body.TheVariants as bodies
use Rattle.osm_model.specs.declared.out_mode.OutMode.{OutMode}
use Rattle.osm_model.specs.declared.out_mode.OutMode.TheVariants as modes
use Rattle.json.specs.Print.{quoted}
use Rattle.osm_forms.specs.Words.{kind_word}

-- ---- strings

-- a text between quotes: its UTF-8 as it stands, but for the bytes that a string can't hold
unfoldable pub json_string : List ℕ → List ℕ
json_string text = quoted text

-- ---- what is known of the last change

-- a number after its name, where it is known
abbrev pub json_number : List ℕ → ℤ → List ℕ
json_number name z = if int_eq z (pos 0) then [] else name ++ signed_decimal z

abbrev pub json_moment : Option Moment → List ℕ
json_moment None = []
json_moment (Some m) = codes ",\"timestamp\":\"" ++ (moment (Some m) ++ codes "\"")

abbrev pub json_user : List ℕ → List ℕ
json_user [] = []
json_user (b ∷ bytes) = codes ",\"user\":" ++ json_string (b ∷ bytes)

abbrev pub json_change : Meta → List ℕ
json_change m = json_moment m.stamp ++ (json_number (codes ",\"version\":") (pos m.version) ++ json_number (codes ",\"changeset\":") m.changeset)

abbrev pub json_author : Meta → List ℕ
json_author m = json_user m.user ++ json_number (codes ",\"uid\":") m.uid

abbrev pub json_meta : Meta → List ℕ
json_meta m = json_change m ++ json_author m

-- ---- lists

unfoldable pub json_tag : Tag → List ℕ
json_tag tag = json_string tag.key ++ (codes ":" ++ json_string tag.value)

-- nothing where there are none
abbrev pub json_tags : List Tag → List ℕ
json_tags [] = []
json_tags (tag ∷ tags) = codes ",\"tags\":{" ++ (join_with_byte comma (map json_tag (tag ∷ tags)) ++ codes "}")

abbrev pub json_target : Ref → List ℕ
json_target r = codes "{\"type\":\"" ++ (kind_word r.kind ++ (codes "\",\"ref\":" ++ signed_decimal r.id))

abbrev pub json_role : List ℕ → List ℕ
json_role role = codes ",\"role\":" ++ (json_string role ++ codes "}")

unfoldable pub json_member : Member → List ℕ
json_member member = json_target member.target ++ json_role member.role

abbrev pub json_nodes : List ℤ → List ℕ
json_nodes nodes = codes ",\"nodes\":[" ++ (join_with_byte comma (map (λ id. signed_decimal id) nodes) ++ codes "]")

abbrev pub json_members : List Member → List ℕ
json_members members = codes ",\"members\":[" ++ (join_with_byte comma (map json_member members) ++ codes "]")

abbrev pub json_body : Body → List ℕ
json_body (bodies.Node place) = (codes ",\"lat\":" ++ degrees place.lat) ++ (codes ",\"lon\":" ++ degrees place.lon)
json_body (bodies.Way nodes) = json_nodes nodes
json_body (bodies.Rel members) = json_members members

-- ---- objects

-- the beginning: kind and id
abbrev pub json_ref : Ref → List ℕ
json_ref r = codes "{\"type\":\"" ++ (kind_word r.kind ++ (codes "\",\"id\":" ++ signed_decimal r.id))

-- what a mode keeps beside kind and id
abbrev pub json_rest : Element → OutMode → List ℕ
json_rest o modes.Ids = []
json_rest o modes.Tags = json_tags o.tags
json_rest o modes.Skel = json_body o.body
json_rest o modes.Body = json_body o.body ++ json_tags o.tags
json_rest o modes.Meta = json_meta o.meta ++ (json_body o.body ++ json_tags o.tags)

unfoldable pub json_of : Element → OutMode → List ℕ
json_of o mode = json_ref (reference o) ++ (json_rest o mode ++ codes "}")
