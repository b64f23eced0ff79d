-- The XML element of an object in each mode.
-- Source: XML 1.0, sections 2.2 (characters), 2.4 and 3.3.3 (what an attribute's value makes of blanks), 4.1 (references);
-- the names are those of the OpenStreetMap API 0.6. Their order, that nothing stands between two tags, that what isn't
-- known of the last change is left out, and that a character which XML 1.0 can't hold becomes U+FFFD, are this project's.
use Rattle.std.specs.Prelude.{ℕ, ℤ, pos, Bool, ◌==◌, ◌&&◌, ◌||◌, not, nat_le, if◌then◌else◌, List, [], ◌∷◌, ◌++◌, flat_map, Option, Some, None, chars, codes, encode_utf8}
use Rattle.std.specs.Ordering.{int_eq}
use Rattle.std.specs.Fmt.{signed_decimal}
use Rattle.osm_model.specs.Bytes.{carriage_return, double_quote, greater_than, less_than, line_feed, space, tab}
use Rattle.osm_model.specs.CanonicalDegrees.{degrees}
use Rattle.osm_model.specs.CanonicalLine.{moment}
use Rattle.osm_model.specs.Elements.{Element, kind_of, reference}
use Rattle.osm_model.specs.Moments.{Moment}
use Rattle.osm_model.specs.Places.{Place}
use Rattle.osm_model.specs.declared.tag.Tag.{Tag}
use Rattle.osm_model.specs.declared.member.Member.{Member}
use Rattle.osm_model.specs.declared.meta.Meta.{Meta}
use Rattle.osm_model.specs.declared.kind.Kind.{Kind}
use Rattle.osm_model.specs.declared.reference.Ref.{Ref}
use Rattle.osm_model.specs.declared.body.Body.{Body}
use Rattle.osm_model.specs.declared.body.Body.TheVariants as bodies
use Rattle.osm_model.specs.declared.out_mode.OutMode.{OutMode}
use Rattle.osm_model.specs.declared.out_mode.OutMode.TheVariants as modes
use Rattle.osm_forms.specs.Words.{kind_word}

-- ---- texts

abbrev pub ampersand : ℕ
ampersand = 38

-- a character that stands in an attribute's value as a reference: the marks, and the blanks that a reader would change
abbrev pub is_referred : ℕ → Bool
is_referred c = (c == ampersand) || ((c == less_than) || ((c == greater_than) || ((c == double_quote) || ((c == tab) || ((c == line_feed) || (c == carriage_return))))))

-- that reference
abbrev pub reference_to : ℕ → List ℕ
reference_to c =
    if c == ampersand then codes "&amp;"
    else if c == less_than then codes "&lt;"
    else if c == greater_than then codes "&gt;"
    else if c == double_quote then codes "&quot;"
    else if c == tab then codes "&#9;"
    else if c == line_feed then codes "&#10;"
    else codes "&#13;"

-- of the scalar values that aren't referred to: XML 1.0 has all from the space on but U+FFFE and U+FFFF
abbrev pub is_xml_character : ℕ → Bool
is_xml_character c = nat_le space c && not ((c == 0xFFFE) || (c == 0xFFFF))

-- the character that stands for one which XML can't hold
abbrev pub replacement : ℕ
replacement = 0xFFFD

abbrev pub xml_character : ℕ → List ℕ
xml_character c = if is_referred c then reference_to c else if is_xml_character c then encode_utf8 c else encode_utf8 replacement

unfoldable pub xml_text : List ℕ → List ℕ
xml_text text = flat_map xml_character (chars text)

-- ---- attributes

abbrev pub quote : List ℕ
quote = double_quote ∷ []

-- a number, where it is known
abbrev pub xml_number : List ℕ → ℤ → List ℕ
xml_number name z = if int_eq z (pos 0) then [] else name ++ (signed_decimal z ++ quote)

abbrev pub xml_moment : Option Moment → List ℕ
xml_moment None = []
xml_moment (Some m) = codes " timestamp=\"" ++ (moment (Some m) ++ quote)

abbrev pub xml_user : List ℕ → List ℕ
xml_user [] = []
xml_user (b ∷ bytes) = codes " user=\"" ++ (xml_text (b ∷ bytes) ++ quote)

abbrev pub xml_change : Meta → List ℕ
xml_change m = xml_number (codes " version=\"") (pos m.version) ++ (xml_moment m.stamp ++ xml_number (codes " changeset=\"") m.changeset)

abbrev pub xml_author : Meta → List ℕ
xml_author m = xml_number (codes " uid=\"") m.uid ++ xml_user m.user

abbrev pub xml_meta : Meta → List ℕ
xml_meta m = xml_change m ++ xml_author m

abbrev pub xml_degrees : List ℕ → ℤ → List ℕ
xml_degrees name z = name ++ (degrees z ++ quote)

abbrev pub xml_place : Place → List ℕ
xml_place place = xml_degrees (codes " lat=\"") place.lat ++ xml_degrees (codes " lon=\"") place.lon

-- where a node lies
abbrev pub xml_attributes : Body → List ℕ
xml_attributes (bodies.Node place) = xml_place place
xml_attributes (bodies.Way nodes) = []
xml_attributes (bodies.Rel members) = []

-- ---- what an element holds

abbrev pub xml_tag_key : List ℕ → List ℕ
xml_tag_key key = codes "<tag k=\"" ++ xml_text key

abbrev pub xml_tag_value : List ℕ → List ℕ
xml_tag_value value = codes "\" v=\"" ++ (xml_text value ++ codes "\"/>")

unfoldable pub xml_tag : Tag → List ℕ
xml_tag tag = xml_tag_key tag.key ++ xml_tag_value tag.value

unfoldable pub xml_node : ℤ → List ℕ
xml_node id = codes "<nd ref=\"" ++ (signed_decimal id ++ codes "\"/>")

abbrev pub xml_target : Ref → List ℕ
xml_target r = codes "<member type=\"" ++ (kind_word r.kind ++ (codes "\" ref=\"" ++ signed_decimal r.id))

abbrev pub xml_role : List ℕ → List ℕ
xml_role role = codes "\" role=\"" ++ (xml_text role ++ codes "\"/>")

unfoldable pub xml_member : Member → List ℕ
xml_member member = xml_target member.target ++ xml_role member.role

-- the nodes of a way, the members of a relation
abbrev pub xml_children : Body → List ℕ
xml_children (bodies.Node place) = []
xml_children (bodies.Way nodes) = flat_map (λ id. xml_node id) nodes
xml_children (bodies.Rel members) = flat_map (λ member. xml_member member) members

abbrev pub xml_tags : List Tag → List ℕ
xml_tags tags = flat_map (λ tag. xml_tag tag) tags

-- ---- objects

abbrev pub xml_id : ℤ → List ℕ
xml_id id = codes " id=\"" ++ (signed_decimal id ++ quote)

unfoldable pub xml_ref : Ref → List ℕ
xml_ref r = codes "<" ++ (kind_word r.kind ++ xml_id r.id)

-- the attributes that a mode keeps beside the id
abbrev pub xml_head : Element → OutMode → List ℕ
xml_head o modes.Ids = []
xml_head o modes.Tags = []
xml_head o modes.Skel = xml_attributes o.body
xml_head o modes.Body = xml_attributes o.body
xml_head o modes.Meta = xml_meta o.meta ++ xml_attributes o.body

-- what a mode keeps between the tags
abbrev pub xml_content : Element → OutMode → List ℕ
xml_content o modes.Ids = []
xml_content o modes.Tags = xml_tags o.tags
xml_content o modes.Skel = xml_children o.body
xml_content o modes.Body = xml_children o.body ++ xml_tags o.tags
xml_content o modes.Meta = xml_children o.body ++ xml_tags o.tags

abbrev pub xml_start : Element → OutMode → List ℕ
xml_start o mode = xml_ref (reference o) ++ (xml_head o mode ++ codes ">")

unfoldable pub xml_end : Kind → List ℕ
xml_end kind = codes "</" ++ (kind_word kind ++ codes ">")

unfoldable pub xml_of : Element → OutMode → List ℕ
xml_of o mode = xml_start o mode ++ (xml_content o mode ++ xml_end (kind_of o.body))
