-- What the XML of an element in each mode, and that of a document, say as trees.
-- Source: the names are those of the OpenStreetMap API 0.6.
use Rattle.std.specs.Prelude.{ℕ, ℤ, pos, ◌||◌, if◌then◌else◌, List, [], ◌∷◌, ◌++◌, map, flat_map, Option, Some, None, chars, codes, encode_utf8}
use Rattle.std.specs.Fmt.{signed_decimal}
use Rattle.std.specs.Ordering.{int_eq}
use Rattle.osm_model.specs.CanonicalDegrees.{degrees}
use Rattle.osm_model.specs.CanonicalLine.{moment}
use Rattle.osm_model.specs.Elements.{Element, kind_of}
use Rattle.osm_model.specs.Moments.{Moment}
use Rattle.osm_model.specs.declared.body.Body.{Body}
use Rattle.osm_model.specs.declared.body.Body.TheVariants as bodies
use Rattle.osm_model.specs.declared.member.Member.{Member}
use Rattle.osm_model.specs.declared.meta.Meta.{Meta}
use Rattle.osm_model.specs.declared.out_mode.OutMode.{OutMode}
use Rattle.osm_model.specs.declared.out_mode.OutMode.TheVariants as modes
use Rattle.osm_model.specs.declared.tag.Tag.{Tag}
use Rattle.osm_forms.specs.Words.{kind_word}
use Rattle.osm_form_laws.specs.XmlDocuments.{Attribute, Content, Tree, child, element, line_end, nothing}
use Rattle.osm_forms.specs.XmlText.{is_referred, is_xml_character, replacement}

-- ---- texts

-- a character, or U+FFFD for one that XML can't hold
abbrev pub held : ℕ → ℕ
held c = if (is_referred c || is_xml_character c) then c else replacement

-- the characters of a text as XML holds them
abbrev pub held_characters : List ℕ → List ℕ
held_characters text = map held (chars text)

-- and their UTF-8
abbrev pub held_text : List ℕ → List ℕ
held_text text = flat_map (λ c. encode_utf8 c) (held_characters text)

-- ---- attributes

abbrev pub attribute : List ℕ → List ℕ → Attribute
attribute name value = record { name = name; value = value }

abbrev pub known_number : List ℕ → ℤ → List Attribute
known_number name z = if int_eq z (pos 0) then [] else attribute name (signed_decimal z) ∷ []

abbrev pub known_moment : Option Moment → List Attribute
known_moment None = []
known_moment (Some m) = attribute (codes "timestamp") (moment (Some m)) ∷ []

abbrev pub known_user : List ℕ → List Attribute
known_user [] = []
known_user (b ∷ bytes) = attribute (codes "user") (held_characters (b ∷ bytes)) ∷ []

abbrev pub meta_attributes : Meta → List Attribute
meta_attributes m =
    (known_number (codes "version") (pos m.version) ++ (known_moment m.stamp ++ known_number (codes "changeset") m.changeset))
    ++ (known_number (codes "uid") m.uid ++ known_user m.user)

abbrev pub place_attributes : Body → List Attribute
place_attributes (bodies.Node place) = attribute (codes "lat") (degrees place.lat) ∷ attribute (codes "lon") (degrees place.lon) ∷ []
place_attributes (bodies.Way nodes) = []
place_attributes (bodies.Rel members) = []

-- the attributes that a mode keeps beside the id
abbrev pub kept_attributes : Element → OutMode → List Attribute
kept_attributes o modes.Ids = []
kept_attributes o modes.Tags = []
kept_attributes o modes.Skel = place_attributes o.body
kept_attributes o modes.Body = place_attributes o.body
kept_attributes o modes.Meta = meta_attributes o.meta ++ place_attributes o.body

-- ---- what an element holds

abbrev pub tag_tree : Tag → Tree
tag_tree tag = element (codes "tag") (attribute (codes "k") (held_characters tag.key) ∷ attribute (codes "v") (held_characters tag.value) ∷ []) nothing

abbrev pub node_tree : ℤ → Tree
node_tree id = element (codes "nd") (attribute (codes "ref") (signed_decimal id) ∷ []) nothing

abbrev pub member_tree : Member → Tree
member_tree m =
    element (codes "member")
    (attribute (codes "type") (kind_word m.target.kind) ∷ attribute (codes "ref") (signed_decimal m.target.id) ∷ attribute (codes "role") (held_characters m.role) ∷ []) nothing

abbrev pub body_trees : Body → List Tree
body_trees (bodies.Node place) = []
body_trees (bodies.Way nodes) = map node_tree nodes
body_trees (bodies.Rel members) = map member_tree members

-- what a mode keeps between the tags
abbrev pub kept_trees : Element → OutMode → List Tree
kept_trees o modes.Ids = []
kept_trees o modes.Tags = map tag_tree o.tags
kept_trees o modes.Skel = body_trees o.body
kept_trees o modes.Body = body_trees o.body ++ map tag_tree o.tags
kept_trees o modes.Meta = body_trees o.body ++ map tag_tree o.tags

-- ---- objects and documents

-- trees one after the other
abbrev pub children : List Tree → Content
children [] = nothing
children (tree ∷ trees) = child tree (children trees)

-- trees on lines of their own
abbrev pub lines : List Tree → Content
lines [] = nothing
lines (tree ∷ trees) = child tree (line_end (lines trees))

abbrev pub object_tree : Element → OutMode → Tree
object_tree o mode = element (kind_word (kind_of o.body)) (attribute (codes "id") (signed_decimal o.id) ∷ kept_attributes o mode) (children (kept_trees o mode))

abbrev pub document_tree : List Element → OutMode → Tree
document_tree objects mode =
    element (codes "osm") (attribute (codes "version") (codes "0.6") ∷ attribute (codes "generator") (codes "osm_mirror") ∷ []) (line_end (lines (map (λ o. object_tree o mode) objects)))

-- ---- objects as XML holds them

abbrev pub held_tag : Tag → Tag
held_tag tag = record { key = held_text tag.key; value = held_text tag.value }

abbrev pub held_member : Member → Member
held_member m = record { target = m.target; role = held_text m.role }

abbrev pub held_body : Body → Body
held_body (bodies.Node place) = bodies.Node place
held_body (bodies.Way nodes) = bodies.Way nodes
held_body (bodies.Rel members) = bodies.Rel (map held_member members)

-- the object with U+FFFD for each character of its texts that XML can't hold
abbrev pub held_element : Element → Element
held_element o = record {
  id = o.id;
  meta = record { version = o.meta.version; changeset = o.meta.changeset; stamp = o.meta.stamp; uid = o.meta.uid; user = held_text o.meta.user };
  tags = map held_tag o.tags;
  body = held_body o.body;
}
