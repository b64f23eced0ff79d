-- The one canonical line of an object.
-- Source: the fields and their letters are those of Osmium's OPL manual; their order and spelling are
-- this project's.
use Rattle.std.specs.Prelude.{ℕ, ℤ, zero, suc, ◌+◌, ◌/◌, ◌%◌, ◌^◌, Bool, ◌==◌, ◌&&◌, ◌||◌, not, nat_le, nat_lt, if◌then◌else◌, List, [], ◌∷◌, ◌++◌, map, flat_map, Option, Some, None}
use Rattle.std.specs.Fmt.{decimal, signed_decimal}
use Rattle.std.specs.Str.{chars}
use Rattle.std.specs.Char.{digit_char}
use Rattle.std.specs.List.{join_with_byte}
use Rattle.osm_model.specs.Bytes.{at_sign, colon, comma, digit_zero, equals_sign, exclamation_mark, hyphen, percent, space, tilde}
use Rattle.osm_model.specs.CanonicalDegrees.{degrees}
use Rattle.osm_model.specs.Letters.{changeset_letter, latitude_letter, longitude_letter, members_letter, node_letter, nodes_letter, relation_letter, stamp_letter, tags_letter, time_mark, uid_letter, user_letter, version_letter, visible_letter, visible_mark, way_letter, zone_mark}
use Rattle.osm_model.specs.Moments.{Moment}
use Rattle.osm_model.specs.Elements.{Element, reference}
use Rattle.osm_model.specs.declared.tag.Tag.{Tag}
use Rattle.osm_model.specs.declared.member.Member.{Member}
use Rattle.osm_model.specs.declared.reference.Ref.{Ref}
use Rattle.osm_model.specs.declared.kind.Kind.{Kind}
use Rattle.osm_model.specs.declared.kind.Kind.TheVariants as kinds
use Rattle.osm_model.specs.declared.meta.Meta.{Meta}
use Rattle.osm_model.specs.declared.body.Body.{Body}
use Rattle.osm_model.specs.declared.body.Body.TheVariants as bodies

-- `%`, `,`, `=` and `@`
abbrev pub is_special : ℕ → Bool
is_special c = (c == percent) || (c == comma) || (c == equals_sign) || (c == at_sign)

-- from `!` to `~`, and not special: such a character stands for itself
abbrev pub is_literal : ℕ → Bool
is_literal c = nat_le exclamation_mark c && nat_le c tilde && not (is_special c)

-- how many hexadecimal digits a code point has, two at least
abbrev pub hex_places : ℕ → ℕ
hex_places c = if nat_lt c 0x100 then 2 else if nat_lt c 0x1000 then 3 else if nat_lt c 0x1_0000 then 4 else if nat_lt c 0x10_0000 then 5 else 6

-- the last k hexadecimal digits of n, in lower case
abbrev pub hex_digits : ℕ → ℕ → List ℕ
hex_digits zero n = []
hex_digits (suc k) n = digit_char (n / 16 ^ k % 16) ∷ hex_digits k n

-- a code point in hexadecimal digits
unfoldable pub hex : ℕ → List ℕ
hex c = hex_digits (hex_places c) c

-- a character as itself, or its code point between two `%`
abbrev pub escaped_char : ℕ → List ℕ
escaped_char c = if is_literal c then c ∷ [] else (percent ∷ hex c) ++ percent ∷ []

-- a text, character by character
unfoldable pub escaped : List ℕ → List ℕ
escaped text = flat_map escaped_char (chars text)

-- `n`, `w` or `r`
abbrev pub kind_letter : Kind → ℕ
kind_letter kinds.Node = node_letter
kind_letter kinds.Way = way_letter
kind_letter kinds.Rel = relation_letter

-- numbers below 100 and below 10,000, with leading zeros
abbrev pub two_digits : ℕ → List ℕ
two_digits n = (digit_zero + n / 10) ∷ (digit_zero + n % 10) ∷ []

abbrev pub four_digits : ℕ → List ℕ
four_digits n = two_digits (n / 100) ++ two_digits (n % 100)

-- `YYYY-MM-DDThh:mm:ssZ`, or nothing
unfoldable pub moment : Option Moment → List ℕ
moment None = []
moment (Some m) = four_digits m.year ++ (hyphen ∷ two_digits m.month) ++ (hyphen ∷ two_digits m.day) ++ (time_mark ∷ two_digits m.hour) ++ (colon ∷ two_digits m.minute) ++ (colon ∷ two_digits m.second) ++ (zone_mark ∷ [])

abbrev pub tag_text : Tag → List ℕ
tag_text tag = escaped tag.key ++ equals_sign ∷ escaped tag.value

-- the letter of a kind, and an id
abbrev pub reference_text : Ref → List ℕ
reference_text r = kind_letter r.kind ∷ signed_decimal r.id

-- a node in the list of a way
abbrev pub node_text : ℤ → List ℕ
node_text id = reference_text (record { kind = kinds.Node; id = id })

-- a member: what it refers to, `@`, its role
abbrev pub member_text : Member → List ℕ
member_text member = reference_text member.target ++ at_sign ∷ escaped member.role

-- the fields of a line, each with its letter
abbrev pub name_field : Element → List ℕ
name_field o = reference_text (reference o)

abbrev pub meta_fields : Meta → List (List ℕ)
meta_fields m =
    (version_letter ∷ decimal m.version)
    ∷ (visible_letter ∷ visible_mark ∷ [])
    ∷ (changeset_letter ∷ signed_decimal m.changeset)
    ∷ (stamp_letter ∷ moment m.stamp)
    ∷ (uid_letter ∷ signed_decimal m.uid)
    ∷ (user_letter ∷ escaped m.user)
    ∷ []

abbrev pub tags_field : List Tag → List ℕ
tags_field tags = tags_letter ∷ join_with_byte comma (map tag_text tags)

abbrev pub nodes_field : List ℤ → List ℕ
nodes_field nodes = nodes_letter ∷ join_with_byte comma (map node_text nodes)

abbrev pub members_field : List Member → List ℕ
members_field members = members_letter ∷ join_with_byte comma (map member_text members)

abbrev pub body_fields : Body → List (List ℕ)
body_fields (bodies.Node place) = (longitude_letter ∷ degrees place.lon) ∷ (latitude_letter ∷ degrees place.lat) ∷ []
body_fields (bodies.Way nodes) = nodes_field nodes ∷ []
body_fields (bodies.Rel members) = members_field members ∷ []

-- all fields of an object
abbrev pub all_fields : Element → List (List ℕ)
all_fields o = (name_field o ∷ meta_fields o.meta) ++ (tags_field o.tags ∷ body_fields o.body)

-- the object's line with all its fields, without its end
unfoldable pub canonical_line : Element → List ℕ
canonical_line o = join_with_byte space (all_fields o)
