-- How long a canonical line is, field by field, and how many bytes of text an object has.
-- Source: this project.
use Rattle.std.specs.Prelude.{ℕ, ◌+◌, ◌*◌, ℤ, List, length}
use Rattle.std.specs.List.{sum_by}
use Rattle.osm_model.specs.Elements.{members_of, nodes_of}
use Rattle.osm_model.specs.CanonicalLine.{member_text, node_text, tag_text}
use Rattle.osm_model.specs.declared.tag.Tag.{Tag}
use Rattle.osm_model.specs.declared.member.Member.{Member}
use Rattle.osm_model.specs.declared.meta.Meta.{Meta}
use Rattle.osm_model.specs.declared.body.Body.{Body}

-- the bytes of a text, with the one that separates it from the next
abbrev pub spaced_one : List ℕ → ℕ
spaced_one text = length text + 1

-- the bytes of texts, each with the one that separates it from the next
abbrev pub spaced_len : List (List ℕ) → ℕ
spaced_len texts = sum_by spaced_one texts

-- the bytes of an item of a list, with the one that separates it from the next
abbrev pub tag_len : Tag → ℕ
tag_len tag = spaced_one (tag_text tag)

abbrev pub node_len : ℤ → ℕ
node_len id = spaced_one (node_text id)

abbrev pub member_len : Member → ℕ
member_len member = spaced_one (member_text member)

-- the bytes of a tag, and two more for `=` and the comma
abbrev pub tag_bytes : Tag → ℕ
tag_bytes tag = length tag.key + length tag.value + 2

-- the bytes of a member's role, and three more: eight times three bytes hold the rest of a member
abbrev pub member_bytes : Member → ℕ
member_bytes member = length member.role + 3

-- the bytes of an object's texts, with a few more for each item of its lists
abbrev pub text_bytes : Meta → List Tag → Body → ℕ
text_bytes meta tags body = length meta.user + sum_by tag_bytes tags + 3 * length (nodes_of body) + sum_by member_bytes (members_of body)
