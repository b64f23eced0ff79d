-- The letters of fields, and the kinds of objects that have them.
-- Source: Osmium's OPL manual.
use Rattle.std.specs.Prelude.{◌≡◌, ℕ, Bool, true, false}
use Rattle.osm_model.specs.declared.kind.Kind.{Kind}
use Rattle.osm_model.specs.declared.kind.Kind.TheVariants as kinds
use Rattle.osm_model.specs.Letters.{version_letter, visible_letter, changeset_letter, stamp_letter, uid_letter, user_letter, tags_letter, longitude_letter, latitude_letter, nodes_letter, members_letter}
use Rattle.opl_codec.specs.declared.line_letter.LineLetter.{LineLetter}
use Rattle.opl_codec.specs.declared.line_letter.LineLetter.TheVariants as letters

-- the byte of each letter
abbrev pub letter_byte : LineLetter → ℕ
letter_byte letters.Version = version_letter
letter_byte letters.Visible = visible_letter
letter_byte letters.Changeset = changeset_letter
letter_byte letters.Stamp = stamp_letter
letter_byte letters.Uid = uid_letter
letter_byte letters.User = user_letter
letter_byte letters.Tags = tags_letter
letter_byte letters.Lon = longitude_letter
letter_byte letters.Lat = latitude_letter
letter_byte letters.Nodes = nodes_letter
letter_byte letters.Members = members_letter

-- an object of this kind may have such a field
abbrev pub belongs : Kind → LineLetter → Bool
belongs kinds.Node letters.Nodes = false
belongs kinds.Node letters.Members = false
belongs kinds.Way letters.Lon = false
belongs kinds.Way letters.Lat = false
belongs kinds.Way letters.Members = false
belongs kinds.Rel letters.Lon = false
belongs kinds.Rel letters.Lat = false
belongs kinds.Rel letters.Nodes = false
belongs kind letter = true

-- the byte is a letter of such an object
abbrev pub IsLetterOf : Kind → ℕ → Type 0
IsLetterOf kind byte = (letter : LineLetter) × (letter_byte letter ≡ byte) × (belongs kind letter ≡ true)
