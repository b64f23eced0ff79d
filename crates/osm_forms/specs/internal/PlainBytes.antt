-- Bytes with which a text goes into XML as it stands.
-- Source: this project.
use Rattle.std.specs.Prelude.{ℕ, Bool, ◌==◌, ◌||◌, not, nat_lt}
use Rattle.osm_model.specs.Bytes.{double_quote, greater_than, less_than, space}
use Rattle.osm_forms.specs.XmlText.{ampersand}

-- the byte begins no character that XML refers to or replaces: U+FFFE and U+FFFF begin with 0xEF
abbrev pub is_plain_byte : ℕ → Bool
is_plain_byte b = not (nat_lt b space || ((b == ampersand) || ((b == less_than) || ((b == greater_than) || ((b == double_quote) || (b == 0xEF))))))
