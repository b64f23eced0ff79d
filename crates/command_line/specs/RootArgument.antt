-- The argument ROOT.
-- Source: this project; hexadecimal digits are those of `hex`.
use Rattle.std.specs.Prelude.{◌≡◌, length}
use Rattle.std.specs.List.{AllPass}
use Rattle.clap.specs.Words.{Text}
use Rattle.hex.specs.Hex.{is_hex_digit}

-- 64 hexadecimal digits, of either case
abbrev pub IsRootText : Text → Type 0
IsRootText text = (length text ≡ 64) × AllPass is_hex_digit text
