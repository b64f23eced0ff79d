-- What an output holds.
use Rattle.std.specs.Prelude.{ℕ, List, [], Option, Some, None}
use Rattle.osm_traffic.specs.declared.output.Text.{Text}
use Rattle.osm_traffic.specs.declared.output.Text.TheVariants.{Answers, Fixed}

abbrev pub bytes_of : Text → List ℕ
bytes_of (Fixed text) = text.now
bytes_of (Answers unsent) = unsent

-- what a connection has coming, if it is here
abbrev pub coming : Option (List ℕ) → List ℕ
coming None = []
coming (Some bytes) = bytes
