-- What an output holds.
use Rattle.std.specs.Prelude.{ℕ, List}
use Rattle.osm_relay.specs.declared.output.Text.{Text}
use Rattle.osm_relay.specs.declared.output.Text.TheVariants.{Bytes, Starved}
use Rattle.osm_relay.specs.Pages.{starved}

abbrev pub bytes_of : Text → List ℕ
bytes_of (Bytes text) = text.items
bytes_of Starved = starved
