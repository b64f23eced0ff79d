-- The bytes of a text, wherever they lie.
use Rattle.std.specs.Prelude.{ℕ, List, string_bytes}
use Rattle.osm_model.specs.declared.text_storage.TextStorage.{TextStorage}
use Rattle.osm_model.specs.declared.text_storage.TextStorage.TheVariants.{Inline, Heap}

abbrev pub stored_bytes : TextStorage → List ℕ
stored_bytes (Inline text) = text.bytes
stored_bytes (Heap text) = string_bytes text
