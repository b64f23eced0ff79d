-- How a record stands in a run: the length of its key in two bytes, that of its value in four, the key, the value.
-- Source: this project.
use Rattle.std.specs.Prelude.{ℕ, List, ◌++◌, length}
use Rattle.std.specs.Int.{w16, w32, to_be_bytes}
use Rattle.external_sort.specs.Records.{Entry}

abbrev pub spelled : Entry → List ℕ
spelled e = to_be_bytes w16 (length e.key) ++ (to_be_bytes w32 (length e.value) ++ (e.key ++ e.value))
