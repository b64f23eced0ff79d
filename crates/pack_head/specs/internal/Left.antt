-- The lines of a text that weren't taken yet.
-- Source: this project.
use Rattle.std.specs.Borrow.{Bor}
use Rattle.std.specs.Prelude.{ℕ, List, [], Option, None, Some}
use Rattle.byte_io.specs.Pieces.{pieces}
use Rattle.pack_head.specs.Heads.{line_feed}
use Rattle.pack_head.specs.declared.lines.Lines.{Lines}

-- the lines of a text, if there is one
abbrev pub lines_of_rest : Option (Bor (List ℕ)) → List (List ℕ)
lines_of_rest None = []
lines_of_rest (Some text) = pieces line_feed text.now

abbrev pub lines_in : Lines → List (List ℕ)
lines_in lines = lines_of_rest lines.rest
