-- The place that a reader of lines has reached, as its buffer has it.
-- Source: this project.
use Rattle.std.specs.Prelude.{ℕ, ◌-◌, List, Option, drop, length}
use Rattle.std.specs.Io.KnownBytes.{prepend_known}
use Rattle.opl_codec.specs.LineReads.{LinePlace}
use Rattle.opl_codec.specs.declared.line_buffer.LineBuffer.{LineBuffer}

-- the bytes of the last piece that no line has yet
abbrev pub unread : LineBuffer → List ℕ
unread b = drop b.from b.pieces.last

-- the place that the buffer has reached, where the reader has these bytes left
abbrev pub place : Option (List ℕ) → LineBuffer → LinePlace
place known b = record { lines = b.lines; taken = b.total - length (unread b); left = prepend_known (unread b) known; is_ended = b.is_ended }
