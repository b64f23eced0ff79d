use Rattle.std.proofs.Common.{◌≡◌, ◌+◌, ◌-◌, ◌^◌, ◌∷◌, [], length, true}
use Rattle.std.specs.Io.KnownBytes.{Consumes, IsAtEnd, prepend_known}
use Rattle.byte_io.specs.Pieces.{pieces}
use Rattle.opl_codec.specs.LineReaders.{unread}
use Rattle.opl_codec.specs.internal.Buffering.{IsSound}
use Rattle.opl_codec.proofs.line_buffer.LineBuffer.take_line.Given as goal

abbrev pub invariant-loop-len : goal.invariant-loop-len
invariant-loop-len g l = record {
  read : Consumes (prepend_known (unread l.initial.self) (g.R.Read.remaining l.initial.reader)) (prepend_known (unread l.self) (g.R.Read.remaining l.reader)) l.self.pending.items;
  line : pieces 10 l.self.pending.items ≡ l.self.pending.items ∷ [];
  sound : IsSound l.self;
  taken : l.self.total + length (unread l.initial.self) ≡ l.initial.self.total + length l.self.pending.items + length (unread l.self);
  lines : l.self.lines ≡ l.initial.self.lines;
  comment : l.self.comment ≡ l.initial.self.comment;
  ended : l.initial.self.is_ended ≡ true → (l.self ≡ l.initial.self) × (l.reader ≡ l.initial.reader);
  end : l.self.is_ended ≡ true → IsAtEnd (g.R.Read.remaining l.reader);
}

abbrev pub decreases-loop-len : goal.decreases-loop-len
decreases-loop-len g l = 2 ^ 32 - l.self.pieces.reads
