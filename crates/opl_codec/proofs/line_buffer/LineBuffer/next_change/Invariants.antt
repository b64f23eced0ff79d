use Rattle.std.proofs.Common.{◌≡◌, true, ◌+◌, ◌-◌, ◌^◌}
use Rattle.opl_codec.specs.LineReaders.{place}
use Rattle.opl_codec.specs.internal.Buffering.{GoesOn, SkippedTo}
use Rattle.opl_codec.proofs.line_buffer.LineBuffer.next_change.Given as goal

abbrev pub invariant-loop-change : goal.invariant-loop-change
invariant-loop-change g l = record {
  goes_on : GoesOn (g.R.Read.remaining l.reader) l.self;
  come : SkippedTo (place (g.R.Read.remaining l.initial.reader) l.initial.self) (place (g.R.Read.remaining l.reader) l.self);
  over : l.initial.self.is_ended ≡ true → (l.self ≡ l.initial.self) × (l.reader ≡ l.initial.reader);
}

abbrev pub decreases-loop-change : goal.decreases-loop-change
decreases-loop-change g l = 2 ^ 48 + 1 - l.self.lines
