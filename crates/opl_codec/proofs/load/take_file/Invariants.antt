use Rattle.std.proofs.Common.{◌+◌, ◌-◌, ◌^◌}
use Rattle.opl_codec.specs.LineReaders.{place}
use Rattle.opl_codec.specs.internal.Buffering.{GoesOn}
use Rattle.opl_codec.specs.internal.Loading.{ReadsTo, SpellsFile, start}
use Rattle.opl_codec.proofs.load.take_file.Given as goal

abbrev pub invariant-loop-changes : goal.invariant-loop-changes
invariant-loop-changes g l = record {
  goes_on : GoesOn (g.R.Read.remaining l.reader) l.buffer;
  come : ReadsTo SpellsFile (start (g.R.Read.remaining l.initial.reader)) (place (g.R.Read.remaining l.reader) l.buffer) (l.changes.items, l.buffer.comment.items);
}

abbrev pub decreases-loop-changes : goal.decreases-loop-changes
decreases-loop-changes g l = 2 ^ 48 + 1 - l.buffer.lines
