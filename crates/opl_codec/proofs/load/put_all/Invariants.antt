use Rattle.std.proofs.Common.{◌+◌, ◌-◌, ◌^◌}
use Rattle.osm_model.specs.Elements.{references}
use Rattle.opl_codec.specs.Files.{PutSet}
use Rattle.opl_codec.specs.LineReaders.{place}
use Rattle.opl_codec.specs.internal.Buffering.{GoesOn}
use Rattle.opl_codec.specs.internal.Loading.{Knows, ReadsTo, start}
use Rattle.opl_codec.proofs.load.put_all.Given as goal

abbrev pub invariant-loop-line : goal.invariant-loop-line
invariant-loop-line g l = record {
  goes_on : GoesOn (g.R.Read.remaining l.reader) l.buffer;
  come : ReadsTo PutSet (start (g.R.Read.remaining l.initial.reader)) (place (g.R.Read.remaining l.reader) l.buffer) l.objects.items;
  known : Knows l.known (references l.objects.items);
}

abbrev pub decreases-loop-line : goal.decreases-loop-line
decreases-loop-line g l = 2 ^ 48 + 1 - l.buffer.lines
