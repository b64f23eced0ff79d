-- The bytes are the pieces that were read so far, one a round, and all within the limit.
use Rattle.std.proofs.Common.{◌≡◌, ◌≤◌, ◌+◌, ◌-◌, List, ℕ, length}
use Rattle.std.specs.List.{concat}
use Rattle.osm_commands.specs.WholeFiles.{AreRead}
use Rattle.osm_commands.specs.declared.front_reader.TheConstants.{READ_LIMIT}
use Rattle.osm_commands.proofs.front_reader.read_front.Given as goal

abbrev pub invariant-loop-reads : goal.invariant-loop-reads
invariant-loop-reads g l = record {
  few : l.reads ≤ READ_LIMIT;
  read : (pieces : List (List ℕ)) × AreRead (g.R.Read.remaining l.initial.reader) (g.R.Read.remaining l.reader) pieces
      × (length pieces ≡ l.reads) × (l.bytes.items ≡ concat pieces) × (length (concat pieces) + l.room ≡ l.initial.room);
}

abbrev pub decreases-loop-reads : goal.decreases-loop-reads
decreases-loop-reads g l = READ_LIMIT - l.reads
