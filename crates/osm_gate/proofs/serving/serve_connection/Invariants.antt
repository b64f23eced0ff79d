-- What was read so far has its responses, and the connection has its rest and is open.
use Rattle.std.proofs.Common.{◌-◌, ◌≤◌}
use Rattle.osm_gate.specs.declared.limits.TheConstants.{READ_LIMIT}
use Rattle.osm_gate.proofs.ServeLemmas.{Served}
use Rattle.osm_gate.proofs.serving.serve_connection.Given as goal

abbrev pub invariant-loop-reads : goal.invariant-loop-reads
invariant-loop-reads g l = record {
  few : l.reads ≤ READ_LIMIT;
  later : g.C.Connection.later l.initial.connection l.connection;
  served : Served (g.C.Connection.over l.initial.connection)
      (record {
        unread = g.R.Read.remaining l.initial.reader;
        left = g.R.Read.remaining l.reader;
        before = g.W.Write.contents l.initial.writer;
        after = g.W.Write.contents l.writer;
      })
      (g.C.Connection.rest l.connection) l.reads;
}

abbrev pub decreases-loop-reads : goal.decreases-loop-reads
decreases-loop-reads g l = READ_LIMIT - l.reads
