use Rattle.std.proofs.Common.{◌≡◌, length, take}
use Rattle.ql_eval.specs.Written.{HasWritten}
use Rattle.ql_eval.specs.internal.Metering.{IsCounted}
use Rattle.ql_eval.specs.internal.Printing.{name_lines}
use Rattle.ql_eval.proofs.print.print_names.Given as goal

abbrev pub invariant-loop-name : goal.invariant-loop-name
invariant-loop-name g l = record {
  kept : g.T.Sink.kept l.sink ≡ g.T.Sink.kept l.fn.sink;
  written : HasWritten (g.T.Sink.stands l.fn.sink) (g.T.Sink.stands l.sink) (name_lines l.form (take l.name-index l.names));
  counted : IsCounted l.fn.meter.spent l.meter.spent (length (name_lines l.form (take l.name-index l.names)));
}
