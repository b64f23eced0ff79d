use Rattle.std.proofs.Common.{◌≡◌, ℕ, List, length, take}
use Rattle.tree_node.proofs.shared.OutcomeLaws.{uses}
use Rattle.osm_keys.specs.Publications.{IsPublication, Publication}
use Rattle.ql_eval.specs.Work.{HasNoClash}
use Rattle.ql_eval.specs.internal.Metering.{IsCounted}
use Rattle.ql_eval.specs.Written.{HasWritten}
use Rattle.ql_eval.specs.internal.Objects.{AreKnownThere}
use Rattle.ql_eval.specs.internal.Links.{AreThere, IsLineAsk}
use Rattle.ql_eval.specs.internal.Printing.{line_at, lines_at}
use Rattle.ql_eval.proofs.PrintLemmas.{HasPrinted}
use Rattle.ql_eval.proofs.print.print_objects.Given as goal

abbrev pub invariant-loop-name : goal.invariant-loop-name
invariant-loop-name g l = record {
  later : g.W.Source.later l.fn.source l.source;
  walked : g.W.Source.walked l.fn.source l.source;
  kept : g.T.Sink.kept l.sink ≡ g.T.Sink.kept l.fn.sink;
  wrote : (text : List ℕ) × HasWritten (g.T.Sink.stands l.fn.sink) (g.T.Sink.stands l.sink) text;
  there : AreKnownThere (g.W.Source.knows l.source) (take l.name-index l.names);
  answer : (p : Publication) → IsPublication p → g.W.Source.under l.fn.source p → AreThere p.objects l.names
      → HasPrinted p l.names (IsLineAsk p) (line_at l.form p.objects l.mode) (g.W.Source.under l.source p) l.name-index (g.T.Sink.stands l.fn.sink) (g.T.Sink.stands l.sink)
      (uses (g.W.Source.holds l.source) (g.W.Source.used l.fn.source) (g.W.Source.used l.source));
  counted : (p : Publication) → IsPublication p → g.W.Source.under l.fn.source p → AreThere p.objects l.names → HasNoClash p (g.W.Source.used l.source)
      → IsCounted l.fn.meter.spent l.meter.spent (length (lines_at l.form p.objects l.mode (take l.name-index l.names)));
}
