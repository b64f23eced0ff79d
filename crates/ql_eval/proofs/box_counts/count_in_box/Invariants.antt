use Rattle.std.proofs.Common.{ℕ, List, Ok}
use Rattle.tree_node.specs.Shelves.{Stays}
use Rattle.tree_node.proofs.shared.OutcomeLaws.{uses}
use Rattle.tree_walk.specs.WalksGiven.{HasGiven}
use Rattle.osm_keys.specs.Manifests.{top_among}
use Rattle.osm_keys.specs.Publications.{IsPublication, Publication}
use Rattle.ref_sets.specs.Adding.{From}
use Rattle.ql_eval.specs.Absences.{IsSound}
use Rattle.ql_eval.specs.Faults.{cause_of_evaluation}
use Rattle.ql_eval.specs.Openings.{IsUnder}
use Rattle.ql_eval.specs.Questions.{NeededBy}
use Rattle.ql_eval.specs.internal.Affording.{AreCounted, Within}
use Rattle.ql_eval.specs.internal.Boxes.{IsCellsAsk}
use Rattle.ql_eval.specs.internal.Objects.{NeverAbsent}
use Rattle.ql_eval.proofs.box_counts.count_in_box.Given as goal

abbrev pub invariant-loop-keys : goal.invariant-loop-keys
invariant-loop-keys g l = record {
  stays : Stays g.S.Shelf.is_fixed (g.S.Shelf.holds l.fn.shelf) (g.S.Shelf.holds l.shelf);
  grows : (bytes : List ℕ) → g.S.Shelf.used l.fn.shelf bytes → g.S.Shelf.used l.shelf bytes;
  walked : HasGiven (top_among l.manifest.tops) (IsSound NeverAbsent) (uses (g.S.Shelf.holds l.shelf) (g.S.Shelf.used l.fn.shelf) (g.S.Shelf.used l.shelf)) l.fn.tally.calls l.tally.calls l.fn.tally.fetches l.tally.fetches;
  answer : (p : Publication) → IsPublication p → IsUnder p l.manifest
      → Within cause_of_evaluation (λ (_ : Unit {0}). AreCounted p l.keys-items l.chains) (NeededBy p (From l.keys-items IsCellsAsk))
      (uses (g.S.Shelf.holds l.shelf) (g.S.Shelf.used l.fn.shelf) (g.S.Shelf.used l.shelf)) (Ok tt);
}
