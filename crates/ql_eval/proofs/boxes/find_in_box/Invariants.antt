use Rattle.ql_eval.specs.TrueFaults.{IsNamedIn}
use Rattle.ql_eval.specs.internal.Giving.{AllGiven}
use Rattle.std.proofs.Common.{ℕ, List, []}
use Rattle.std.specs.Prelude.{⊤}
use Rattle.tree_node.specs.Shelves.{Stays}
use Rattle.tree_node.proofs.shared.OutcomeLaws.{uses}
use Rattle.tree_walk.specs.WalksGiven.{HasGiven}
use Rattle.osm_keys.specs.Manifests.{top_among}
use Rattle.ql_eval.specs.Absences.{IsSound}
use Rattle.ql_eval.specs.internal.Objects.{NeverAbsent}
use Rattle.osm_keys.specs.Publications.{IsPublication, Publication}
use Rattle.ql_eval.specs.Openings.{IsUnder}
use Rattle.ql_eval.specs.internal.Boxes.{IsCellsAsk, IsFoundIn, IsInRange}
use Rattle.ql_eval.proofs.LoopLemmas.{HasGone}
use Rattle.ql_eval.proofs.boxes.find_in_box.Given as goal

abbrev pub invariant-loop-keys : goal.invariant-loop-keys
invariant-loop-keys g l = record {
  stays : Stays g.S.Shelf.is_fixed (g.S.Shelf.holds l.fn.shelf) (g.S.Shelf.holds l.shelf);
  grows : (bytes : List ℕ) → g.S.Shelf.used l.fn.shelf bytes → g.S.Shelf.used l.shelf bytes;
  walked : HasGiven (top_among l.manifest.tops) (IsSound NeverAbsent) (uses (g.S.Shelf.holds l.shelf) (g.S.Shelf.used l.fn.shelf) (g.S.Shelf.used l.shelf)) l.fn.tally.calls l.tally.calls l.fn.tally.fetches l.tally.fetches;
  named : AllGiven (IsNamedIn (g.S.Shelf.used l.shelf) l.manifest) l.names.items;
  answer : (p : Publication) → IsPublication p → IsUnder p l.manifest
      → HasGone p l.keys-items (IsFoundIn p.objects l.area) IsCellsAsk ⊤ l.keys-index [] l.names.items (uses (g.S.Shelf.holds l.shelf) (g.S.Shelf.used l.fn.shelf) (g.S.Shelf.used l.shelf));
  read : (p : Publication) → IsPublication p → IsUnder p l.manifest
      → HasGone p l.keys-items (IsInRange p.objects) IsCellsAsk ⊤ l.keys-index [] l.cells.items (uses (g.S.Shelf.holds l.shelf) (g.S.Shelf.used l.fn.shelf) (g.S.Shelf.used l.shelf));
}
