use Rattle.std.proofs.Common.{ℕ, List, Option}
use Rattle.node_pack.specs.Packs.{Kept}
use Rattle.node_pack.specs.Sources.{IsOver}
use Rattle.node_pack.specs.declared.place.Place.{Place}
use Rattle.pack_update.proofs.places.read_known.Given as goal

abbrev pub invariant-loop-key : goal.invariant-loop-key
invariant-loop-key g l = (place_of : List ℕ → Option Place) (root : List ℕ) (old : List Kept)
    → IsOver g.F.ReadAt.reads place_of l.fn.source root old → IsOver g.F.ReadAt.reads place_of l.source root old
