use Rattle.std.proofs.Common.{ℕ, List, Option}
use Rattle.node_pack.specs.Packs.{Kept}
use Rattle.node_pack.specs.Sources.{IsOver}
use Rattle.node_pack.specs.declared.place.Place.{Place}
use Rattle.pack_update.proofs.places.learn.Given as goal

abbrev pub invariant-loop-before : goal.invariant-loop-before
invariant-loop-before g l = (place_of : List ℕ → Option Place) (root : List ℕ) (old : List Kept)
    → IsOver g.F.ReadAt.reads place_of l.fn.source root old → IsOver g.F.ReadAt.reads place_of l.source root old

abbrev pub decreases-loop-before : goal.decreases-loop-before
decreases-loop-before g l = l.before
