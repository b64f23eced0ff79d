use Rattle.std.proofs.Common.{◌≡◌, ℕ, List, Option}
use Rattle.node_pack.specs.Packs.{Kept}
use Rattle.node_pack.specs.Sources.{IsOver, Knows, root_in}
use Rattle.node_pack.specs.declared.place.Place.{Place}
use Rattle.node_pack.proofs.source.PackSource.go_down.Given as goal

-- what was known is known, and the source is over the same pack
abbrev pub invariant-loop : goal.invariant-loop
invariant-loop g l = record {
  announced : l.self.ahead.announced ≡ l.initial.self.ahead.announced;
  root : root_in l.self ≡ root_in l.initial.self;
  keeps : (key : List ℕ) → Knows l.initial.self key → Knows l.self key;
  over : (place_of : List ℕ → Option Place) (root : List ℕ) (nodes : List Kept) → IsOver g.F.ReadAt.reads place_of l.initial.self root nodes → IsOver g.F.ReadAt.reads place_of l.self root nodes;
}
