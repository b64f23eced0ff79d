-- However many times it was waited, the loop stands as what happened says, and it isn't done.
use Rattle.std.proofs.Common.{◌≡◌, ◌≤◌, List, ℕ, Some, true}
use Rattle.std.specs.Prelude.{length}
use Rattle.osm_relay.specs.Events.{Event}
use Rattle.osm_relay.specs.internal.Relaying.{Moves}
use Rattle.osm_relay.proofs.relaying.relay_many.Given as goal

abbrev pub invariant-loop-round : goal.invariant-loop-round
invariant-loop-round g l = record {
  few : l.taken ≤ l.connections;
  stands : (base : List Event) → g.N.Network.log l.fn.network ≡ Some base
      → Moves (record { wanted = l.connections; trusts = g.R.Roots.may_tell l.fn.roots; most = l.most; tells = g.W.Wire.tells; base = base }) l._round l.taken (g.N.Network.log l.network) l.conversations.items;
  more : l.taken ≡ l.connections → length l.conversations.items ≡ 0 → ⊥;
  roots : (root : List ℕ) → g.R.Roots.may_tell l.roots root ≡ true → g.R.Roots.may_tell l.fn.roots root ≡ true;
}
