-- The bytes so far, as HTML writes them.
use Rattle.std.proofs.Common.{◌≡◌, ◌++◌, take}
use Rattle.osm_relay.specs.Pages.{escaped}
use Rattle.osm_relay.proofs.page.push_escaped.Given as goal

abbrev pub invariant-loop-byte : goal.invariant-loop-byte
invariant-loop-byte l = l.output.items ≡ (l.initial.output.items ++ escaped (take l.byte-index l.text))
