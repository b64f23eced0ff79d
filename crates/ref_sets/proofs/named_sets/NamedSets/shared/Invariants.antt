use Rattle.std.proofs.Common.{◌≡◌, drop}
use Rattle.ref_sets.specs.NamedSets.{lists_of}
use Rattle.ref_sets.proofs.named_sets.NamedSets.shared.Given as goal

abbrev pub invariant-loop-named : goal.invariant-loop-named
invariant-loop-named l = lists_of l.self.named.items l.name ≡ lists_of (drop l.named-index l.self.named.items) l.name
