use Rattle.std.proofs.Common.{◌≡◌, ◌++◌, map}
use Rattle.tree_node.specs.internal.Pairs.{lent_of, pair_of}
use Rattle.tree_node.proofs.recorder.Recorder.used_parts.Given as goal

-- the parts so far, and the entries still to come, are those that were given
abbrev pub invariant-loop-key : goal.invariant-loop-key
invariant-loop-key l = map pair_of l.used.items ++ map lent_of l.key-iterator ≡ map lent_of l.self.given.entries
