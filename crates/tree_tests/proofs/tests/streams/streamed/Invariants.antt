use Rattle.tree_stream.specs.Streams.{IsSound}
use Rattle.tree_tests.proofs.tests.streams.streamed.Given as goal

-- no call was refused
abbrev pub invariant-loop-entry : goal.invariant-loop-entry
invariant-loop-entry g l = IsSound g.W.NodeWriter.given l.stream
