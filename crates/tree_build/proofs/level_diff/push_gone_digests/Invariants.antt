use Rattle.std.proofs.Common.{◌≡◌, ◌++◌, map, drop}
use Rattle.tree_build.specs.Rebuilding.{digests_of}
use Rattle.tree_build.proofs.level_diff.push_gone_digests.Given as goal

-- the digests so far, and those to come
abbrev pub invariant-loop-old : goal.invariant-loop-old
invariant-loop-old l = digests_of l.gone.items ++ map (λ old. old.digest.0) (drop l.old-index l.olds) ≡ digests_of l.fn.gone.items ++ map (λ old. old.digest.0) l.olds
