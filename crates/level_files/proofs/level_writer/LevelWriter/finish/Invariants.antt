use Rattle.std.proofs.Common.{◌≡◌, map}
use Rattle.level_files.specs.Levels.{unread_level}
use Rattle.level_files.proofs.level_writer.LevelWriter.finish.Given as goal

-- the levels that were ended so far
abbrev pub invariant-loop-file : goal.invariant-loop-file
invariant-loop-file g l = l.levels.items ≡ map unread_level l.yielded
