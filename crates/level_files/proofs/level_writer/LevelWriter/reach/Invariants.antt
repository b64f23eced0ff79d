use Rattle.std.proofs.Common.{◌≡◌, ℕ, ◌+◌, ◌-◌, length}
use Rattle.level_files.specs.internal.Files.{file_at}
use Rattle.level_files.proofs.level_writer.LevelWriter.reach.Given as goal

-- the levels hold what they held
abbrev pub invariant-loop-self : goal.invariant-loop-self
invariant-loop-self g l = (at : ℕ) → file_at l.self.files.items at ≡ file_at l.fn.self.files.items at

abbrev pub decreases-loop-self : goal.decreases-loop-self
decreases-loop-self g l = (l.level + 1) - length l.self.files.items
