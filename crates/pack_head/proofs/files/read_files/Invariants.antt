use Rattle.std.proofs.Common.{◌≡◌, ◌++◌, ◌≤◌, length, map}
use Rattle.std.specs.List.{AllByRecursion}
use Rattle.pack_head.specs.Heads.{IsHeadFile, file_line}
use Rattle.pack_head.specs.declared.limits.TheConstants.{FILES_LIMIT}
use Rattle.pack_head.specs.internal.Left.{lines_in}
use Rattle.pack_head.proofs.files.read_files.Given as goal

abbrev pub invariant-loop-line : goal.invariant-loop-line
invariant-loop-line l = record {
  read : lines_in l.fn.lines ≡ map file_line l.files.items ++ lines_in l.lines;
  few : length l.files.items ≤ FILES_LIMIT;
  fit : AllByRecursion IsHeadFile l.files.items;
}

abbrev pub decreases-loop-line : goal.decreases-loop-line
decreases-loop-line l = length (lines_in l.lines)
