use Rattle.std.proofs.Common.{List, ℕ}
use Rattle.pack_files.specs.Files.{files_in}
use Rattle.pack_files.specs.Joined.{AreRead}
use Rattle.pack_files.proofs.joined.JoinedFilesReadAt.expect.Given as goal

-- the files read as they did
abbrev pub invariant-loop : goal.invariant-loop
invariant-loop g l = record {
  stays : (contents : List (List ℕ)) → AreRead g.F.ReadAt.reads (files_in l.initial.self) contents → AreRead g.F.ReadAt.reads (files_in l.self) contents;
}
