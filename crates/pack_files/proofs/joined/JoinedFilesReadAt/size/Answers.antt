use Rattle.std.proofs.Common.{ap, length, arith}
use Rattle.pack_files.proofs.JoinedLemmas.{joined_long}
use Rattle.pack_files.specs.Files.{files_in}
use Rattle.pack_files.proofs.joined.JoinedFilesReadAt.size.Goals as goal

pub returns-clause-size : goal.returns-clause-size
returns-clause-size g c = λ bytes (contents, read, is).
    let long = joined_long g.F.ReadAt.reads (files_in c.args.self.now) contents read.all in
    omega (arith, c.saturating_mul.ensures, c.len.ensures, read.few, long, ap length is)
