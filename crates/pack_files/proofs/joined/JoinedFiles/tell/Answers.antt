use Rattle.std.proofs.Common.{[], get_or, sym, subst}
use Rattle.pack_files.proofs.JoinedLemmas.{one_reads, set_read}
use Rattle.pack_files.specs.Files.{files_in}
use Rattle.pack_files.proofs.joined.JoinedFiles.tell.Goals as goal

pub returns-in-Some : goal.returns-in-Some
returns-in-Some g c = λ contents read.
    let own = get_or contents c.args.number [] in
    let lt = c.in-Some.ensures.item.3.0 in
    let one = subst (λ file. g.F.ReadAt.reads file own) (sym c.in-Some.ensures.item.1) (one_reads g.F.ReadAt.reads (files_in c.args.self.now) contents c.args.number c.in-Some.file.now read.all lt) in
    set_read g.F.ReadAt.reads (files_in c.args.self.now) contents c.args.number c.expect.new.self read lt (c.expect.ensures.stays own one)
