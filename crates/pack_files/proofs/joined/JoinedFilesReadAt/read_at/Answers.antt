use Rattle.std.proofs.Common.{◌≡◌, ◌+◌, ◌++◌, ◌*◌, ◌/◌, ◌%◌, ◌^◌, [], ℕ, List, get_or, drop, take, ap, sym, subst, ◌∙◌, arith}
use Rattle.pack_files.proofs.JoinedLemmas.{at_file, on_ok, one_reads, set_read}
use Rattle.pack_files.specs.Files.{files_in}
use Rattle.pack_files.specs.Joined.{joined}
use Rattle.pack_files.proofs.joined.JoinedFilesReadAt.read_at.Goals as goal

pub returns-in-Some-clause-read : goal.returns-in-Some-clause-read
returns-in-Some-clause-read g c = λ bytes (contents, read, is).
    let number = c.args.offset / 281474976710656 in
    let own = get_or contents number [] in
    let lt = c.in-Some.ensures.item.3.0 in
    let one = subst (λ file. g.F.ReadAt.reads file own) (sym c.in-Some.ensures.item.1) (one_reads g.F.ReadAt.reads (files_in c.args.self.now) contents number c.in-Some.file.now read.all lt) in
    let whole : c.args.offset ≡ number * 2 ^ 48 + c.args.offset % 281474976710656 = omega arith in
    on_ok c.read_within.result (c.read_within.ensures.read own one)
    (λ (appended, within). appended ∙ ap (λ (l : List ℕ). c.args.into.now.items ++ l) (sym (
    ap (λ (l : List ℕ). take c.args.len (drop c.args.offset l)) is
    ∙ ap (λ (n : ℕ). take c.args.len (drop n (joined contents))) whole
    ∙ at_file g.F.ReadAt.reads (files_in c.args.self.now) contents number (c.args.offset % 281474976710656) c.args.len read.all lt within
    )))

pub returns-in-Some-clause-stays : goal.returns-in-Some-clause-stays
returns-in-Some-clause-stays g c = λ bytes (contents, read, is).
    let number = c.args.offset / 281474976710656 in
    let own = get_or contents number [] in
    let lt = c.in-Some.ensures.item.3.0 in
    let one = subst (λ file. g.F.ReadAt.reads file own) (sym c.in-Some.ensures.item.1) (one_reads g.F.ReadAt.reads (files_in c.args.self.now) contents number c.in-Some.file.now read.all lt) in (
      contents,
      set_read g.F.ReadAt.reads (files_in c.args.self.now) contents number c.read_within.new.file read lt (c.read_within.ensures.stays own one),
      is,
    )
