use Rattle.pack_head.proofs.ExtendLemmas.{extends_after, on_err}
use Rattle.pack_head.proofs.writing.write_files.Goals as goal

pub returns-in_err-write_file-clause-begun : goal.returns-in_err-write_file-clause-begun
returns-in_err-write_file-clause-begun c =
    on_err c.from_residual.result _ (extends_after c.args.out.now.items c.loop-file.out.items c.write_file.new.out.items _ c.loop-file.invariant c.in_err-write_file.ensures.begun)
