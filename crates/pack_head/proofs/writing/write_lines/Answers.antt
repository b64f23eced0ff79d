use Rattle.pack_head.proofs.ExtendLemmas.{err_after, extends_after, on_err}
use Rattle.pack_head.proofs.HeadLemmas.{head_written}
use Rattle.pack_head.proofs.writing.write_lines.Goals as goal

pub returns-in_err-write_root-clause-begun : goal.returns-in_err-write_root-clause-begun
returns-in_err-write_root-clause-begun c =
    on_err c.from_residual-in_err-write_root.result _
    (extends_after c.args.out.now.items c.write_line.new.out.items c.write_root.new.out.items _ c.in_ok-write_line.ensures.written c.in_err-write_root.ensures.begun)

pub returns-in_err-write_sequence-clause-begun : goal.returns-in_err-write_sequence-clause-begun
returns-in_err-write_sequence-clause-begun c =
    let old = c.args.out.now.items in
    on_err c.from_residual-in_err-write_sequence.result _
    (extends_after old c.write_line.new.out.items c.write_sequence.new.out.items _ c.in_ok-write_line.ensures.written
    (extends_after c.write_line.new.out.items c.write_root.new.out.items c.write_sequence.new.out.items _ c.in_ok-write_root.ensures.written c.in_err-write_sequence.ensures.begun))

pub returns-in_err-write_manifest-clause-begun : goal.returns-in_err-write_manifest-clause-begun
returns-in_err-write_manifest-clause-begun c =
    let old = c.args.out.now.items in
    on_err c.from_residual-in_err-write_manifest.result _
    (extends_after old c.write_line.new.out.items c.write_manifest.new.out.items _ c.in_ok-write_line.ensures.written
    (extends_after c.write_line.new.out.items c.write_root.new.out.items c.write_manifest.new.out.items _ c.in_ok-write_root.ensures.written
    (extends_after c.write_root.new.out.items c.write_sequence.new.out.items c.write_manifest.new.out.items _ c.in_ok-write_sequence.ensures.written c.in_err-write_manifest.ensures.begun)))

pub returns-clause-written : goal.returns-clause-written
returns-clause-written c =
    head_written c.write_files.result c.args.head.now c.deref.result.now c.args.out.now.items c.write_line.new.out.items c.write_root.new.out.items c.write_sequence.new.out.items c.write_manifest.new.out.items c.write_files.new.out.items
    c.deref.ensures.value c.in_ok-write_line.ensures.written c.in_ok-write_root.ensures.written c.in_ok-write_sequence.ensures.written c.in_ok-write_manifest.ensures.written c.write_files.ensures.written

pub returns-clause-begun : goal.returns-clause-begun
returns-clause-begun c =
    let old = c.args.out.now.items in
    err_after c.write_files.result old c.write_manifest.new.out.items c.write_files.new.out.items
    (extends_after old c.write_line.new.out.items c.write_manifest.new.out.items _ c.in_ok-write_line.ensures.written
    (extends_after c.write_line.new.out.items c.write_root.new.out.items c.write_manifest.new.out.items _ c.in_ok-write_root.ensures.written
    (extends_after c.write_root.new.out.items c.write_sequence.new.out.items c.write_manifest.new.out.items _ c.in_ok-write_sequence.ensures.written (_, c.in_ok-write_manifest.ensures.written))))
    c.write_files.ensures.begun
