use Rattle.std.proofs.Common.{refl}
use Rattle.pack_head.specs.Lines.{IsFault}
use Rattle.pack_head.specs.internal.Left.{lines_in}
use Rattle.pack_head.proofs.StepLemmas.{fault_after, told_is}
use Rattle.pack_head.proofs.front.read_front.Goals as goal

pub returns-in_err-read_sequence-clause-refused : goal.returns-in_err-read_sequence-clause-refused
returns-in_err-read_sequence-clause-refused c =
    let root = c.in_ok-read_root in
    told_is c.from_residual-in_err-read_sequence.result c.in_err-read_sequence.field-0.0 (IsFault 0 (lines_in c.args.lines.now)) c.from_residual-in_err-read_sequence.ensures.1
    (fault_after 0 _ _ _ _ c.in_ok-read_version.ensures.read refl
    (fault_after 1 _ _ _ _ root.ensures.read (root.field-0.0, root.ensures.right, refl) c.in_err-read_sequence.ensures.refused))

pub returns-in_err-read_manifest-clause-refused : goal.returns-in_err-read_manifest-clause-refused
returns-in_err-read_manifest-clause-refused c =
    let root = c.in_ok-read_root in
    let sequence = c.in_ok-read_sequence in
    told_is c.from_residual-in_err-read_manifest.result c.in_err-read_manifest.field-0.0 (IsFault 0 (lines_in c.args.lines.now)) c.from_residual-in_err-read_manifest.ensures.1
    (fault_after 0 _ _ _ _ c.in_ok-read_version.ensures.read refl
    (fault_after 1 _ _ _ _ root.ensures.read (root.field-0.0, root.ensures.right, refl)
    (fault_after 2 _ _ _ _ sequence.ensures.read (sequence.field-0, sequence.ensures.right, refl) c.in_err-read_manifest.ensures.refused)))
