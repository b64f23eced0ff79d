use Rattle.std.proofs.Common.{◌∙◌, sym}
use Rattle.byte_io.specs.Pieces.{pieces}
use Rattle.pack_head.specs.Heads.{line_feed}
use Rattle.pack_head.specs.Lines.{IsFault}
use Rattle.pack_head.specs.internal.Left.{lines_in}
use Rattle.pack_head.proofs.HeadLemmas.{text_is}
use Rattle.pack_head.proofs.StepLemmas.{front_fault, told_is}
use Rattle.pack_head.proofs.reading.read_head.Goals as goal

pub returns-in_err-read_files-clause-refused : goal.returns-in_err-read_files-clause-refused
returns-in_err-read_files-clause-refused c =
    let front = c.in_ok-front.ensures in
    told_is c.from_residual-in_err-read_files.result c.in_err-read_files.field-0.0 (IsFault 0 (pieces line_feed c.args.text.now)) c.from_residual-in_err-read_files.ensures.1
    (front_fault c.in_ok-front.front (pieces line_feed c.args.text.now) (lines_in c.read_front.new.lines) c.in_err-read_files.field-0.0 front.right
    (sym c.of-lines.ensures ∙ front.read) c.in_err-read_files.ensures.refused)

pub returns-clause-read : goal.returns-clause-read
returns-clause-read c =
    text_is _ c.args.text.now (lines_in c.of-lines.result) (lines_in c.read_front.new.lines) (sym c.of-lines.ensures) c.in_ok-front.ensures.read c.in_ok-read_files.ensures.read
