use Rattle.pack_head.proofs.NumberLemmas.{only_file}
use Rattle.pack_head.proofs.StepLemmas.{failed}
use Rattle.pack_head.proofs.line.file_in.Goals as goal

pub returns-else-fits : goal.returns-else-fits
returns-else-fits c = λ is.
    let parts = c.in_ok-len.ensures in
    failed _ _ c.fits.ensures c.if-fits.false
    (only_file c.args.line.now c.in_ok-strip_prefix.field-0.now c.in_ok-len.name.now c.in_ok-len.len parts.1 parts.0 c.args.number c.in_ok-strip_prefix.ensures.cases.1 is)
