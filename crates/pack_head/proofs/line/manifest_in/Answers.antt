use Rattle.pack_head.proofs.NumberLemmas.{no_manifest}
use Rattle.pack_head.proofs.line.manifest_in.Goals as goal

pub returns-in_err-len : goal.returns-in_err-len
returns-in_err-len c =
    let parts = c.in_ok-at.ensures in
    rw c.from_residual-in_err-len.ensures (no_manifest c.args.line.now c.in_ok-strip_prefix.field-0.now c.in_ok-at.len.now c.in_ok-at.at parts.1 parts.0 c.in_ok-strip_prefix.ensures.cases.1 c.in_err-len.ensures)
