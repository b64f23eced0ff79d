use Rattle.pack_head.proofs.NumberLemmas.{as_short}
use Rattle.pack_head.proofs.digits.read_short.Goals as goal

pub returns : goal.returns
returns c =
    let read = c.in_ok-read_number.ensures in
    rw c.ok.ensures.value (as_short c.args.text.now c.in_ok-read_number.field-0 c.try_from.result read.0 read.1 c.try_from.ensures)
