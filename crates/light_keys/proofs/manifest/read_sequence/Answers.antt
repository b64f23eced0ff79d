use Rattle.std.proofs.Common.{arith}
use Rattle.light_keys.proofs.ManifestLemmas.{sequence_read}
use Rattle.light_keys.proofs.manifest.read_sequence.Goals as goal

pub returns-in_ok-sequence-in-3-clause-some : goal.returns-in_ok-sequence-in-3-clause-some
returns-in_ok-sequence-in-3-clause-some c =
    let sequence = c.in_ok-sequence-in-3.ensures.cases in
    sequence_read c.args.bytes.now c.in_ok-number.rest.now c.in_ok-sequence-in-3.sequence.now c.in_ok-sequence-in-3.rest.now c.in_ok-number.number.now c.from_be_bytes-sequence.result
    (λ i. omega (arith, c.type_inv.bytes i)) c.in_ok-number.ensures.cases.0 c.in-3.is sequence.0 sequence.1 sequence.2 c.from_be_bytes-sequence.ensures
