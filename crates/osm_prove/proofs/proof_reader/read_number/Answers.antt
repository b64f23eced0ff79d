use Rattle.std.proofs.Common.{arith}
use Rattle.osm_prove.proofs.FormLemmas.{number_read}
use Rattle.osm_prove.proofs.proof_reader.read_number.Goals as goal

pub returns-clause-some : goal.returns-clause-some
returns-clause-some c =
    let cases = c.in_ok-number.ensures.cases in
    number_read c.args.bytes.now c.in_ok-number.number.now c.in_ok-number.rest.now c.from_be_bytes.result
    (λ i. omega (arith, c.type_inv.bytes i)) cases.0 cases.1 cases.2 c.from_be_bytes.ensures
