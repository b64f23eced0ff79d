use Rattle.std.proofs.Common.{length, ap, arith}
use Rattle.osm_keys.proofs.shared.KeyLengths.{ref_key_len}
use Rattle.osm_keys.proofs.read_keys.read_reference_key.Goals as goal

pub returns-in_err-as_array-clause-none : goal.returns-in_err-as_array-clause-none
returns-in_err-as_array-clause-none c = λ _ name e. c.in_err-as_array.ensures.cases (let l = ap length e in let m = ref_key_len name in let n = c.in_ok-kind.ensures.cases.1 in omega (arith, l, m, n))
