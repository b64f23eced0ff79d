use Rattle.std.proofs.Common.{◌≡◌, FitsSigned, w32, ℕ, List, length, to_z, unsigned_abs, ap, ◌∙◌, arith, rules}
use Rattle.std.specs.Int.{from_be_bytes}
use Rattle.std.proofs.lemmas.Int.{to_z-of_z}
use Rattle.light_keys.proofs.FineLemmas.{latitude_is, line_is, value_read}
use Rattle.light_keys.proofs.read_fine.read_value.Goals as goal

pub returns-in_err-line-clause-none : goal.returns-in_err-line-clause-none
returns-in_err-line-clause-none c = λ _ latitude line few wide e.
    let rest = c.in_ok-lat.ensures.cases.1 ∙ line_is c.args.value.now line latitude e in
    let long = ap length rest ∙ wide in
    let there = c.in_err-line.ensures.some.1 long in
    cc

pub returns-then-from-limit-clause-none : goal.returns-then-from-limit-clause-none
returns-then-from-limit-clause-none c = λ _ latitude line few wide e.
    let lat = c.from_be_bytes-lat.ensures ∙ ap (λ (l : List ℕ). to_z w32 (from_be_bytes w32 l)) c.in_ok-lat.ensures.cases.0 ∙ latitude_is c.args.value.now line latitude few e in
    let fits : FitsSigned w32 c.from_be_bytes-lat.result = search rules in
    let same = to_z-of_z w32 c.from_be_bytes-lat.result fits ∙ lat in
    let size : c.unsigned_abs.result ≡ unsigned_abs latitude = c.unsigned_abs.ensures.value ∙ ap unsigned_abs same in
    omega (arith, size, few, c.from.ensures, c.limit.ensures, c.if-from-limit.true)

pub returns-clause-some : goal.returns-clause-some
returns-clause-some c =
    let parts = c.in_ok-lat.ensures.cases in
    let fits : FitsSigned w32 c.from_be_bytes-lat.result = search rules in
    let same = c.in_ok-line.ensures.same in
    let size = ap length same in
    let long = parts.2 in
    rw (to_z-of_z w32 c.from_be_bytes-lat.result fits)
    (value_read c.args.value.now c.in_ok-lat.lat.now c.in_ok-line.line.0 c.from_be_bytes-lat.result (λ i. omega (arith, c.type_inv.value i)) parts.0 (same ∙ parts.1) (omega (arith, size, long)) c.from_be_bytes-lat.ensures)
