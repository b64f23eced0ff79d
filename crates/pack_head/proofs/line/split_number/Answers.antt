use Rattle.pack_head.proofs.NumberLemmas.{spaced, spaced_parts}
use Rattle.pack_head.proofs.line.split_number.Goals as goal

pub returns-in_err-number : goal.returns-in_err-number
returns-in_err-number c = rw c.from_residual.ensures (λ number rest small is. spaced c.args.text.now number rest small is c.in_err-number.ensures.parts)

pub returns-in_err-number-2 : goal.returns-in_err-number-2
returns-in_err-number-2 c = rw c.from_residual-in_err-number-2.ensures (λ number rest small is.
    let parts = c.in_ok-number.ensures.parts in
    let front = spaced_parts c.args.text.now number rest small is c.in_ok-number.number.now c.in_ok-number.rest.now parts.0 parts.1 in
    c.in_err-number-2.ensures number small front.0)
