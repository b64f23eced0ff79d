use Rattle.std.proofs.Common.{◌≡◌, ◌≤◌, ◌∙◌, ℕ, List, ap, arith, length, take, sym}
use Rattle.std.specs.Prelude.{IfSome, Option, Some, None}
use Rattle.std.proofs.lemmas.List.{length-take}
use Rattle.http_messages.specs.HeadEnds.{head_length}
use Rattle.http_messages.proofs.shared.HeadEndLemmas.{head_length-fits}
use Rattle.http_ranges.specs.declared.limits.TheConstants.{HEAD_LIMIT}
use Rattle.http_ranges.proofs.receiving.end_of_head.Goals as goal

within : (o : Option ℕ) (bytes : List ℕ) → o ≡ head_length (take HEAD_LIMIT bytes) → IfSome o (λ len. len ≤ length bytes)
within None bytes is = tt
within (Some len) bytes is =
    let fits = head_length-fits (take HEAD_LIMIT bytes) len (sym is) in
    omega (arith, fits.1, length-take HEAD_LIMIT bytes)

pub returns-clause-within : goal.returns-clause-within
returns-clause-within c = within c.head_end.result c.args.bytes.now (c.head_end.ensures ∙ ap head_length c.window.ensures)
