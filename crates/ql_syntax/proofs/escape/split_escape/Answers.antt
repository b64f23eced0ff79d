use Rattle.std.proofs.Common.{arith, ℕ, List, sym, subst}
use Rattle.std.specs.Prelude.{encode_utf8}
use Rattle.ql_syntax.specs.internal.EscapeParts.{IsEscape}
use Rattle.ql_syntax.proofs.EscapeLemmas.{letter_escape, bad_letter}
use Rattle.ql_syntax.proofs.GapLemmas.{tail_is}
use Rattle.ql_syntax.proofs.escape.split_escape.Goals as goal

pub returns-in-Some : goal.returns-in-Some
returns-in-Some c =
    subst (λ (rest : List ℕ). IsEscape c.args.after.now (encode_utf8 c.in-Some.character) rest) (sym (tail_is c.args.after.now 1))
    (letter_escape c.args.after.now c.in-Some.character c.in-len1-up.len_at_least (sym c.in-Some.ensures))

pub returns-in-None : goal.returns-in-None
returns-in-None c = bad_letter c.args.after.now c.in-len1-up.len_at_least (λ e. omega arith) (sym c.in-None.ensures)
