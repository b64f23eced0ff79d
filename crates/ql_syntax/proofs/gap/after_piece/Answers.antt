use Rattle.std.proofs.Common.{◌∙◌, sym, ap, List, ℕ, arith, length, length-drop}
use Rattle.ql_syntax.specs.Gaps.{gap, Between, InLine, InBlock, Open}
use Rattle.ql_syntax.proofs.GapLemmas.{blank_begins, line_begins, block_begins, tail_is}
use Rattle.ql_syntax.proofs.gap.after_piece.Goals as goal

pub returns-in-47-clause-read : goal.returns-in-47-clause-read
returns-in-47-clause-read c =
    let s = c.args.text.now in
    let begins = line_begins s c.in-47.len_at_least (omega arith) (omega arith) in
    let same = c.line_end.ensures.same in
    let within = c.line_end.ensures.within in
    let tail = tail_is s 2 in
    ((begins ∙ ap (λ (t : List ℕ). gap InLine t) (sym tail) ∙ same), omega (arith, length-drop 2 s, ap (λ (t : List ℕ). length t) tail))

pub returns-in-Some-clause-read : goal.returns-in-Some-clause-read
returns-in-Some-clause-read c =
    let s = c.args.text.now in
    let begins = block_begins s c.in-47-2.len_at_least (omega arith) (omega arith) in
    let tail = tail_is s 2 in
    ((begins ∙ ap (λ (t : List ℕ). gap (InBlock s) t) (sym tail) ∙ c.in-Some.ensures.0 s), omega (arith, length-drop 2 s, ap (λ (t : List ℕ). length t) tail, c.in-Some.ensures.1))

pub returns-in-None-clause-refused : goal.returns-in-None-clause-refused
returns-in-None-clause-refused c =
    let s = c.args.text.now in
    let begins = block_begins s c.in-47-2.len_at_least (omega arith) (omega arith) in
    let tail = tail_is s 2 in
    (c.at.ensures.cause, begins ∙ ap (λ (t : List ℕ). gap (InBlock s) t) (sym tail) ∙ c.in-None.ensures s ∙ ap (λ (t : List ℕ). Open t) (sym c.at.ensures.rest))

pub returns-in-len1-up-clause-read : goal.returns-in-len1-up-clause-read
returns-in-len1-up-clause-read c =
    let s = c.args.text.now in
    let begins = blank_begins s c.in-len1-up.len_at_least (sym c.is_blank.ensures ∙ c.if-is_blank.true) in
    let tail = tail_is s 1 in
    ((begins ∙ ap (λ (t : List ℕ). gap Between t) (sym tail)), omega (arith, length-drop 1 s, ap (λ (t : List ℕ). length t) tail))
