use Rattle.std.proofs.Common.{drop, take, length, ◌-◌}
use Rattle.ql_syntax.proofs.GapLemmas.{tail_is}
use Rattle.ql_syntax.proofs.QuotedLemmas.{literal_quoted}
use Rattle.ql_syntax.proofs.quoted.split_literal.Goals as goal

pub returns-in-len1-up : goal.returns-in-len1-up
returns-in-len1-up c =
    let s = c.args.text.now in
    literal_quoted s (take (length s - 1) (drop 1 s)) c.split_at.result.0.now c.split_at.result.1.now _ c.borrowed.result c.literal_len.result c.requires (tail_is s 1) c.split_at.ensures.front c.split_at.ensures.back c.literal_len.ensures.literal
    c.in-len1-up.len_at_least c.if-quote-text.true (tail_is c.split_at.result.1.now 1) c.borrowed.ensures
