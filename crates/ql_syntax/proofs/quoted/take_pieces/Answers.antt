use Rattle.std.proofs.Common.{inr, arith, drop}
use Rattle.ql_syntax.specs.QuotedTexts.{AtNul}
use Rattle.ql_syntax.proofs.Exits.{some_from_test}
use Rattle.ql_syntax.proofs.QuotedLemmas.{first_is, takes_run}
use Rattle.ql_syntax.proofs.quoted.take_pieces.Goals as goal

pub returns-then-not-is_empty-clause-read : goal.returns-then-not-is_empty-clause-read
returns-then-not-is_empty-clause-read c =
    takes_run _ c.literal_len.result c.args.place.now c.split_at.result.0.now c.split_at.result.1.now c.args.content.now.items c.extend_from_slice.new.self.items
    c.split_at.ensures.front c.split_at.ensures.back (some_from_test _ _ c.is_empty.ensures c.if-not-is_empty.true) c.literal_len.ensures.literal c.in_ok-extend_from_slice.ensures.items

pub returns-in-0-clause-refused : goal.returns-in-0-clause-refused
returns-in-0-clause-refused c =
    let s = c.args.place.now in
    inr (AtNul (drop 1 s) (first_is s 0 c.in-0.len_at_least (omega arith)) c.at-in-0.ensures.cause c.at-in-0.ensures.rest)
