use Rattle.std.proofs.Common.{◌∙◌, arith, sym}
use Rattle.http_ranges.proofs.HeadLemmas.{read-breaks, read-some}
use Rattle.http_ranges.proofs.head.read_head.Goals as goal

pub returns-then-begins_with_break-clause-none : goal.returns-then-begins_with_break-clause-none
returns-then-begins_with_break-clause-none c =
    read-breaks c.args.head.now (sym c.begins_with_break.ensures ∙ c.if-begins_with_break.true)

pub returns-then-found-head-clause-some : goal.returns-then-found-head-clause-some
returns-then-found-head-clause-some c =
    read-some c.args.head.now c.parse_response.new.headers c.parse_response.result c.in-Ok-Complete.found c.parse_response.ensures.complete
    (cc (c.in-Ok-Complete.is, c.in-Ok-Complete.field-0-is, c.in-Ok-Complete.found-is)) c.if-found-head.true
    (sym c.begins_with_break.ensures ∙ c.if-begins_with_break.false) (omega (arith, c.requires.room, c.parse_response.auto.headers))
