use Rattle.std.proofs.Common.{◌≡◌}
use Rattle.http_messages.proofs.HeadLemmas.{read-some, read-none}
use Rattle.http_messages.proofs.head.read_head.Goals as goal

pub returns-in_default-clause-none : goal.returns-in_default-clause-none
returns-in_default-clause-none c =
    read-none c.args.head.now c.parse_request.new.headers c.parse_request.result _ c.parse_request.ensures.found c.requires.room c.requires.lines
    (λ found e. cc (c.in_default.is))

pub returns-in_default-2-clause-none : goal.returns-in_default-2-clause-none
returns-in_default-2-clause-none c =
    read-none c.args.head.now c.parse_request.new.headers c.parse_request.result _ c.parse_request.ensures.found c.requires.room c.requires.lines
    (λ found e. cc (c.in_default.is))

pub returns-then-found-head-clause-some : goal.returns-then-found-head-clause-some
returns-then-found-head-clause-some c =
    read-some c.args.head.now c.parse_request.new.headers c.parse_request.result c.in-Ok-Complete.found c.parse_request.ensures.complete
    (cc (c.in-Ok-Complete.is, c.in-Ok-Complete.field-0-is, c.in-Ok-Complete.found-is)) c.if-found-head.true c.requires.begins

pub returns-else-found-head-clause-none : goal.returns-else-found-head-clause-none
returns-else-found-head-clause-none c =
    read-none c.args.head.now c.parse_request.new.headers c.parse_request.result _ c.parse_request.ensures.found c.requires.room c.requires.lines
    (λ found e. let same : found ≡ c.in-Ok-Complete.found = cc (c.in-Ok-Complete.is, c.in-Ok-Complete.field-0-is, c.in-Ok-Complete.found-is) in rw same c.if-found-head.false)
