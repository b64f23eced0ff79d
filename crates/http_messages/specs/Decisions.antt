-- What the code says that bytes begin with.
use Rattle.std.specs.Prelude.{ℕ, Option, Some, None}
use Rattle.http_messages.specs.Requests.{Asked, Decided, refuse, asked}
use Rattle.http_messages.specs.declared.request.Request.{Request}
use Rattle.http_messages.specs.declared.decision.Decision.{Decision}
use Rattle.http_messages.specs.declared.decision.Decision.TheVariants.{HeadOpen, BodyOpen, Refused, Complete}

abbrev pub asked_of : Request → Asked
asked_of r = record { method = r.method.now; target = r.target.now; body = r.body.now; closes = r.closes }

abbrev pub decided_of : Decision → Option Decided
decided_of HeadOpen = None
decided_of (BodyOpen needed) = None
decided_of (Refused refusal used) = refuse refusal used
decided_of (Complete request used) =
    Some (record { request = asked (asked_of request); used = used })

-- the fact at the number, where bytes of a body are missing
abbrev pub IfBodyOpen : Decision → (ℕ → Type 0) → Type 0
IfBodyOpen HeadOpen P = Unit {0}
IfBodyOpen (BodyOpen needed) P = P needed
IfBodyOpen (Refused refusal used) P = Unit {0}
IfBodyOpen (Complete request used) P = Unit {0}

-- the fact, where there is less than a head
abbrev pub OnHeadOpen : Decision → Type 0 → Type 0
OnHeadOpen HeadOpen P = P
OnHeadOpen (BodyOpen needed) P = Unit {0}
OnHeadOpen (Refused refusal used) P = Unit {0}
OnHeadOpen (Complete request used) P = Unit {0}
