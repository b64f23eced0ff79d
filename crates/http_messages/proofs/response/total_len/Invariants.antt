-- The bytes of the parts so far.
use Rattle.std.proofs.Common.{◌≡◌, length, take}
use Rattle.http_messages.specs.ResponseParts.{body_of}
use Rattle.http_messages.proofs.response.total_len.Given as goal

abbrev pub invariant-loop-part : goal.invariant-loop-part
invariant-loop-part l = l.len ≡ length (body_of (take l.part-index l.parts))
