-- The head, and the parts so far; there is room for the rest.
use Rattle.std.proofs.Common.{◌≡◌, ◌≤◌, ◌+◌, ◌++◌, length, take}
use Rattle.std.specs.Vec.{vec_capacity}
use Rattle.http_messages.specs.ResponseParts.{body_of}
use Rattle.http_messages.proofs.response.append_response.Given as goal

abbrev pub invariant-loop-part : goal.invariant-loop-part
invariant-loop-part l = record {
  written : l.output.items ≡ l.initial.output.items ++ body_of (take l.part-index l.body);
  room : length l.initial.output.items + length (body_of l.body) ≤ vec_capacity l.output;
}
