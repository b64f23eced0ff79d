-- The fields that are left have the answer.
use Rattle.std.proofs.Common.{◌≡◌, map, drop}
use Rattle.httparse.specs.Spans.{header_bytes}
use Rattle.http_messages.specs.Fields.{asks_close}
use Rattle.http_messages.proofs.fields.asks_close.Given as goal

abbrev pub invariant-loop-header : goal.invariant-loop-header
invariant-loop-header l =
    asks_close (map (header_bytes l.head) l.headers) ≡ asks_close (map (header_bytes l.head) (drop l.header-index l.headers))
