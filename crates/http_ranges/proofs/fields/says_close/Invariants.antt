-- The fields that are left have the answer.
use Rattle.std.proofs.Common.{◌≡◌, map, drop}
use Rattle.httparse.specs.Spans.{header_bytes}
use Rattle.http_ranges.specs.Fields.{says_close}
use Rattle.http_ranges.proofs.fields.says_close.Given as goal

abbrev pub invariant-loop-header : goal.invariant-loop-header
invariant-loop-header l =
    says_close (map (header_bytes l.head) l.headers) ≡ says_close (map (header_bytes l.head) (drop l.header-index l.headers))
