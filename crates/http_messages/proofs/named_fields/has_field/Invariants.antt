-- The fields that are left have the answer.
use Rattle.std.proofs.Common.{◌≡◌, map, drop}
use Rattle.std.specs.List.{list_any}
use Rattle.httparse.specs.Spans.{header_bytes}
use Rattle.http_messages.specs.Fields.{is_named}
use Rattle.http_messages.proofs.named_fields.has_field.Given as goal

abbrev pub invariant-loop-header : goal.invariant-loop-header
invariant-loop-header l =
    list_any (is_named l.name) (map (header_bytes l.head) l.headers)
    ≡ list_any (is_named l.name) (map (header_bytes l.head) (drop l.header-index l.headers))
