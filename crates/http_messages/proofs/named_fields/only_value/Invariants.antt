-- What was found, and what the fields that are left have.
use Rattle.std.proofs.Common.{◌≡◌, map, drop, ◌++◌}
use Rattle.httparse.specs.Spans.{header_bytes}
use Rattle.http_messages.specs.Fields.{values_named}
use Rattle.http_messages.proofs.named_fields.only_value.Given as goal
use Rattle.http_messages.proofs.shared.FieldLemmas.{found_values}

abbrev pub invariant-loop-header : goal.invariant-loop-header
invariant-loop-header l =
    values_named l.name (map (header_bytes l.head) l.headers)
    ≡ found_values l.found ++ values_named l.name (map (header_bytes l.head) (drop l.header-index l.headers))
