-- The length of a body, as the fields of its head say it.
-- Source: RFC 9112, sections 6.1 to 6.3, RFC 9110, section 8.4; that a coded body has no length here is this project's.
use Rattle.std.specs.Prelude.{ℕ, List, Option, None, if◌then◌else◌}
use Rattle.http_messages.specs.Fields.{FieldPair, is_coded, stated_length}

-- the length that the fields say
abbrev pub told_length : List FieldPair → Option ℕ
told_length fields = if is_coded fields then None else stated_length fields
