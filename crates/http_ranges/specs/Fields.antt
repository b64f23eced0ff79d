-- Whether the connection ends with a response, as the fields of its head say.
-- Source: RFC 9112, section 9.6.
use Rattle.std.specs.Prelude.{Bool, ◌&&◌, List, codes}
use Rattle.std.specs.List.{list_any}
use Rattle.http_messages.specs.Fields.{FieldPair, is_named, same_name}

-- a field says that the connection is closed after the response
abbrev pub is_close : FieldPair → Bool
is_close field = is_named (codes "connection") field && same_name field.1 (codes "close")

abbrev pub says_close : List FieldPair → Bool
says_close fields = list_any is_close fields
