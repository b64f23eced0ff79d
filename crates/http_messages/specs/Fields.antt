-- What the fields of a head say of the body and of the connection.
-- Source: RFC 9112, sections 6.1, 6.3 and 9.6, RFC 9110, section 8.4; the refusals and the limits are this project's,
-- and that several fields of one name have no only value.
use Rattle.std.specs.Prelude.{ℕ, Bool, ◌&&◌, ◌||◌, List, [], ◌∷◌, map, length, Option, Some, None, Result, Ok, Err, if◌then◌else◌, ◌==◌, nat_lt, nat_le, codes}
use Rattle.std.specs.List.{list_all, list_any, slice_split}
use Rattle.std.specs.Str.{bytes_eq}
use Rattle.std.specs.Str.Parse.{digits_value}
use Rattle.std.specs.Char.{to_ascii_lowercase, is_ascii_digit}
use Rattle.httparse.specs.Grammar.{trim_ows}
use Rattle.osm_model.specs.Bytes.{comma}
use Rattle.http_messages.specs.declared.limits.TheConstants.{BODY_LIMIT, DIGIT_LIMIT}
use Rattle.http_messages.specs.declared.refusal.Refusal.{Refusal}
use Rattle.http_messages.specs.declared.refusal.Refusal.TheVariants.{TransferCoding, BadLength, LengthRequired, TooLarge}

-- a field: its name, and its value without the spaces and tabs around it
abbrev pub FieldPair : Type 0
FieldPair = List ℕ × List ℕ

-- letters of either case are alike
abbrev pub same_name : List ℕ → List ℕ → Bool
same_name a b = bytes_eq (map to_ascii_lowercase a) (map to_ascii_lowercase b)

abbrev pub is_named : List ℕ → FieldPair → Bool
is_named name field = same_name field.0 name

-- the values of the fields of this name, in order
abbrev pub values_named : List ℕ → List FieldPair → List (List ℕ)
values_named name [] = []
values_named name (field ∷ fields) =
    if is_named name field then field.1 ∷ values_named name fields else values_named name fields

-- 1 to 19 digits
abbrev pub is_length : List ℕ → Bool
is_length value = nat_lt 0 (length value) && (nat_le (length value) DIGIT_LIMIT && list_all is_ascii_digit value)

-- the number that 1 to 19 digits write
abbrev pub number_of : List ℕ → Option ℕ
number_of value = if is_length value then Some (digits_value 10 value) else None

-- the one value, if there is just one
abbrev pub only : List (List ℕ) → Option (List ℕ)
only [] = None
only (value ∷ []) = Some value
only (value ∷ other ∷ values) = None

-- the number that the one value writes
abbrev pub number_in : Option (List ℕ) → Option ℕ
number_in None = None
number_in (Some value) = number_of value

-- the body stands in another form than its own bytes
abbrev pub is_coded : List FieldPair → Bool
is_coded fields =
    list_any (is_named (codes "transfer-encoding")) fields || list_any (is_named (codes "content-encoding")) fields

-- the number that the only field Content-Length states
abbrev pub stated_length : List FieldPair → Option ℕ
stated_length fields = number_in (only (values_named (codes "content-length") fields))

-- the length that the values of all fields Content-Length give
abbrev pub length_of : List (List ℕ) → Result (Option ℕ) Refusal
length_of [] = Ok None
length_of (value ∷ []) = if is_length value then Ok (Some (digits_value 10 value)) else Err BadLength
length_of (value ∷ other ∷ values) = Err BadLength

-- the length of the body: a POST must state it, and other methods have no body without it
abbrev pub body_length : Bool → Result (Option ℕ) Refusal → Result ℕ Refusal
body_length is_post (Err refusal) = Err refusal
body_length is_post (Ok None) = if is_post then Err LengthRequired else Ok 0
body_length is_post (Ok (Some n)) = if nat_lt BODY_LIMIT n then Err TooLarge else Ok n

unfoldable pub framing : List ℕ → List FieldPair → Result ℕ Refusal
framing method fields =
    if list_any (is_named (codes "transfer-encoding")) fields then Err TransferCoding
    else body_length (bytes_eq method (codes "POST")) (length_of (values_named (codes "content-length") fields))

-- one of the tokens between commas is `close`
abbrev pub lists_close : List ℕ → Bool
lists_close value = list_any (λ token. same_name (trim_ows token) (codes "close")) (slice_split (λ b. b == comma) value)

-- a field asks for the end of the connection
unfoldable pub asks_close : List FieldPair → Bool
asks_close fields = list_any (λ field. is_named (codes "connection") field && lists_close field.1) fields
