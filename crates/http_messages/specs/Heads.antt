-- The head that bytes are, as a function of them. What a head is, httparse's grammar says: the bytes are cut in
-- the only way in which they could be a head, and the cut is compared with how that head is printed.
-- Source: RFC 9112, sections 3 and 5, as far as httparse's grammar takes it.
use Rattle.std.specs.Prelude.{◌≡◌, ℕ, ◌-◌, Bool, ◌&&◌, List, [], ◌∷◌, length, drop, Option, Some, None, if◌then◌else◌, ◌==◌, nat_lt, nat_le, zero, suc, slice_index}
use Rattle.std.specs.List.{list_all}
use Rattle.std.specs.Str.{bytes_eq, is_utf8}
use Rattle.httparse.specs.Grammar.{is_token_byte, is_uri_byte, is_value_byte, is_token, LineEnd, crlf, lf, print_end, Field, RequestHead, print_request, ReadsRequest}
use Rattle.http_messages.specs.HeadEnds.{begins_with_break}

-- the bytes at the front that pass a test, and those from the first that doesn't
abbrev pub run : (ℕ → Bool) → List ℕ → List ℕ
run test [] = []
run test (b ∷ bytes) = if test b then b ∷ run test bytes else []

abbrev pub past : (ℕ → Bool) → List ℕ → List ℕ
past test [] = []
past test (b ∷ bytes) = if test b then past test bytes else b ∷ bytes

-- the line end at the front, and what comes after it
abbrev pub end_at : List ℕ → LineEnd
end_at [] = lf
end_at (b ∷ bytes) = if b == 13 then crlf else lf

abbrev pub past_end : List ℕ → List ℕ
past_end bytes = drop (length (print_end (end_at bytes))) bytes

abbrev pub value_at : List ℕ → List ℕ
value_at bytes = drop 1 (past is_token_byte bytes)

abbrev pub field_at : List ℕ → Field
field_at bytes = record {
  name = run is_token_byte bytes;
  raw = run is_value_byte (value_at bytes);
  end = end_at (past is_value_byte (value_at bytes));
}

abbrev pub past_field : List ℕ → List ℕ
past_field bytes = past_end (past is_value_byte (value_at bytes))

-- at most so many field lines
abbrev pub fields_at : ℕ → List ℕ → List Field
fields_at zero bytes = []
fields_at (suc n) bytes = if begins_with_break bytes then [] else field_at bytes ∷ fields_at n (past_field bytes)

abbrev pub past_fields : ℕ → List ℕ → List ℕ
past_fields zero bytes = bytes
past_fields (suc n) bytes = if begins_with_break bytes then bytes else past_fields n (past_field bytes)

abbrev pub target_at : List ℕ → List ℕ
target_at bytes = drop 1 (past is_token_byte bytes)

abbrev pub version_at : List ℕ → List ℕ
version_at bytes = drop 1 (past is_uri_byte (target_at bytes))

abbrev pub section_at : List ℕ → List ℕ
section_at bytes = past_end (drop 8 (version_at bytes))

unfoldable pub cut_head : List ℕ → RequestHead
cut_head bytes = record {
  blank = [];
  method = run is_token_byte bytes;
  target = run is_uri_byte (target_at bytes);
  minor = slice_index (version_at bytes) 7 - 48;
  line_end = end_at (drop 8 (version_at bytes));
  fields = fields_at (length (section_at bytes)) (section_at bytes);
  last = end_at (past_fields (length (section_at bytes)) (section_at bytes));
}

-- each part is made of the bytes that it may have
abbrev pub is_field : Field → Bool
is_field f = is_token f.name && list_all is_value_byte f.raw

unfoldable pub is_head : RequestHead → Bool
is_head h =
    is_token h.method && (nat_lt 0 (length h.target) && (list_all is_uri_byte h.target
    && (is_utf8 h.target && (nat_le h.minor 1 && list_all is_field h.fields))))

-- the head that the bytes are, all of them, with no empty line before it
unfoldable pub head_of : List ℕ → Option RequestHead
head_of bytes =
    if is_head (cut_head bytes) && bytes_eq (print_request (cut_head bytes)) bytes then Some (cut_head bytes) else None

-- by httparse's grammar the bytes are this head, with no empty line before it, and nothing else
abbrev pub IsHead : List ℕ → RequestHead → Type 0
IsHead bytes h = ReadsRequest bytes h [] × (h.blank ≡ [])
