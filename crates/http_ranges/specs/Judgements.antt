-- What a response is worth to who asked for a range of a file, by its status and its fields.
-- Source: RFC 9110, sections 14.4, 15.2 to 15.5; what is taken and what it is refused for is this project's.
use Rattle.std.specs.Prelude.{ℕ, Bool, false, ◌&&◌, ◌||◌, not, List, Option, Some, None, if◌then◌else◌, ◌==◌, ◌+◌, ◌-◌, ◌^◌, codes, min, nat_lt, nat_le}
use Rattle.http_messages.specs.Fields.{FieldPair, is_coded, only, stated_length, values_named}
use Rattle.http_ranges.specs.Fields.{says_close}
use Rattle.http_ranges.specs.Ranges.{range_of}
use Rattle.http_ranges.specs.declared.byte_range.ByteRange.{ByteRange}
use Rattle.http_ranges.specs.declared.content_range.ContentRange.{ContentRange}
use Rattle.http_ranges.specs.declared.judging.Judgement.{Judgement}
use Rattle.http_ranges.specs.declared.judging.Judgement.TheVariants.{Given, Interim, Refused}
use Rattle.http_ranges.specs.declared.not_given.NotGiven.{NotGiven}
use Rattle.http_ranges.specs.declared.not_given.NotGiven.TheVariants.{Absent, Changed, Malformed, NoRanges, Redirected, Status}

-- a status that isn't 206 and no interim one
abbrev pub refusal_of : ℕ → NotGiven
refusal_of status =
    if status == 404 || status == 410 then Absent
    else if nat_le 300 status && nat_lt status 400 then Redirected status
    else if status == 200 then NoRanges else Status status

-- the range and the length of the body that the fields state
abbrev pub range_in : Option (List ℕ) → Option ContentRange
range_in None = None
range_in (Some value) = range_of value

abbrev pub stated_range : List FieldPair → Option ContentRange
stated_range fields = range_in (only (values_named (codes "content-range") fields))

-- the file is known to have another size
abbrev pub differs : Option ℕ → ℕ → Bool
differs None size = false
differs (Some known) size = not (known == size)

-- the range is the one that was asked for, as far as the file has it
abbrev pub covers : ByteRange → ContentRange → Bool
covers asked range =
    range.first == asked.first && range.last == min asked.last (range.size - 1) && nat_lt range.last range.size
    && nat_le range.first range.last

-- as many bytes as the range has
abbrev pub is_length_of : ContentRange → ℕ → Bool
is_length_of range len = len == min (range.last - range.first + 1) (2 ^ 64 - 1)

abbrev pub by_length : ByteRange → Bool → ContentRange → Option ℕ → Judgement
by_length asked closes range None = Refused Malformed
by_length asked closes range (Some len) =
    if covers asked range && is_length_of range len
    then Given (record { size = range.size; len = len; closes = closes })
    else Refused Malformed

abbrev pub by_range : ByteRange → Option ℕ → Bool → Option ContentRange → Option ℕ → Judgement
by_range asked size closes None len = Refused Malformed
by_range asked size closes (Some range) len =
    if differs size range.size then Refused Changed else by_length asked closes range len

-- a response 206
unfoldable pub by_part : ByteRange → Option ℕ → Bool → List FieldPair → Judgement
by_part asked size closes fields =
    if is_coded fields then Refused Malformed
    else by_range asked size closes (stated_range fields) (stated_length fields)

-- any response: a connection of HTTP/1.0 is closed after it
unfoldable pub judged : ByteRange → Option ℕ → ℕ → ℕ → List FieldPair → Judgement
judged asked size minor status fields =
    if status == 206 then by_part asked size (minor == 0 || says_close fields) fields
    else if nat_le 100 status && nat_lt status 200 then Interim else Refused (refusal_of status)
