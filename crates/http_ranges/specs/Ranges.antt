-- The range that a response is of, as its field says it.
-- Source: RFC 9110, section 14.4; that the size is told too is this project's.
use Rattle.std.specs.Prelude.{ℕ, ◌+◌, List, Option, Some, None, if◌then◌else◌, ◌==◌, codes, drop, nat_eq, position, take}
use Rattle.std.specs.List.{starts_with}
use Rattle.http_messages.specs.Fields.{number_of}
use Rattle.http_ranges.specs.declared.content_range.ContentRange.{ContentRange}

-- what comes before the first such byte, and what comes after it
abbrev pub parts_of : List ℕ → Option ℕ → Option (List ℕ × List ℕ)
parts_of bytes None = None
parts_of bytes (Some place) = Some (take place bytes, drop (place + 1) bytes)

abbrev pub parts_at : ℕ → List ℕ → Option (List ℕ × List ℕ)
parts_at wanted bytes = parts_of bytes (position (λ b. b == wanted) bytes)

abbrev pub of_numbers : Option ℕ → Option ℕ → Option ℕ → Option ContentRange
of_numbers None last size = None
of_numbers (Some first) None size = None
of_numbers (Some first) (Some last) None = None
of_numbers (Some first) (Some last) (Some size) = Some (record { first = first; last = last; size = size })

abbrev pub by_slash : List ℕ → Option (List ℕ × List ℕ) → Option ContentRange
by_slash first None = None
by_slash first (Some parts) = of_numbers (number_of first) (number_of parts.0) (number_of parts.1)

abbrev pub by_dash : Option (List ℕ × List ℕ) → Option ContentRange
by_dash None = None
by_dash (Some parts) = by_slash parts.0 (parts_at 47 parts.1)

-- `bytes FIRST-LAST/SIZE`
unfoldable pub range_of : List ℕ → Option ContentRange
range_of value = if starts_with nat_eq value (codes "bytes ") then by_dash (parts_at 45 (drop 6 value)) else None
