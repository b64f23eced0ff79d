-- Parts of a pack, and the tables that list them.
-- Source: this project.
use Rattle.std.specs.Int.{from_le_bytes, to_le_bytes, w64}
use Rattle.std.specs.List.{flat_map}
use Rattle.std.specs.Ordering.{nat_cmp, ordering_then}
use Rattle.std.specs.Prelude.{◌≤◌, ◌+◌, ◌/◌, ℕ, zero, suc, List, [], ◌∷◌, ◌++◌, drop, length, take}
use Rattle.std.specs.declared.cmp.Ordering.{Ordering}
use Rattle.osm_query_web.specs.declared.span.Span.{Span}

-- ---- spans

-- a pack of so many bytes has all of it
abbrev pub FitsSize : ℕ → Span → Type 0
FitsSize size span = span.start + span.len ≤ size

-- it has all of another one
abbrev pub Has : Span → Span → Type 0
Has span other = (span.start ≤ other.start) × (other.start + other.len ≤ span.start + span.len)

-- the bytes of a file in a span
abbrev pub in_span : List ℕ → Span → List ℕ
in_span file span = take span.len (drop span.start file)

-- the order of spans: by their starts, and of one start the shorter first
abbrev pub span_cmp : Span → Span → Ordering
span_cmp a b = ordering_then (nat_cmp a.start b.start) (nat_cmp a.len b.len)

-- ---- tables

-- the bytes of a span in a table: its start and its length, eight bytes each, the low byte first
abbrev pub span_bytes : Span → List ℕ
span_bytes span = to_le_bytes w64 span.start ++ to_le_bytes w64 span.len

-- a table of spans: their bytes, one after the other
abbrev pub table_of : List Span → List ℕ
table_of spans = flat_map span_bytes spans

-- the span that the first sixteen bytes of a table say
abbrev pub first_span : List ℕ → Span
first_span table = record { start = from_le_bytes w64 (take 8 table); len = from_le_bytes w64 (take 8 (drop 8 table)) }

-- the first so many spans that a table lists
abbrev pub spans_from : ℕ → List ℕ → List Span
spans_from zero table = []
spans_from (suc count) table = first_span table ∷ spans_from count (drop 16 table)

-- all the spans that a table lists
unfoldable pub spans_in : List ℕ → List Span
spans_in table = spans_from (length table / 16) table
