-- The pieces of a pack that a page has, and the parts of it that it has not.
-- Source: this project.
use Rattle.std.specs.List.{AllByRecursion, flat_map}
use Rattle.std.specs.List.Sorted.{IsStrictlySortedBy}
use Rattle.std.specs.Prelude.{◌≡◌, ◌≢◌, ◌≤◌, ◌<◌, ◌+◌, ◌%◌, ℕ, List, [], ◌∷◌, ⊤, length}
use Rattle.osm_query_web.specs.Spans.{Has, FitsSize, in_span, span_cmp, spans_in}
use Rattle.osm_query_web.specs.declared.span.Span.{Span}

-- ---- pieces

-- Each begins at `least` or after it, has some bytes and ends within the pack, and at least one byte lies between it and the next.
abbrev pub AreApart : (size least : ℕ) → List Span → Type 0
AreApart size least [] = ⊤
AreApart size least (span ∷ spans) =
    (least ≤ span.start) × (0 < span.len) × FitsSize size span × AreApart size (span.start + span.len + 1) spans

-- how many bytes they have together
abbrev pub total_len : List Span → ℕ
total_len [] = 0
total_len (span ∷ spans) = span.len + total_len spans

-- The table lists the pieces of a pack of so many bytes, which together have `len` bytes.
pub record IsTable (size len : ℕ) (table : List ℕ) : Type 0 where
  pub whole : length table % 16 ≡ 0
  pub apart : AreApart size 0 (spans_in table)
  pub len_is : total_len (spans_in table) ≡ len

-- The file has so many bytes, and those in the spans, one after the other, are these.
pub record IsPartsOf (size : ℕ) (spans : List Span) (bytes file : List ℕ) : Type 0 where
  pub size_is : length file ≡ size
  pub bytes_are : bytes ≡ flat_map (in_span file) spans

-- ---- what is missing

-- no single piece has all of it
abbrev pub IsMissing : List Span → Span → Type 0
IsMissing spans span = AllByRecursion (λ (piece : Span). ¬ Has piece span) spans

-- A part of a pack that is to be fetched: it has some bytes and ends within the pack, and no single piece has all of it.
pub record IsWanted (size : ℕ) (spans : List Span) (wanted : Span) : Type 0 where
  pub some : 0 < wanted.len
  pub within : FitsSize size wanted
  pub missing : IsMissing spans wanted

-- Such parts, one or more, in order, each once.
pub record AreWanted (size : ℕ) (spans wanted : List Span) : Type 0 where
  pub some : wanted ≢ []
  pub rising : IsStrictlySortedBy span_cmp wanted
  pub each : AllByRecursion (IsWanted size spans) wanted
