-- Parts of the bytes that are kept of a file.
-- Source: this project.
use Rattle.std.specs.Prelude.{◌≡◌, ◌≤◌, ℕ, ◌+◌, ◌-◌, List, slice_range}
use Rattle.std.specs.List.{Contains}
use Rattle.http_ranges.specs.declared.kept.Kept.{Kept}
use Rattle.http_ranges.specs.declared.kept.KeptSpan.{KeptSpan}

-- The part has so many bytes of the file from the offset on, which are in the span: those that stand as far after the span's
-- first byte as the offset is after its start.
pub record IsPartOf (bytes : List ℕ) (kept : KeptSpan) (offset len : ℕ) (part : List ℕ) : Type 0 where
  pub after : kept.span.start ≤ offset
  pub before : offset + len ≤ kept.span.end
  pub is : part ≡ slice_range bytes (kept.from + (offset - kept.span.start)) ((kept.from + (offset - kept.span.start)) + len)

-- it is such a part of a span that is kept
abbrev pub IsKept : Kept → ℕ → ℕ → List ℕ → Type 0
IsKept all offset len part = (kept : KeptSpan) × IsPartOf all.bytes.items kept offset len part
