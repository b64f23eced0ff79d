-- Where the head of a request begins and ends, and how many lines it has.
-- Source: RFC 9112, sections 2.1 and 2.2; that a bare LF ends a line too, and the limits, are this project's.
use Rattle.std.specs.Prelude.{ℕ, Bool, false, ◌&&◌, ◌||◌, List, [], ◌∷◌, Option, Some, None, option_map, if◌then◌else◌, ◌==◌, nat_lt, suc}
use Rattle.std.specs.List.{count_by}
use Rattle.osm_model.specs.Bytes.{carriage_return, line_feed}

-- CR or LF
abbrev pub is_break : ℕ → Bool
is_break b = b == carriage_return || b == line_feed

abbrev pub begins_with_break : List ℕ → Bool
begins_with_break [] = false
begins_with_break (b ∷ bytes) = is_break b

-- the bytes without the CR and LF before them
abbrev pub skip_breaks : List ℕ → List ℕ
skip_breaks [] = []
skip_breaks (b ∷ bytes) = if is_break b then skip_breaks bytes else b ∷ bytes

-- the length of the empty line at the front, which is LF or CR LF; 0 where there is none
abbrev pub empty_line : List ℕ → ℕ
empty_line [] = 0
empty_line (b ∷ []) = if b == line_feed then 1 else 0
empty_line (b ∷ c ∷ bytes) = if b == line_feed then 1 else (if b == carriage_return && c == line_feed then 2 else 0)

-- a head ends with the first LF that an empty line follows, and with that line: the length up to there, or none
abbrev pub head_length : List ℕ → Option ℕ
head_length [] = None
head_length (b ∷ bytes) =
    if b == line_feed && nat_lt 0 (empty_line bytes) then Some (suc (empty_line bytes))
    else option_map (λ n. suc n) (head_length bytes)

-- the number of LF
abbrev pub line_feeds : List ℕ → ℕ
line_feeds bytes = count_by (λ b. b == line_feed) bytes
