-- Blanks and comments, which may stand between tokens.
-- Source: the Overpass QL page of the OpenStreetMap wiki, "Comments": `//` to the end of the line, and
-- `/*` to the next `*/`. Which bytes are blanks is this project's.
use Rattle.std.specs.Prelude.{ℕ, Bool, ◌==◌, ◌&&◌, ◌||◌, if◌then◌else◌, List, [], ◌∷◌}
use Rattle.osm_model.specs.Bytes.{tab, line_feed, carriage_return, space, asterisk, slash}

-- space, tab, CR, LF
abbrev pub is_blank : ℕ → Bool
is_blank b = b == space || b == tab || b == carriage_return || b == line_feed

-- where a place may be, as far as blanks and comments go: between tokens; in a line comment; in a block
-- comment, which remembers what was left of the text at its first byte
pub data Where : Type 0 where
  Between : Where
  InLine : Where
  InBlock : List ℕ → Where

-- how a gap ends: after it this is left of the text; or a comment that begins here isn't closed
pub data GapEnd : Type 0 where
  After : List ℕ → GapEnd
  Open : List ℕ → GapEnd

-- the longest gap from a place on
abbrev pub gap : Where → List ℕ → GapEnd
gap Between [] = After []
gap Between (a ∷ []) = if is_blank a then After [] else After (a ∷ [])
gap Between (a ∷ b ∷ s) =
    if is_blank a then gap Between (b ∷ s)
    else if a == slash && b == slash then gap InLine s
    else if a == slash && b == asterisk then gap (InBlock (a ∷ b ∷ s)) s
    else After (a ∷ b ∷ s)
gap InLine [] = After []
gap InLine (a ∷ s) = if a == line_feed then gap Between s else gap InLine s
gap (InBlock comment) [] = Open comment
gap (InBlock comment) (a ∷ []) = Open comment
gap (InBlock comment) (a ∷ b ∷ s) = if a == asterisk && b == slash then gap Between s else gap (InBlock comment) (b ∷ s)
