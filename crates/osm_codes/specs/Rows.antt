-- The rows that explain codes.
-- Source: this project.
use Rattle.std.specs.Prelude.{◌≡◌, ℕ, List, ◌++◌, codes, map}
use Rattle.std.specs.Char.{to_ascii_lowercase}
use Rattle.osm_codes.specs.declared.explanation.Explanation.{Explanation}

-- the row has this code; letters may be of either case
abbrev pub IsOfCode : List ℕ → Explanation → Type 0
IsOfCode code row = map to_ascii_lowercase row.code.now ≡ map to_ascii_lowercase code

-- a row in three lines
abbrev pub explanation_text : Explanation → List ℕ
explanation_text row =
    row.code.now ++ (codes ": " ++ (row.meaning.now
    ++ (codes "\nTold: " ++ (row.place.now
    ++ (codes "\nWhat to do: " ++ row.advice.now)))))
