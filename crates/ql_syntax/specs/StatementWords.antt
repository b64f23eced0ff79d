-- The words that may begin a statement.
-- Source: the Overpass QL page of the OpenStreetMap wiki, "Statements"; which are left out is this
-- project's.
use Rattle.std.specs.Prelude.{ℕ, Bool, ◌||◌, if◌then◌else◌, List, [], ◌∷◌, codes, bytes_eq, Option, Some, None}
use Rattle.std.specs.Option.{unwrap_or}
use Rattle.ql_syntax.specs.Words.{is_one_of}
use Rattle.ql_syntax.specs.declared.pick.Pick.TheVariants as picks
use Rattle.ql_syntax.specs.declared.statement_word.StatementWord.{StatementWord}
use Rattle.ql_syntax.specs.declared.statement_word.StatementWord.TheVariants as words

-- block statements, standalone queries, and kinds of query statements that the profile leaves out
abbrev pub is_unsupported : List ℕ → Bool
is_unsupported word = is_one_of word
    (codes "foreach" ∷ codes "for" ∷ codes "if" ∷ codes "complete" ∷ codes "retro" ∷ codes "compare"
    ∷ codes "make" ∷ codes "convert" ∷ codes "map_to_area" ∷ codes "is_in" ∷ codes "timeline" ∷ codes "local"
    ∷ codes "area" ∷ codes "derived" ∷ codes "nw" ∷ codes "nr" ∷ codes "wr" ∷ [])

abbrev pub known_word : List ℕ → Option StatementWord
known_word word =
    if bytes_eq word (codes "node") then Some (words.Kind picks.Node)
    else if bytes_eq word (codes "way") then Some (words.Kind picks.Way)
    else if bytes_eq word (codes "rel") || bytes_eq word (codes "relation") then Some (words.Kind picks.Rel)
    else if bytes_eq word (codes "nwr") then Some (words.Kind picks.Nwr)
    else if bytes_eq word (codes "out") then Some words.Print
    else None

abbrev pub statement_word : List ℕ → StatementWord
statement_word word = unwrap_or (known_word word) (if is_unsupported word then words.Unsupported else words.Unknown)
