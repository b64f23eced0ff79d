-- The words that may begin a filter in parentheses.
-- Source: the Overpass QL page of the OpenStreetMap wiki, "Filters"; which are left out is this project's.
use Rattle.std.specs.Prelude.{ℕ, Bool, if◌then◌else◌, List, [], ◌∷◌, codes, bytes_eq, Option, None, Some}
use Rattle.ql_syntax.specs.Picks.{allows}
use Rattle.ql_syntax.specs.Words.{is_one_of}
use Rattle.ql_syntax.specs.declared.path.Path.{Path}
use Rattle.ql_syntax.specs.declared.path.Path.TheVariants as paths
use Rattle.ql_syntax.specs.declared.pick.Pick.{Pick}
use Rattle.ql_syntax.specs.declared.selector_word.SelectorWord.{SelectorWord}
use Rattle.ql_syntax.specs.declared.selector_word.SelectorWord.TheVariants as words

abbrev pub path_of : List ℕ → Option Path
path_of word =
    if bytes_eq word (codes "w") then Some paths.W
    else if bytes_eq word (codes "r") then Some paths.R
    else if bytes_eq word (codes "bn") then Some paths.Bn
    else if bytes_eq word (codes "bw") then Some paths.Bw
    else if bytes_eq word (codes "br") then Some paths.Br
    else None

-- the profile leaves out the filter that this word begins
abbrev pub is_unsupported : List ℕ → Bool
is_unsupported word = is_one_of word
    (codes "around" ∷ codes "poly" ∷ codes "changed" ∷ codes "newer" ∷ codes "user" ∷ codes "uid"
    ∷ codes "area" ∷ codes "pivot" ∷ codes "if" ∷ [])

-- a path that the kind lacks is left out too
abbrev pub path_word : Pick → Option Path → SelectorWord
path_word pick None = words.Unknown
path_word pick (Some path) = if allows pick path then words.Along path else words.Unsupported

abbrev pub selector_word : Pick → List ℕ → SelectorWord
selector_word pick word =
    if bytes_eq word (codes "id") then words.Ids
    else if is_unsupported word then words.Unsupported
    else path_word pick (path_of word)
