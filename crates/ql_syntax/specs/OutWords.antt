-- The words after `out`.
-- Source: the Overpass QL page of the OpenStreetMap wiki, "Output action"; which are left out is this
-- project's.
use Rattle.std.specs.Prelude.{ℕ, Bool, ◌||◌, if◌then◌else◌, List, [], ◌∷◌, codes, bytes_eq}
use Rattle.osm_model.specs.declared.out_mode.OutMode.TheVariants as modes
use Rattle.ql_syntax.specs.Words.{is_one_of}
use Rattle.ql_syntax.specs.declared.out_word.OutWord.{OutWord}
use Rattle.ql_syntax.specs.declared.out_word.OutWord.TheVariants as words

-- the profile leaves out what this word asks for
abbrev pub is_unsupported : List ℕ → Bool
is_unsupported word = is_one_of word (codes "count" ∷ codes "geom" ∷ codes "center" ∷ codes "bb" ∷ codes "noids" ∷ [])

abbrev pub out_word : List ℕ → OutWord
out_word word =
    if is_unsupported word then words.Unsupported
    else if bytes_eq word (codes "ids") then words.Mode modes.Ids
    else if bytes_eq word (codes "tags") then words.Mode modes.Tags
    else if bytes_eq word (codes "skel") then words.Mode modes.Skel
    else if bytes_eq word (codes "body") then words.Mode modes.Body
    else if bytes_eq word (codes "meta") then words.Mode modes.Meta
    else if bytes_eq word (codes "asc") || bytes_eq word (codes "qt") then words.Order
    else words.Unknown
