-- The levels of one tree, while its nodes come.
use Rattle.std.specs.Prelude.{ℕ, List, [], slice_index_or}

-- the nodes of a level; none where the level isn't there
abbrev pub file_at : List (List (List ℕ)) → ℕ → List (List ℕ)
file_at files level = slice_index_or files level []
