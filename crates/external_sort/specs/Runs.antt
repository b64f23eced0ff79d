-- The runs of a store.
-- Source: this project.
use Rattle.std.specs.Prelude.{ℕ, List, [], slice_index_or}

-- the bytes of a run; none where there is no such run
abbrev pub run_at : ℕ → List (List ℕ) → List ℕ
run_at run runs = slice_index_or runs run []
