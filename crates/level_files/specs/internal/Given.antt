-- What a tree's writer was given, and what is read again of it.
use Rattle.std.specs.Prelude.{◌≡◌, ℕ, List, [], ◌∷◌, Option, Some, None}
use Rattle.level_files.specs.declared.level_writer.LevelWriter.{LevelWriter}
use Rattle.level_files.specs.internal.Files.{file_at}
use Rattle.tree_stream.specs.ReadBack.{IsLenOf}
use Rattle.tree_stream.specs.declared.levels_read.NodeLen.{NodeLen}

-- for each level the nodes that were put there
abbrev pub given_to : {S M : Type 0} → LevelWriter S M → ℕ → List (List ℕ)
given_to writer level = file_at writer.files.items level

-- the first node was measured and is gone, or there was none
abbrev pub IsNextLen : List (List ℕ) → List (List ℕ) → Option NodeLen → Type 0
IsNextLen old new (Some len) = (bytes : List ℕ) × (old ≡ bytes ∷ new) × IsLenOf bytes len
IsNextLen old new None = (old ≡ []) × (new ≡ [])
