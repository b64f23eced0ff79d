-- The nodes of a level as a device keeps them: one after the other in one run, and in another run a row for each, with the
-- number of its bytes in four bytes, the greatest first, and the number of its children in one.
use Rattle.std.specs.Prelude.{◌≡◌, ℕ, zero, suc, ◌+◌, ◌*◌, ◌<◌, ◌≤◌, ◌^◌, ◌==◌, List, [], ◌∷◌, ◌++◌, length, take, drop, slice_index, if◌then◌else◌, Option, Some, None}
use Rattle.std.specs.Int.{w32, from_be_bytes, to_be_bytes}
use Rattle.std.specs.List.{flat_map}
use Rattle.tree_stream.specs.declared.levels_read.NodeLen.{NodeLen}
use Rattle.level_files.specs.Levels.{LevelNodes}
use Rattle.level_files.specs.declared.row_reader.RowReader.{RowReader}

-- the number of the children of a node with these bytes: its second byte is its level, and the fourth one the lower one of
-- the number of its items, which are at most 64
abbrev pub children_in : List ℕ → ℕ
children_in node = if slice_index node 1 == 0 then 0 else slice_index node 3

abbrev pub row_of : List ℕ → List ℕ
row_of node = to_be_bytes w32 (length node) ++ children_in node ∷ []

-- the length fits a row
abbrev pub IsShort : List ℕ → Type 0
IsShort node = length node < 2 ^ 32

abbrev pub joined : List (List ℕ) → List ℕ
joined nodes = flat_map (λ (node : List ℕ). node) nodes

abbrev pub rows_of : List (List ℕ) → List ℕ
rows_of nodes = flat_map row_of nodes

-- the number of bytes that the row at the front states
abbrev pub len_in : List ℕ → ℕ
len_in rows = from_be_bytes w32 (take 4 rows)

-- so many nodes, by their rows
abbrev pub nodes_of : ℕ → List ℕ → List ℕ → List (List ℕ)
nodes_of zero rows bytes = []
nodes_of (suc count) rows bytes = take (len_in rows) bytes ∷ nodes_of count (drop 5 rows) (drop (len_in rows) bytes)

-- the nodes, and those that are left after so many were read and so many measured
abbrev pub level_of : ℕ → List ℕ → List ℕ → ℕ → ℕ → LevelNodes
level_of count rows bytes read measured = record {
  nodes = nodes_of count rows bytes;
  unread = drop read (nodes_of count rows bytes);
  unmeasured = drop measured (nodes_of count rows bytes);
}

-- what the reader has in its buffer stands there in the run of rows

pub record IsAt (rows : List ℕ) (reader : RowReader) : Type 0 where
  pub low : reader.first ≤ reader.passed
  pub same : reader.buffer.items ≡ take (length reader.buffer.items) (drop (5 * reader.first) rows)

-- it is what the next row states; none where all rows were passed
abbrev pub IsRow : List ℕ → ℕ → ℕ → Option NodeLen → Type 0
IsRow rows count passed None = count ≤ passed
IsRow rows count passed (Some len) =
    (passed < count) × (len.bytes ≡ len_in (drop (5 * passed) rows)) × (len.children ≡ slice_index (drop (5 * passed) rows) 4)

-- it passed that row
abbrev pub passed_by : ℕ → Option NodeLen → ℕ
passed_by passed None = passed
passed_by passed (Some len) = passed + 1
