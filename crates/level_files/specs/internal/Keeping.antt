-- What the two runs of a level hold.
use Rattle.std.specs.Prelude.{◌≡◌, ◌≢◌, ℕ, Bool, true, false, List, [], ◌∷◌, length, take, Option, Some, None}
use Rattle.std.specs.List.{AllByRecursion}
use Rattle.tree_stream.specs.declared.levels_read.ReadBackFault.{ReadBackFault}
use Rattle.tree_stream.specs.declared.levels_read.ReadBackFault.TheVariants.{Device}
use Rattle.level_files.specs.internal.Rows.{IsAt, IsShort, joined, rows_of}
use Rattle.level_files.specs.declared.row_reader.RowReader.{RowReader}

-- the bytes are those of so many nodes, and the rows theirs
pub record AreNodes (count size : ℕ) (rows bytes : List ℕ) (nodes : List (List ℕ)) : Type 0 where
  pub number : length nodes ≡ count
  pub short : AllByRecursion IsShort nodes
  pub rows_are : rows ≡ rows_of nodes
  pub bytes_are : bytes ≡ joined nodes
  pub size_is : size ≡ length (joined nodes)

-- the runs in hand hold the nodes of a level, and no run was ended
pub record IsKept (count size : ℕ) (rows bytes : List ℕ) (ended_rows ended_bytes : List (List ℕ)) : Type 0 where
  pub nodes : List (List ℕ)
  pub are : AreNodes count size rows bytes nodes
  pub no_rows : ended_rows ≡ []
  pub no_bytes : ended_bytes ≡ []

-- the only runs hold the nodes of a level
pub record IsEnded (count size : ℕ) (row_runs byte_runs : List (List ℕ)) : Type 0 where
  pub rows : List ℕ
  pub bytes : List ℕ
  pub nodes : List (List ℕ)
  pub are : AreNodes count size rows bytes nodes
  pub rows_run : row_runs ≡ rows ∷ []
  pub bytes_run : byte_runs ≡ bytes ∷ []

-- The only runs hold the nodes of a level. One reader has passed the rows of the nodes before an offset.
pub record IsReading (is_true : Bool) (count size offset : ℕ) (row_runs byte_runs : List (List ℕ)) (reader measurer : RowReader) : Type 0 where
  pub rows : List ℕ
  pub bytes : List ℕ
  pub nodes : List (List ℕ)
  pub are : AreNodes count size rows bytes nodes
  pub rows_run : row_runs ≡ rows ∷ []
  pub bytes_run : byte_runs ≡ bytes ∷ []
  pub offset_is : is_true ≡ true → offset ≡ length (joined (take reader.passed nodes))
  pub reader_at : is_true ≡ true → IsAt rows reader
  pub measurer_at : is_true ≡ true → IsAt rows measurer

-- A level is read as long as no fault was told, and the device is at fault only where it may be.
pub record IsReadUnless (is_true may_refuse : Bool) (fault : Option ReadBackFault) (count size offset : ℕ) (row_runs byte_runs : List (List ℕ)) (reader measurer : RowReader) : Type 0 where
  pub goes_on : fault ≡ None → IsReading is_true count size offset row_runs byte_runs reader measurer
  pub calm : is_true ≡ true → may_refuse ≡ false → fault ≢ Some Device
