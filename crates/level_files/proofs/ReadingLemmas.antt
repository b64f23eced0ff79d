-- A level that is read.
use Rattle.std.proofs.Common.{◌≡◌, ◌∙◌, sym, ap, subst, ℕ, ◌+◌, ◌*◌, ◌<◌, ◌≤◌, Bool, true, List, [], ◌∷◌, length, take, drop, arith}
use Rattle.std.proofs.lemmas.List.{drop_all}
use Rattle.std.specs.Prelude.{None, Option, Some, slice_index}
use Rattle.external_sort.specs.Runs.{run_at}
use Rattle.tree_stream.specs.declared.levels_read.NodeLen.{NodeLen}
use Rattle.level_files.specs.internal.Given.{IsNextLen}
use Rattle.level_files.specs.internal.Keeping.{IsEnded, IsReading}
use Rattle.level_files.specs.internal.Rows.{IsAt, IsRow, joined, len_in, nodes_of, passed_by}
use Rattle.level_files.specs.declared.row_reader.RowReader.{RowReader}
use Rattle.level_files.proofs.RowLemmas.{IsNextAt, all_rows, len_of, next_at, nodes_are}

-- ---- at the first node

pub begun : (held : Bool) (count size : ℕ) (row_runs byte_runs : List (List ℕ)) (reader measurer : RowReader) → IsEnded count size row_runs byte_runs
    → reader.passed ≡ 0 → ((rows : List ℕ) → IsAt rows reader) → ((rows : List ℕ) → IsAt rows measurer) → IsReading held count size 0 row_runs byte_runs reader measurer
begun held count size row_runs byte_runs reader measurer ended passed at measured = record {
  rows = ended.rows;
  bytes = ended.bytes;
  nodes = ended.nodes;
  are = ended.are;
  rows_run = ended.rows_run;
  bytes_run = ended.bytes_run;
  offset_is = λ _. sym (ap (λ (n : ℕ). length (joined (take n ended.nodes))) passed);
  reader_at = λ _. at ended.rows;
  measurer_at = λ _. measured ended.rows;
}

module _ (is_true : Bool) (count size offset : ℕ) (row_runs byte_runs : List (List ℕ)) (reader measurer : RowReader) (reading : IsReading is_true count size offset row_runs byte_runs reader measurer) where
  pub ended_of : IsEnded count size row_runs byte_runs
  ended_of = record { rows = reading.rows; bytes = reading.bytes; nodes = reading.nodes; are = reading.are; rows_run = reading.rows_run; bytes_run = reading.bytes_run }

  row_run_is : run_at 0 row_runs ≡ reading.rows
  row_run_is = ap (run_at 0) reading.rows_run

  byte_run_is : run_at 0 byte_runs ≡ reading.bytes
  byte_run_is = ap (run_at 0) reading.bytes_run

  all_are : nodes_of count (run_at 0 row_runs) (run_at 0 byte_runs) ≡ reading.nodes
  all_are =
      ap (λ (rs : List ℕ). nodes_of count rs (run_at 0 byte_runs)) row_run_is
      ∙ ap (λ (bs : List ℕ). nodes_of count reading.rows bs) byte_run_is
      ∙ nodes_are count size reading.rows reading.bytes reading.nodes reading.are

  -- ---- what stands in the runs

  pub row_run_there : 0 < length row_runs
  row_run_there = omega (arith, ap (length {A = List ℕ}) reading.rows_run)

  pub byte_run_there : 0 < length byte_runs
  byte_run_there = omega (arith, ap (length {A = List ℕ}) reading.bytes_run)

  pub all_rows_there : 5 * count ≤ length (run_at 0 row_runs)
  all_rows_there = omega (arith, ap (length {A = ℕ}) row_run_is, all_rows count size reading.rows reading.bytes reading.nodes reading.are)

  pub all_bytes_there : size ≤ length (run_at 0 byte_runs)
  all_bytes_there = omega (arith, ap (length {A = ℕ}) byte_run_is, reading.are.size_is, ap (length {A = ℕ}) reading.are.bytes_are)

  pub at_row : is_true ≡ true → IsAt (run_at 0 row_runs) reader
  at_row held = subst (λ (rs : List ℕ). IsAt rs reader) (sym row_run_is) (reading.reader_at held)

  pub at_measured : is_true ≡ true → IsAt (run_at 0 row_runs) measurer
  at_measured held = subst (λ (rs : List ℕ). IsAt rs measurer) (sym row_run_is) (reading.measurer_at held)

  -- ---- the end

  pub none_left : (passed : ℕ) → count ≤ passed → drop passed (nodes_of count (run_at 0 row_runs) (run_at 0 byte_runs)) ≡ []
  none_left passed all = ap (drop passed) all_are ∙ drop_all passed reading.nodes (omega (arith, reading.are.number, all))

  -- ---- the next node

  -- this node is next after so many
  next_in : (passed : ℕ) → passed < count → (node : List ℕ) × IsNextAt reading.rows reading.bytes reading.nodes passed node
  next_in passed below = next_at count size reading.rows reading.bytes reading.nodes passed reading.are below

  len_is : (passed len : ℕ) (node : List ℕ) → IsNextAt reading.rows reading.bytes reading.nodes passed node → len ≡ len_in (drop (5 * passed) (run_at 0 row_runs)) → len ≡ length node
  len_is passed len node next told = told ∙ ap (λ (rs : List ℕ). len_in (drop (5 * passed) rs)) row_run_is ∙ next.len

  first_is : (passed passed' : ℕ) (node : List ℕ) → IsNextAt reading.rows reading.bytes reading.nodes passed node → passed' ≡ passed + 1
      → drop passed (nodes_of count (run_at 0 row_runs) (run_at 0 byte_runs)) ≡ node ∷ drop passed' (nodes_of count (run_at 0 row_runs) (run_at 0 byte_runs))
  first_is passed passed' node next one =
      ap (drop passed) all_are ∙ next.first ∙ ap (λ (n : ℕ). node ∷ drop n reading.nodes) (sym one)
      ∙ ap (λ (ns : List (List ℕ)). node ∷ drop passed' ns) (sym all_are)

  pub read_next : is_true ≡ true → (len passed' : ℕ) (into : List ℕ) → reader.passed < count → len ≡ len_in (drop (5 * reader.passed) (run_at 0 row_runs)) → passed' ≡ reader.passed + 1
      → into ≡ take len (drop offset (run_at 0 byte_runs))
      → drop reader.passed (nodes_of count (run_at 0 row_runs) (run_at 0 byte_runs)) ≡ into ∷ drop passed' (nodes_of count (run_at 0 row_runs) (run_at 0 byte_runs))
  read_next held len passed' into below told one read =
      let (node, next) = next_in reader.passed below in
      let into_is : into ≡ node =
      read ∙ ap (λ (n : ℕ). take n (drop offset (run_at 0 byte_runs))) (len_is reader.passed len node next told)
      ∙ ap (λ (bs : List ℕ). take (length node) (drop offset bs)) byte_run_is
      ∙ ap (λ (n : ℕ). take (length node) (drop n reading.bytes)) (reading.offset_is held)
      ∙ next.text in
      first_is reader.passed passed' node next one
      ∙ ap (λ (n : List ℕ). n ∷ drop passed' (nodes_of count (run_at 0 row_runs) (run_at 0 byte_runs))) (sym into_is)

  pub read_within : is_true ≡ true → (len : ℕ) → reader.passed < count → len ≡ len_in (drop (5 * reader.passed) (run_at 0 row_runs)) → offset + len ≤ size
  read_within held len below told =
      let (node, next) = next_in reader.passed below in
      omega (arith, next.within, len_is reader.passed len node next told, reading.offset_is held, reading.are.size_is, ap (length {A = ℕ}) reading.are.bytes_are)

  pub offset_on : is_true ≡ true → (len offset' passed' : ℕ) → reader.passed < count → len ≡ len_in (drop (5 * reader.passed) (run_at 0 row_runs)) → passed' ≡ reader.passed + 1
      → offset' ≡ offset + len → offset' ≡ length (joined (take passed' reading.nodes))
  offset_on held len offset' passed' below told one on =
      let (node, next) = next_in reader.passed below in
      on ∙ ap (λ (n : ℕ). n + len) (reading.offset_is held) ∙ ap (λ (n : ℕ). length (joined (take reader.passed reading.nodes)) + n) (len_is reader.passed len node next told)
      ∙ sym next.after ∙ ap (λ (n : ℕ). length (joined (take n reading.nodes))) (sym one)

  measured_next : (passed passed' : ℕ) (len : NodeLen) → passed < count → len.bytes ≡ len_in (drop (5 * passed) (run_at 0 row_runs))
      → len.children ≡ slice_index (drop (5 * passed) (run_at 0 row_runs)) 4 → passed' ≡ passed + 1
      → IsNextLen (drop passed (nodes_of count (run_at 0 row_runs) (run_at 0 byte_runs))) (drop passed' (nodes_of count (run_at 0 row_runs) (run_at 0 byte_runs))) (Some len)
  measured_next passed passed' len below told children one =
      let (node, next) = next_in passed below in (
        node,
        first_is passed passed' node next one,
        len_of node len (len_is passed len.bytes node next told) (children ∙ ap (λ (rs : List ℕ). slice_index (drop (5 * passed) rs) 4) row_run_is ∙ next.children),
      )

  pub measured : (passed passed' : ℕ) (row : Option NodeLen) → IsRow (run_at 0 row_runs) count passed row → passed' ≡ passed_by passed row
      → IsNextLen (drop passed (nodes_of count (run_at 0 row_runs) (run_at 0 byte_runs))) (drop passed' (nodes_of count (run_at 0 row_runs) (run_at 0 byte_runs))) row
  measured passed passed' None all same =
      (none_left passed all, ap (λ (n : ℕ). drop n (nodes_of count (run_at 0 row_runs) (run_at 0 byte_runs))) same ∙ none_left passed all)
  measured passed passed' (Some len) is one = measured_next passed passed' len is.0 is.1 is.2 one

  -- ---- further reading

  pub goes_on : (offset' : ℕ) (row_runs' byte_runs' : List (List ℕ)) (reader' measurer' : RowReader) → row_runs' ≡ row_runs → byte_runs' ≡ byte_runs
      → (is_true ≡ true → offset' ≡ length (joined (take reader'.passed reading.nodes)))
      → (is_true ≡ true → IsAt (run_at 0 row_runs) reader') → (is_true ≡ true → IsAt (run_at 0 row_runs) measurer')
      → IsReading is_true count size offset' row_runs' byte_runs' reader' measurer'
  goes_on offset' row_runs' byte_runs' reader' measurer' same_rows same_bytes offset_is at measured = record {
    rows = reading.rows;
    bytes = reading.bytes;
    nodes = reading.nodes;
    are = reading.are;
    rows_run = same_rows ∙ reading.rows_run;
    bytes_run = same_bytes ∙ reading.bytes_run;
    offset_is = offset_is;
    reader_at = λ held. subst (λ (rs : List ℕ). IsAt rs reader') row_run_is (at held);
    measurer_at = λ held. subst (λ (rs : List ℕ). IsAt rs measurer') row_run_is (measured held);
  }
