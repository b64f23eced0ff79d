use Rattle.std.proofs.Common.{◌≡◌, FitsSigned, w16, w32, w64, ℕ, List, length, take, ap, ◌∙◌, arith, rules}
use Rattle.std.specs.Int.{from_be_bytes}
use Rattle.std.proofs.lemmas.Int.{to_z-of_z}
use Rattle.osm_keys.specs.Keys.{id_bytes}
use Rattle.light_keys.proofs.FineLemmas.{key_len, key_read, column_is, row_is}
use Rattle.light_keys.proofs.read_fine.read_key.Goals as goal
use Rattle.light_keys.proofs.read_fine.read_key.Goals.{then-row-gt-LAST_ROW-via-then-row-gt-LAST_ROW, then-row-gt-LAST_ROW-via-else-row-gt-LAST_ROW+then-column-gt-LAST_COLUMN}

pub returns-in_err-row-clause-none : goal.returns-in_err-row-clause-none
returns-in_err-row-clause-none c = λ _ row column id is e.
    let few = c.in_err-row.ensures.cases in
    let l = ap length e in
    let m = key_len row column id in
    omega (arith, few, l, m)

pub returns-in_err-column-clause-none : goal.returns-in_err-column-clause-none
returns-in_err-column-clause-none c = λ _ row column id is e.
    let few = c.in_err-column.ensures.cases in
    let l = ap length e in
    let m = key_len row column id in
    let n = c.in_ok-row.ensures.cases.2 in
    omega (arith, few, l, m, n)

pub returns-in_err-as_array-clause-none : goal.returns-in_err-as_array-clause-none
returns-in_err-as_array-clause-none c = λ _ row column id is e.
    let l = ap length e in
    let m = key_len row column id in
    let n = c.in_ok-row.ensures.cases.2 in
    let o = c.in_ok-column.ensures.cases.2 in
    c.in_err-as_array.ensures.cases (omega (arith, l, m, n, o))

pub returns-then-row-gt-LAST_ROW-clause-none : goal.returns-then-row-gt-LAST_ROW-clause-none
returns-then-row-gt-LAST_ROW-clause-none c = λ _ row column id is e.
    let first = c.from_be_bytes-row.ensures ∙ ap (λ (l : List ℕ). from_be_bytes w16 l) c.in_ok-row.ensures.cases.0 ∙ row_is c.args.key.now row column id is e in
    let second = c.from_be_bytes-column.ensures ∙ ap (λ (l : List ℕ). from_be_bytes w32 l) (c.in_ok-column.ensures.cases.0 ∙ ap (λ (l : List ℕ). take 4 l) c.in_ok-row.ensures.cases.1) ∙ column_is c.args.key.now row column id is e in
    let rows = is.in_rows in
    let columns = is.in_columns in
    elim c.then-row-gt-LAST_ROW.branch [
      | then-row-gt-LAST_ROW-via-then-row-gt-LAST_ROW w ↦ let many = w.if-row-gt-LAST_ROW.true in omega (arith, first, rows, many)
      | then-row-gt-LAST_ROW-via-else-row-gt-LAST_ROW+then-column-gt-LAST_COLUMN w ↦ let many = w.if-column-gt-LAST_COLUMN.true in omega (arith, second, columns, many)
    ]

pub returns-clause-some : goal.returns-clause-some
returns-clause-some c =
    let row = c.in_ok-row.ensures.cases in
    let column = c.in_ok-column.ensures.cases in
    let fits : FitsSigned w64 c.id_of-id.result = search rules in
    let read = key_read c.args.key.now c.in_ok-row.row.now c.in_ok-column.column.now c.in_ok-row.rest.now c.in_ok-column.id.now c.from_be_bytes-row.result c.from_be_bytes-column.result (λ i. omega (arith, c.type_inv.key i))
    row.0 row.1 row.2 column.0 column.1 column.2 c.from_be_bytes-row.ensures c.from_be_bytes-column.ensures in
    let id : id_bytes c.id_of-id.result ≡ c.in_ok-column.id.now = c.id_of-id.ensures ∙ c.in_ok-as_array.ensures.cases.same in
    rw (to_z-of_z w64 c.id_of-id.result fits, id) read
