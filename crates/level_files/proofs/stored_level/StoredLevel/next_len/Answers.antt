use Rattle.std.proofs.Common.{◌∙◌, ap, sym, refl, subst, List, ℕ, drop}
use Rattle.external_sort.specs.Runs.{run_at}
use Rattle.level_files.specs.Levels.{LevelNodes}
use Rattle.level_files.specs.internal.Given.{IsNextLen}
use Rattle.level_files.specs.internal.Rows.{nodes_of}
use Rattle.level_files.proofs.ReadingLemmas.{all_rows_there, at_measured, at_row, goes_on, measured, row_run_there}
use Rattle.level_files.proofs.FaultLemmas.{by_all, fault_told, no_fault, on_none}
use Rattle.level_files.proofs.stored_level.StoredLevel.next_len.Goals as goal

pub invariant_of-self : goal.invariant_of-self
invariant_of-self g c =
    let reading = c.self.invariant.goes_on c.in_default.is in
    record {
      goes_on = λ none.
          let ok = no_fault c.next-result.result (sym c.err-self-inside.ensures.value ∙ none) in
          goes_on _ _ _ _ _ _ _ _ reading c.self.inside.nodes.offset (g.S.RunStore.runs c.next-result.new.store) (g.S.RunStore.runs c.self.inside.nodes.store) c.self.inside.reader c.next-result.new.self
          (on_none c.next-result.result ok c.next-result.ensures.runs) refl reading.offset_is (at_row _ _ _ _ _ _ _ _ reading)
          (λ held. on_none c.next-result.result ok (c.next-result.ensures.at held (at_measured _ _ _ _ _ _ _ _ reading held)));
      calm = λ held calm told. c.next-result.ensures.given calm (row_run_there _ _ _ _ _ _ _ _ reading) (all_rows_there _ _ _ _ _ _ _ _ reading) (fault_told c.next-result.result (sym c.err-self-inside.ensures.value ∙ told));
    }

pub returns-clause-measured : goal.returns-clause-measured
returns-clause-measured g c = λ held.
    let reading = c.self.invariant.goes_on c.in_default.is in
    let byte_runs = g.S.RunStore.runs c.self.inside.nodes.store in
    let old = c.self.inside.measurer.passed in
    let new = c.next-result.new.self.passed in
    let nodes : List (List ℕ) → List (List ℕ) = λ row_runs. nodes_of c.self.inside.count (run_at 0 row_runs) (run_at 0 byte_runs) in
    let row_runs = g.S.RunStore.runs c.self.inside.rows in
    by_all c.next-result.result
    (λ row is passed runs.
    subst (λ (unmeasured : List (List ℕ)). IsNextLen unmeasured (drop new (nodes (g.S.RunStore.runs c.next-result.new.store))) row) (ap (λ (l : LevelNodes). l.unmeasured) c.self.view_is)
    (subst (λ (rs : List (List ℕ)). IsNextLen (drop old (nodes row_runs)) (drop new (nodes rs)) row) (sym runs)
    (measured _ _ _ _ _ _ _ _ reading old new row is passed)))
    (c.next-result.ensures.row held (at_measured _ _ _ _ _ _ _ _ reading held)) c.next-result.ensures.passed c.next-result.ensures.runs

pub returns-clause-given : goal.returns-clause-given
returns-clause-given g c = λ held calm.
    let reading = c.self.invariant.goes_on c.in_default.is in
    c.next-result.ensures.given calm (row_run_there _ _ _ _ _ _ _ _ reading) (all_rows_there _ _ _ _ _ _ _ _ reading)
