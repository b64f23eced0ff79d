use Rattle.std.proofs.Common.{◌≡◌, ◌∙◌, ap, refl, subst, Option, ◌+◌}
use Rattle.std.proofs.lemmas.Result.{err_from_is_err_and}
use Rattle.external_sort.specs.Runs.{run_at}
use Rattle.tree_stream.specs.declared.levels_read.NodeLen.{NodeLen}
use Rattle.level_files.specs.internal.Rows.{IsRow, passed_by}
use Rattle.level_files.proofs.FaultLemmas.{same_fault}
use Rattle.level_files.proofs.ReadingLemmas.{all_bytes_there, all_rows_there, at_measured, at_row, byte_run_there, goes_on, none_left, offset_on, read_next, read_within, row_run_there}
use Rattle.level_files.proofs.stored_level.read_node.Goals as goal

pub returns-in_err-len-clause-given : goal.returns-in_err-len-clause-given
returns-in_err-len-clause-given g c = λ measurer reading held calm.
    let p = err_from_is_err_and c.from_residual.result c.from_residual.ensures.1 in
    rw (p.1, p.2) (λ e. c.in_err-len.ensures.given calm (row_run_there _ _ _ _ _ _ _ _ reading) (all_rows_there _ _ _ _ _ _ _ _ reading) (same_fault e))

pub returns-in_default-clause-read : goal.returns-in_default-clause-read
returns-in_default-clause-read g c = λ measurer reading held.
    let row = c.in_ok-len.ensures.row held (at_row _ _ _ _ _ _ _ _ reading held) in
    let all = subst (λ (r : Option NodeLen). IsRow (run_at 0 (g.S.RunStore.runs c.args.rows.now)) c.args.count c.args.reader.now.passed r) c.in_default.is row in
    let same : c.next.new.self.passed ≡ c.args.reader.now.passed = c.in_ok-len.ensures.passed ∙ ap (passed_by c.args.reader.now.passed) c.in_default.is in (
      none_left _ _ _ _ _ _ _ _ reading c.args.reader.now.passed all,
      rw same (none_left _ _ _ _ _ _ _ _ reading c.args.reader.now.passed all),
    )

pub returns-in_default-clause-goes_on : goal.returns-in_default-clause-goes_on
returns-in_default-clause-goes_on g c = λ measurer reading.
    let same : c.next.new.self.passed ≡ c.args.reader.now.passed = c.in_ok-len.ensures.passed ∙ ap (passed_by c.args.reader.now.passed) c.in_default.is in
    goes_on _ _ _ _ _ _ _ _ reading c.args.nodes.now.offset (g.S.RunStore.runs c.next.new.store) (g.S.RunStore.runs c.args.nodes.now.store) c.next.new.self measurer c.in_ok-len.ensures.runs refl
    (λ held. rw same (reading.offset_is held))
    (λ held. c.in_ok-len.ensures.at held (at_row _ _ _ _ _ _ _ _ reading held))
    (at_measured _ _ _ _ _ _ _ _ reading)

pub returns-in_err-read-clause-given : goal.returns-in_err-read-clause-given
returns-in_err-read-clause-given g c = λ measurer reading held calm.
    let row = c.in_ok-len.ensures.row held (at_row _ _ _ _ _ _ _ _ reading held) in
    let some = subst (λ (r : Option NodeLen). IsRow (run_at 0 (g.S.RunStore.runs c.args.rows.now)) c.args.count c.args.reader.now.passed r) c.in-Some.is row in
    let p = err_from_is_err_and c.from_residual-in_err-read.result c.from_residual-in_err-read.ensures.1 in
    rw (p.1, p.2) (λ e. c.in_err-read.ensures.given calm (byte_run_there _ _ _ _ _ _ _ _ reading) (all_bytes_there _ _ _ _ _ _ _ _ reading) (read_within _ _ _ _ _ _ _ _ reading held c.in-Some.len.bytes some.0 some.1) (same_fault e))

pub returns-clause-read : goal.returns-clause-read
returns-clause-read g c = λ measurer reading held.
    let row = c.in_ok-len.ensures.row held (at_row _ _ _ _ _ _ _ _ reading held) in
    let some = subst (λ (r : Option NodeLen). IsRow (run_at 0 (g.S.RunStore.runs c.args.rows.now)) c.args.count c.args.reader.now.passed r) c.in-Some.is row in
    let one : c.next.new.self.passed ≡ c.args.reader.now.passed + 1 = c.in_ok-len.ensures.passed ∙ ap (passed_by c.args.reader.now.passed) c.in-Some.is in
    read_next _ _ _ _ _ _ _ _ reading held c.in-Some.len.bytes c.next.new.self.passed c.read.new.into.items some.0 some.1 one (c.in_ok-read.ensures.read held)

pub returns-clause-goes_on : goal.returns-clause-goes_on
returns-clause-goes_on g c = λ measurer reading.
    let one : c.next.new.self.passed ≡ c.args.reader.now.passed + 1 = c.in_ok-len.ensures.passed ∙ ap (passed_by c.args.reader.now.passed) c.in-Some.is in
    rw c.read.ensures.size (goes_on _ _ _ _ _ _ _ _ reading c.read.new.self.offset (g.S.RunStore.runs c.next.new.store) (g.S.RunStore.runs c.read.new.self.store) c.next.new.self measurer c.in_ok-len.ensures.runs c.in_ok-read.ensures.runs
    (λ held.
    let row = c.in_ok-len.ensures.row held (at_row _ _ _ _ _ _ _ _ reading held) in
    let some = subst (λ (r : Option NodeLen). IsRow (run_at 0 (g.S.RunStore.runs c.args.rows.now)) c.args.count c.args.reader.now.passed r) c.in-Some.is row in
    offset_on _ _ _ _ _ _ _ _ reading held c.in-Some.len.bytes c.read.new.self.offset c.next.new.self.passed some.0 some.1 one c.in_ok-read.ensures.offset)
    (λ held. c.in_ok-len.ensures.at held (at_row _ _ _ _ _ _ _ _ reading held))
    (at_measured _ _ _ _ _ _ _ _ reading))
