use Rattle.std.proofs.Common.{◌≡◌, ◌+◌, arith}
use Rattle.external_sort.specs.Runs.{run_at}
use Rattle.level_files.proofs.RowLemmas.{row_here}
use Rattle.level_files.proofs.row_reader.RowReader.reach.Goals as goal

pub returns-then-at-len-clause-row : goal.returns-then-at-len-clause-row
returns-then-at-len-clause-row g c = λ held at.
    let self = c.args.self.now in
    let up : self.first + c.saturating_sub.result ≡ self.passed = omega (arith, at.low, c.saturating_sub.ensures) in
    row_here (run_at 0 (g.S.RunStore.runs c.args.store.now)) self.buffer.items self.first self.passed c.saturating_sub.result up at.same (omega (arith, c.if-at-len.true, c.len.ensures, self.buffer.ok.0))
