use Rattle.std.proofs.Common.{◌∙◌, ap, ℕ, ◌+◌, List, ◌++◌, drop}
use Rattle.external_sort.specs.Runs.{run_at}
use Rattle.external_sort.proofs.ReadLemmas.{read_on}
use Rattle.external_sort.proofs.run_reader.RunReader.read_up_to.Goals as goal

pub returns-clause-rest : goal.returns-clause-rest
returns-clause-rest g c is_true =
    let r = c.args.self.now in
    let run = run_at r.run (g.S.RunStore.runs c.args.store.now) in
    ap (λ (w : List ℕ). w ++ drop (r.offset + c.min-wanted.result) run) (c.in_ok-read.ensures.bytes is_true) ∙ read_on r.window run r.offset c.min-wanted.result
