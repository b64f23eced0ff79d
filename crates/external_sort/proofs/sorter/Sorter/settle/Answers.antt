use Rattle.std.proofs.Common.{rules, ◌≡◌, inl, inr, ◌++◌, ◌∷◌, [], arith}
use Rattle.std.proofs.lemmas.List.{nil_from_length}
use Rattle.external_sort.proofs.BeginLemmas.{as_many}
use Rattle.external_sort.proofs.HeldLemmas.{settled, written}
use Rattle.external_sort.proofs.sorter.Sorter.settle.Goals as goal

pub returns-then-is_empty-clause-settled : goal.returns-then-is_empty-clause-settled
returns-then-is_empty-clause-settled g c records h =
    let s = c.args.self.now in
    let none : s.lens.len ≡ 0 = search rules in
    let no_runs : h.kept ≡ [] = nil_from_length h.kept (omega (arith, none, s.lens.ok.0, as_many (g.S.RunStore.runs s.store) s.lens.items h.kept h.stored)) in
    record {
      kept = h.kept;
      stored = h.stored;
      all = settled h.kept s.batch c.sort.new.self records h.all c.sort.ensures.permutation;
      either = inl (no_runs, c.sort.ensures.rises);
    }

pub returns-in_ok-write_run-clause-settled : goal.returns-in_ok-write_run-clause-settled
returns-in_ok-write_run-clause-settled g c records h =
    let (es, perm, stored) = c.in_ok-write_run.ensures.run h.kept h.stored h.empty in
    record {
      kept = h.kept ++ es ∷ [];
      stored = stored;
      all = written h.kept c.args.self.now.batch es c.new.result records h.all perm c.new.ensures;
      either = inr c.new.ensures;
    }
