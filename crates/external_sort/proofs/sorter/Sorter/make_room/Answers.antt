use Rattle.std.proofs.Common.{◌++◌, ◌∷◌, []}
use Rattle.external_sort.proofs.HeldLemmas.{written}
use Rattle.external_sort.proofs.sorter.Sorter.make_room.Goals as goal

pub returns-in_ok-write_run-clause-held : goal.returns-in_ok-write_run-clause-held
returns-in_ok-write_run-clause-held g c records h =
    let (es, perm, stored) = c.in_ok-write_run.ensures.run h.kept h.stored h.empty in
    record {
      kept = h.kept ++ es ∷ [];
      stored = stored;
      empty = c.in_ok-write_run.ensures.in_hand;
      all = written h.kept c.args.self.now.batch es c.write_run.new.batch records h.all perm c.in_ok-write_run.ensures.batch;
    }
