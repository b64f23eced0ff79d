use Rattle.external_sort.specs.Records.{entry}
use Rattle.external_sort.proofs.HeldLemmas.{taken}
use Rattle.external_sort.proofs.sorter.Sorter.push.Goals as goal

pub returns-clause-held : goal.returns-clause-held
returns-clause-held g c records h =
    let held = c.in_ok-make_room.ensures.held records h in
    record {
      kept = held.kept;
      stored = held.stored;
      empty = held.empty;
      all = taken held.kept c.make_room.new.self.batch c.push.new.self records (entry c.args.key.now c.args.value.now) held.all c.in_ok-push.ensures.pushed;
    }
