use Rattle.std.proofs.Common.{◌≡◌, ◌++◌, map, take}
use Rattle.std.specs.List.{flat_map}
use Rattle.external_sort.specs.internal.Places.{entry_at}
use Rattle.external_sort.specs.internal.Spelling.{spelled}
use Rattle.external_sort.proofs.batch.Batch.write.Given as goal

abbrev pub invariant-loop-place : goal.invariant-loop-place
invariant-loop-place g l =
    let runs = g.S.RunStore.runs in
    let in_hand = g.S.RunStore.in_hand in
    record {
      written : in_hand l.store ≡ in_hand l.fn.store ++ flat_map spelled (map (entry_at l.self-inside.bytes.items) (take l.place-index l.self-inside.places.items));
      kept : runs l.store ≡ runs l.fn.store;
    }
