use Rattle.std.proofs.Common.{rules, ◌≡◌, Some, None, Ok, Option, List, ℕ, map, subst, IfOk}
use Rattle.entry_sort.specs.Sorting.{Explains}
use Rattle.entry_sort.specs.internal.Names.{HoldsNames, IsLeastRepeat, Named, name_record}
use Rattle.entry_sort.specs.internal.Puts.{names_of}
use Rattle.entry_sort.proofs.FinalLemmas.{any_file, names_held, ready, repeat_told}
use Rattle.entry_sort.proofs.file_entries.give_gathered.Goals as goal

pub returns-in-Ok-Some-clause-refused : goal.returns-in-Ok-Some-clause-refused
returns-in-Ok-Some-clause-refused g c is_true fresh known h =
    let is : c.in-Ok-Some.field-0 ≡ Some c.in-Ok-Some.line = search rules in
    let least = c.in-Ok-Some.ensures.least is_true (names_of h.puts) (names_held g.S.RunStore.runs g.S.RunStore.in_hand c.args.end c.args.gathering h.puts h.taken) in
    repeat_told g.S.RunStore.runs g.S.RunStore.in_hand known c.args.end c.args.gathering h c.in-Ok-Some.line c.repeated.result
    (subst (IsLeastRepeat (map name_record (names_of h.puts))) is least) c.repeated.ensures

pub returns-in-Ok-None-clause-taken : goal.returns-in-Ok-None-clause-taken
returns-in-Ok-None-clause-taken g c is_true fresh known h =
    let is : c.in-Ok-None.field-0 ≡ None = search rules in
    let least = c.in-Ok-None.ensures.least is_true (names_of h.puts) (names_held g.S.RunStore.runs g.S.RunStore.in_hand c.args.end c.args.gathering h.puts h.taken) in
    c.give_entries.ensures.taken is_true fresh known
    (ready g.S.RunStore.runs g.S.RunStore.in_hand known c.args.end c.args.gathering h (subst (IsLeastRepeat (map name_record (names_of h.puts))) is least))

pub returns-in-Ok-None-clause-refused : goal.returns-in-Ok-None-clause-refused
returns-in-Ok-None-clause-refused g c is_true fresh known h =
    let is : c.in-Ok-None.field-0 ≡ None = search rules in
    let least = c.in-Ok-None.ensures.least is_true (names_of h.puts) (names_held g.S.RunStore.runs g.S.RunStore.in_hand c.args.end c.args.gathering h.puts h.taken) in
    c.give_entries.ensures.refused is_true fresh known
    (ready g.S.RunStore.runs g.S.RunStore.in_hand known c.args.end c.args.gathering h (subst (IsLeastRepeat (map name_record (names_of h.puts))) is least))

pub returns-in-Err-clause-refused : goal.returns-in-Err-clause-refused
returns-in-Err-clause-refused g c is_true fresh known h = any_file known (λ file. Explains file c.sorting.result) c.sorting.ensures.outside

pub returns-in-Ok-None-clause-device : goal.returns-in-Ok-None-clause-device
returns-in-Ok-None-clause-device g c refuses is_true sinks known h =
    let is : c.in-Ok-None.field-0 ≡ None = search rules in
    let least = c.in-Ok-None.ensures.least is_true (names_of h.puts) (names_held g.S.RunStore.runs g.S.RunStore.in_hand c.args.end c.args.gathering h.puts h.taken) in
    c.give_entries.ensures.device refuses is_true sinks known
    (ready g.S.RunStore.runs g.S.RunStore.in_hand known c.args.end c.args.gathering h (subst (IsLeastRepeat (map name_record (names_of h.puts))) is least))
