-- The order in which readers give their records.
use Rattle.std.specs.Cmp.{IsTotalOrder}
use Rattle.std.specs.Cmp.Lexicographic.{slice_cmp}
use Rattle.std.specs.Ordering.{flip_args, nat_cmp, on, then_cmp}
use Rattle.std.specs.declared.cmp.Ordering.{Ordering}
use Rattle.std.proofs.lemmas.Cmp.{back_total, nat_cmp_total, nat_list_cmp_total, on_total, then_total}
use Rattle.external_sort.specs.declared.run_reader.RunReader.{RunReader}
use Rattle.external_sort.specs.internal.Reading.{head}

-- one with a lesser key is greater, and of two with one key the one of the earlier run
abbrev pub turn_cmp : RunReader → RunReader → Ordering
turn_cmp = flip_args (then_cmp (on (λ r. (head r).key) (slice_cmp nat_cmp)) (on (λ r. r.run) nat_cmp))

pub turn_total : IsTotalOrder turn_cmp
turn_total = back_total (then_total (on_total (λ (r : RunReader). (head r).key) nat_list_cmp_total) (on_total (λ (r : RunReader). r.run) nat_cmp_total))
