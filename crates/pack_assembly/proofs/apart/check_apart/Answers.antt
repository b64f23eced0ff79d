use Rattle.std.proofs.Common.{◌∙◌, ap, sym, Err}
use Rattle.std.proofs.lemmas.List.Sorted.{Contains-permutation, IsPermutation-sym}
use Rattle.pack_assembly.proofs.FaultLemmas.{refusal_device, sort_device}
use Rattle.pack_assembly.proofs.KeyLemmas.{distinct_back, distinct_on}
use Rattle.pack_assembly.proofs.LevelLemmas.{on_ok}
use Rattle.pack_assembly.proofs.apart.check_apart.Goals as goal

pub returns-in-Ok-clause-apart : goal.returns-in-Ok-clause-apart
returns-in-Ok-clause-apart g c = λ true records holds.
    let (given, moved, rises, gives) = c.in-Ok.ensures.given true records holds in
    on_ok c.check_sorted.result (c.check_sorted.ensures.apart true given gives) (λ differ. distinct_back records given moved rises differ)

pub returns-in-Ok-clause-clash : goal.returns-in-Ok-clause-clash
returns-in-Ok-clause-clash g c = λ clash true records holds distinct.
    let (given, moved, rises, gives) = c.in-Ok.ensures.given true records holds in
    c.check_sorted.ensures.clash clash true given gives (distinct_on records given moved distinct)

pub returns-in-Ok-clause-device : goal.returns-in-Ok-clause-device
returns-in-Ok-clause-device g c = λ refuses true records holds digests.
    let (given, moved, rises, gives) = c.in-Ok.ensures.given true records holds in
    c.check_sorted.ensures.device refuses true given gives (λ e among. digests e (Contains-permutation given records e (IsPermutation-sym records given moved) among))

pub returns-in-Err-clause-device : goal.returns-in-Err-clause-device
returns-in-Err-clause-device g c = λ refuses true records holds digests told.
    c.in-Err.ensures.device refuses true records holds
    (ap Err (sort_device c.in-Err.fault c.in-Err.ensures.short (sym c.from.ensures ∙ refusal_device c.from.result (sym c.from-in-Err.ensures ∙ (let e = told in Prim.cc)))))
