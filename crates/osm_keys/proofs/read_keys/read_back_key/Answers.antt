use Rattle.std.proofs.Common.{ℕ, List, length, take, drop, refl, ap, ◌∙◌, arith}
use Rattle.std.proofs.lemmas.List.{length-append, take_at, drop_at}
use Rattle.osm_keys.specs.Keys.{ref_key}
use Rattle.osm_keys.proofs.shared.KeyLengths.{ref_key_len}
use Rattle.osm_keys.proofs.read_keys.read_back_key.Goals as goal

pub returns-in_err-target-clause-none : goal.returns-in_err-target-clause-none
returns-in_err-target-clause-none c = λ _ target referrer e.
    let few = c.in_err-target.ensures.cases in
    let l = ap length e in
    let m = length-append (ref_key target) (ref_key referrer) in
    let n = ref_key_len target in
    omega (arith, few, l, m, n)

pub returns-in_err-target-2-clause-none : goal.returns-in_err-target-2-clause-none
returns-in_err-target-2-clause-none c = λ _ target referrer e.
    c.in_err-target-2.ensures.none refl target (c.in_ok-target.ensures.cases.1 ∙ ap (λ (l : List ℕ). take 9 l) e ∙ take_at (ref_key target) (ref_key referrer) 9 (ref_key_len target))

pub returns-in_err-referrer-clause-none : goal.returns-in_err-referrer-clause-none
returns-in_err-referrer-clause-none c = λ _ target referrer e.
    c.in_err-referrer.ensures.none refl referrer (c.in_ok-target.ensures.cases.2 ∙ ap (λ (l : List ℕ). drop 9 l) e ∙ drop_at (ref_key target) (ref_key referrer) 9 (ref_key_len target))
