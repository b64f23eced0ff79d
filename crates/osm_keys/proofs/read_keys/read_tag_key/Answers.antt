use Rattle.std.proofs.Common.{◌++◌, ◌∷◌, refl, ◌∙◌}
use Rattle.osm_keys.specs.Keys.{ref_key}
use Rattle.osm_keys.proofs.ReadLemmas.{one_text, tag_flat}
use Rattle.osm_keys.proofs.read_keys.read_tag_key.Goals as goal

pub returns-in_err-value-clause-none : goal.returns-in_err-value-clause-none
returns-in_err-value-clause-none c = λ _ text value name first second e.
    let after = one_text c.args.key.now c.in_ok-text.text.now c.in_ok-text.rest.now text (value ++ 0 ∷ ref_key name) c.in_ok-text.ensures.some c.in_ok-text.ensures.text.no_nul first.no_nul (e ∙ tag_flat text value (ref_key name)) in
    c.in_err-value.ensures.none refl value (ref_key name) second after.1

pub returns-in_err-name-clause-none : goal.returns-in_err-name-clause-none
returns-in_err-name-clause-none c = λ _ text value name first second e.
    let after = one_text c.args.key.now c.in_ok-text.text.now c.in_ok-text.rest.now text (value ++ 0 ∷ ref_key name) c.in_ok-text.ensures.some c.in_ok-text.ensures.text.no_nul first.no_nul (e ∙ tag_flat text value (ref_key name)) in
    let last = one_text c.in_ok-text.rest.now c.in_ok-value.value.now c.in_ok-value.name.now value (ref_key name) c.in_ok-value.ensures.some c.in_ok-value.ensures.text.no_nul second.no_nul after.1 in
    c.in_err-name.ensures.none refl name last.1
