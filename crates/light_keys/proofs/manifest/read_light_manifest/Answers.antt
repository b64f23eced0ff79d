use Rattle.std.proofs.Common.{◌++◌, List, ℕ, length, ap, refl, sym, ◌∙◌}
use Rattle.osm_keys.specs.Manifests.{all_tops, top_among}
use Rattle.osm_keys.proofs.ReadLemmas.{after_magic, has_magic, no_magic, tops_len}
use Rattle.light_keys.specs.LightManifests.{third_bytes}
use Rattle.light_keys.proofs.ManifestLemmas.{light_from, light_is, one_rest}
use Rattle.light_keys.proofs.manifest.read_light_manifest.Goals as goal

pub returns-in_err-rest-clause-none : goal.returns-in_err-rest-clause-none
returns-in_err-rest-clause-none c = λ _ s tops wide e. no_magic c.args.bytes.now (third_bytes s ++ all_tops tops) c.in_err-rest.ensures.cases (light_is c.args.bytes.now s tops e)

pub returns-in_err-sequence-clause-none : goal.returns-in_err-sequence-clause-none
returns-in_err-sequence-clause-none c = λ none s tops wide e.
    let rest = after_magic c.args.bytes.now c.in_ok-rest.rest.now (third_bytes s ++ all_tops tops) c.in_ok-rest.ensures.cases.1 (light_is c.args.bytes.now s tops e) in
    c.in_err-sequence.ensures.none refl s (all_tops tops) rest

pub returns-in_err-tops-clause-none : goal.returns-in_err-tops-clause-none
returns-in_err-tops-clause-none c = λ none s tops wide e.
    let rest = after_magic c.args.bytes.now c.in_ok-rest.rest.now (third_bytes s ++ all_tops tops) c.in_ok-rest.ensures.cases.1 (light_is c.args.bytes.now s tops e) in
    let same = one_rest c.in_ok-sequence.sequence s c.in_ok-sequence.rest.now (all_tops tops) (sym c.in_ok-sequence.ensures.some ∙ rest) in
    c.in_err-tops.ensures.none refl (ap length same ∙ tops_len tops wide)

pub returns-clause-some : goal.returns-clause-some
returns-clause-some c =
    let rest = c.in_ok-sequence.ensures.some ∙ ap (λ (l : List ℕ). third_bytes c.in_ok-sequence.sequence ++ l) c.in_ok-tops.ensures.some in
    let magic = c.in_ok-rest.ensures.cases in
    light_from c.args.bytes.now c.in_ok-sequence.sequence (top_among c.in_ok-tops.tops) (has_magic c.args.bytes.now c.in_ok-rest.rest.now magic.0 magic.1 ∙ rw rest refl)
