use Rattle.std.proofs.Common.{◌++◌, List, ℕ, length, ap, refl, sym, ◌∙◌}
use Rattle.osm_keys.specs.Manifests.{all_tops, edition_bytes, top_among}
use Rattle.osm_keys.proofs.ReadLemmas.{after_magic, has_magic, manifest_from, manifest_is, no_magic, one_rest, tops_len}
use Rattle.osm_keys.proofs.manifest.read_manifest.Goals as goal

pub returns-in_err-rest-clause-none : goal.returns-in_err-rest-clause-none
returns-in_err-rest-clause-none c = λ _ edition tops wide e. no_magic c.args.bytes.now (edition_bytes edition ++ all_tops tops) c.in_err-rest.ensures.cases (manifest_is c.args.bytes.now edition tops e)

pub returns-in_err-edition-clause-none : goal.returns-in_err-edition-clause-none
returns-in_err-edition-clause-none c = λ none edition tops wide e.
    let rest = after_magic c.args.bytes.now c.in_ok-rest.rest.now (edition_bytes edition ++ all_tops tops) c.in_ok-rest.ensures.cases.1 (manifest_is c.args.bytes.now edition tops e) in
    c.in_err-edition.ensures.none refl edition (all_tops tops) rest

pub returns-in_err-tops-clause-none : goal.returns-in_err-tops-clause-none
returns-in_err-tops-clause-none c = λ none edition tops wide e.
    let rest = after_magic c.args.bytes.now c.in_ok-rest.rest.now (edition_bytes edition ++ all_tops tops) c.in_ok-rest.ensures.cases.1 (manifest_is c.args.bytes.now edition tops e) in
    let same = one_rest c.in_ok-edition.edition edition c.in_ok-edition.rest.now (all_tops tops) (sym c.in_ok-edition.ensures.some ∙ rest) in
    c.in_err-tops.ensures.none refl (ap length same ∙ tops_len tops wide)

pub returns-clause-some : goal.returns-clause-some
returns-clause-some c =
    let rest = c.in_ok-edition.ensures.some ∙ ap (λ (l : List ℕ). edition_bytes c.in_ok-edition.edition ++ l) c.in_ok-tops.ensures.some in
    let magic = c.in_ok-rest.ensures.cases in
    manifest_from c.args.bytes.now c.in_ok-edition.edition (top_among c.in_ok-tops.tops) (has_magic c.args.bytes.now c.in_ok-rest.rest.now magic.0 magic.1 ∙ rw rest refl)
