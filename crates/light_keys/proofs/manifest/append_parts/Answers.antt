use Rattle.std.proofs.Common.{◌++◌, ◌∙◌, List, ℕ, ap}
use Rattle.std.proofs.lemmas.Result.{on_err_weaker}
use Rattle.osm_keys.specs.Manifests.{magic}
use Rattle.light_keys.specs.LightManifests.{third_bytes}
use Rattle.light_keys.proofs.ManifestLemmas.{front_kept}
use Rattle.light_keys.proofs.manifest.append_parts.Goals as goal

pub returns-clause-extended : goal.returns-clause-extended
returns-clause-extended c =
    let third = third_bytes c.args.manifest.now.sequence in
    let mid = c.in_ok-append_sequence.ensures.written ∙ ap (λ (l : List ℕ). l ++ third) c.in_ok-extend_from_slice.ensures.items in
    on_err_weaker c.append_tops.result (front_kept c.args.out.now.items magic third c.append_sequence.new.out.items c.append_tops.new.out.items mid) c.append_tops.ensures.extended
