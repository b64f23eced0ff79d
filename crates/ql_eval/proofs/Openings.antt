-- What is read under a root: the manifest of a publication, or a clash.
use Rattle.std.proofs.Common.{◌≡◌, ◌⊎◌, inl, inr, ℕ, List, Result, Ok, Err, refl, sym, subst, ◌∙◌}
use Rattle.tree_node.specs.Digests.{digest}
use Rattle.tree_node.specs.Outcomes.{Outcome}
use Rattle.tree_node.specs.Shelves.{GrownBy, HasNone, IsClashFree}
use Rattle.tree_node.specs.declared.shelf.ShelfFault.{ShelfFault}
use Rattle.tree_node.specs.declared.shelf.ShelfFault.TheVariants as shelves
use Rattle.tree_node.proofs.shared.Results.{err_is}
use Rattle.std.specs.Borrow.{Bor}
use Rattle.std.specs.Result.{IsErrAnd}
use Rattle.tree_node.proofs.shared.OutcomeLaws.{Nodes, known_or_clash, uses}
use Rattle.osm_keys.specs.Manifests.{HaveWidth, manifest_bytes, top_among}
use Rattle.osm_keys.specs.Publications.{Publication, manifest_of, root_of, top_in}
use Rattle.osm_keys.specs.declared.manifest.Manifest.{Manifest}
use Rattle.osm_keys.proofs.shared.OneManifest.{same_tops, tops_wide}
use Rattle.ql_eval.specs.Openings.{HasMalformed, IsNoManifest, IsUnder, cause_of_manifest, manifest_fault_of}
use Rattle.ql_eval.specs.declared.opening.ManifestFault.{ManifestFault}
use Rattle.ql_eval.specs.declared.opening.ManifestFault.TheVariants.{Malformed, Memory, Missing}
use Rattle.ql_eval.specs.Faults.{cause_of_evaluation, fault_of_opening}

-- the bytes under the root were read as a manifest
pub manifest_opened : {held old new : Nodes} (p : Publication) (root bytes : List ℕ) (found : Manifest) → root ≡ root_of p → digest bytes ≡ root → GrownBy old new bytes
    → bytes ≡ manifest_bytes found → HaveWidth (top_among found.tops) → Outcome cause_of_manifest (λ m. IsUnder p m) (λ x. x ≡ manifest_of p) (uses held old new) (Ok found)
manifest_opened {old = old} {new = new} p root bytes found at given grown is wide = record {
  ends = elim (known_or_clash (manifest_of p) bytes ((grown bytes).1 (inr refl)) (given ∙ at)) [
    | inl same ↦ inr (
      same_tops found.edition p.edition (top_among found.tops) (top_in p) wide (tops_wide p) (sym is ∙ same),
      subst (λ (b : List ℕ). GrownBy old new b) same grown,
    )
    | inr clash ↦ inl clash
  ];
}

-- the bytes under the root are no manifest, so they aren't the publication's
pub no_manifest_opened : {held old new : Nodes} (p : Publication) (root bytes : List ℕ) → root ≡ root_of p → digest bytes ≡ root → GrownBy old new bytes
    → IsNoManifest bytes → Outcome cause_of_manifest (λ m. IsUnder p m) (λ x. x ≡ manifest_of p) (uses held old new) (Err Malformed)
no_manifest_opened p root bytes at given grown none = record {
  ends = elim (known_or_clash (manifest_of p) bytes ((grown bytes).1 (inr refl)) (given ∙ at)) [
    | inl same ↦ absurd (none p.edition (top_in p) (tops_wide p) same)
    | inr clash ↦ inl clash
  ];
}

-- a manifest that couldn't be read refuses the evaluation for the same cause
pub opening_cause : (fault : ManifestFault) → cause_of_evaluation (fault_of_opening fault) ≡ cause_of_manifest fault
opening_cause Missing = refl
opening_cause Malformed = refl
opening_cause Memory = refl

-- what was read as a manifest isn't held as something else
pub none_malformed : (held : Nodes) (root bytes : List ℕ) (found : Manifest) → IsClashFree held → held bytes → digest bytes ≡ root → bytes ≡ manifest_bytes found → HaveWidth (top_among found.tops) → ¬ HasMalformed held root
none_malformed held root bytes found free there same is wide (other, there_too, same_too, none) =
    none found.edition (top_among found.tops) wide (free other bytes there_too there (same_too ∙ sym same) ∙ is)

-- where something else is held, a fetch is refused for memory alone
pub malformed_refused : {A : Type 0} (held : Nodes) (root : List ℕ) (fault : ShelfFault) (fetched : Result (Bor (List ℕ)) ShelfFault) (result : Result A ManifestFault) → fetched ≡ Err fault → (fetched ≡ Err shelves.Missing → HasNone held root)
    → IsErrAnd result (λ f. f ≡ manifest_fault_of fault) → HasMalformed held root → (result ≡ Err Malformed) ⊎ (result ≡ Err Memory)
malformed_refused held root shelves.Missing fetched result is missing so (bytes, there, same, none) = absurd (missing is bytes there same)
malformed_refused held root shelves.Memory fetched result is missing so malformed = inr (err_is result Memory so)
