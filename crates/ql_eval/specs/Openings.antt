-- The manifest under a root, read from a shelf.
-- Source: this project's manifests, docs/FORMATS.md.
use Rattle.std.specs.Prelude.{◌≡◌, ◌≢◌, ◌⊎◌, ℕ, List}
use Rattle.osm_keys.specs.Manifests.{HaveWidth, manifest, manifest_bytes, top_among}
use Rattle.osm_keys.specs.Publications.{Publication, top_in}
use Rattle.osm_keys.specs.declared.edition.Edition.{Edition}
use Rattle.osm_keys.specs.declared.manifest.Manifest.{Manifest}
use Rattle.tree_node.specs.Digests.{digest}
use Rattle.tree_node.specs.Outcomes.{Cause, NoMemory, NodeMissing, OtherCause, ShelfUse}
use Rattle.tree_node.specs.declared.shelf.ShelfFault.{ShelfFault}
use Rattle.tree_node.specs.declared.shelf.ShelfFault.TheVariants as shelves
use Rattle.tree_node.specs.declared.tree.Tree.{Tree}
use Rattle.ql_eval.specs.declared.opening.ManifestFault.{ManifestFault}
use Rattle.ql_eval.specs.declared.opening.ManifestFault.TheVariants as faults

-- the manifest names the tops of the publication's trees
abbrev pub IsUnder : Publication → Manifest → Type 0
IsUnder p found = (tree : Tree) → top_among found.tops tree ≡ top_in p tree

-- the bytes are no manifest's
abbrev pub IsNoManifest : List ℕ → Type 0
IsNoManifest bytes = (edition : Edition) (tops : Tree → List ℕ) → HaveWidth tops → bytes ≢ manifest edition tops

-- the manifest is held, and has this digest
abbrev pub IsHeldUnder : (List ℕ → Type 0) → List ℕ → Manifest → Type 0
IsHeldUnder holds root found = holds (manifest_bytes found) × (digest (manifest_bytes found) ≡ root)

-- what was used before and after the calls that come once the manifest was fetched
abbrev pub nodes_after : {S : Type 0} → Manifest → (holds used : S → List ℕ → Type 0) → S → S → ShelfUse
nodes_after found holds used old new = record {
  held = holds new;
  before = λ bytes. used old bytes ⊎ (bytes ≡ manifest_bytes found);
  after = used new;
}

-- what is held under the digest is no manifest
abbrev pub HasMalformed : (List ℕ → Type 0) → List ℕ → Type 0
HasMalformed holds root = (bytes : List ℕ) × holds bytes × (digest bytes ≡ root) × IsNoManifest bytes

-- what a refused fetch makes of it
abbrev pub manifest_fault_of : ShelfFault → ManifestFault
manifest_fault_of shelves.Missing = faults.Missing
manifest_fault_of shelves.Memory = faults.Memory

-- what a refusal says of the shelf
abbrev pub cause_of_manifest : ManifestFault → Cause
cause_of_manifest faults.Missing = NodeMissing
cause_of_manifest faults.Malformed = OtherCause
cause_of_manifest faults.Memory = NoMemory
