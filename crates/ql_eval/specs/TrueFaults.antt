-- What a refused evaluation says of the nodes under a root, whoever made them.
-- Source: this project's codes, docs/FORMATS.md.
use Rattle.std.specs.Prelude.{◌≡◌, ◌≢◌, ℕ, List, [], ⊤}
use Rattle.osm_model.specs.declared.reference.Ref.{Ref}
use Rattle.osm_keys.specs.Manifests.{manifest_bytes, top_among}
use Rattle.osm_keys.specs.Ranges.{object_range}
use Rattle.osm_keys.specs.declared.manifest.Manifest.{Manifest}
use Rattle.tree_node.specs.Digests.{digest}
use Rattle.tree_node.specs.NodeRefs.{number_of}
use Rattle.tree_node.specs.Nodes.{Binding}
use Rattle.tree_node.specs.Shelves.{HasNone}
use Rattle.tree_node.specs.declared.tree.Tree.{Tree}
use Rattle.tree_node.specs.declared.tree.Tree.TheVariants.{Objects}
use Rattle.tree_walk.specs.Given.{Gives, IsGivenEntry, These}
use Rattle.tree_walk.specs.Ranges.{Range}
use Rattle.tree_walk.specs.Reasons.{HasReason}
use Rattle.tree_walk.specs.declared.fault.WalkFault.{WalkFault}
use Rattle.tree_walk.specs.declared.fault.WalkFault.TheVariants as walks
use Rattle.ql_eval.specs.Forms.{HasForm, Names}
use Rattle.ql_eval.specs.Openings.{HasMalformed}
use Rattle.ql_eval.specs.declared.fault.EvalFault.{EvalFault}
use Rattle.ql_eval.specs.declared.fault.EvalFault.TheVariants as faults
use Rattle.ql_eval.specs.declared.opening.ManifestFault.TheVariants as openings

-- ---- under a manifest

-- a walk over one of the trees came to want a node with which something is wrong, other than that memory ran out
abbrev pub HasWalkFault : (held used : List ℕ → Type 0) → Manifest → WalkFault → Type 0
HasWalkFault held used found fault = (fault ≢ walks.Memory) × (tree : Tree) × HasReason (number_of tree) (top_among found.tops tree) held used fault

-- the used nodes give an entry that isn't of its tree's form
pub record HasMalformedEntry (used : List ℕ → Type 0) (found : Manifest) : Type 0 where
  pub tree : Tree
  pub range : Range
  pub entry : Binding
  pub given : IsGivenEntry used (number_of tree) (top_among found.tops tree) range entry
  pub malformed : ¬ HasForm tree entry

-- the used nodes give nothing under the key of this object
abbrev pub IsAbsent : (used : List ℕ → Type 0) → Manifest → Ref → Type 0
IsAbsent used found r = Gives used Objects (top_among found.tops Objects) (object_range r) (These [])

-- the used nodes give an entry that names this object: one that puts it, gives it a tag, places it, or says that it lists
-- another one
pub record IsNamedIn (used : List ℕ → Type 0) (found : Manifest) (r : Ref) : Type 0 where
  pub tree : Tree
  pub range : Range
  pub entry : Binding
  pub given : IsGivenEntry used (number_of tree) (top_among found.tops tree) range entry
  pub names : Names tree entry r

-- ---- under a root

-- a manifest is held under the root, and this is true of it
abbrev pub HoldsUnder : (held : List ℕ → Type 0) → (root : List ℕ) → (Manifest → Type 0) → Type 0
HoldsUnder held root So = (found : Manifest) × held (manifest_bytes found) × (digest (manifest_bytes found) ≡ root) × So found

-- the fault is true of the nodes: E1 that a walk had its reason, E2 that an entry isn't of its form, E3 that an entry
-- names an object that isn't there, E4 that no manifest is held under the root. Out of memory says nothing of them, and neither
-- does too much work, of which the budget tells.
abbrev pub IsTrueFault : (held used : List ℕ → Type 0) → (root : List ℕ) → EvalFault → Type 0
IsTrueFault held used root (faults.Walk fault) = HoldsUnder held root (λ found. HasWalkFault held used found fault)
IsTrueFault held used root faults.Form = HoldsUnder held root (HasMalformedEntry used)
IsTrueFault held used root faults.Absent = HoldsUnder held root (λ found. (r : Ref) × IsNamedIn used found r × IsAbsent used found r)
IsTrueFault held used root (faults.Manifest openings.Missing) = HasNone held root
IsTrueFault held used root (faults.Manifest openings.Malformed) = HasMalformed held root
IsTrueFault held used root (faults.Manifest openings.Memory) = ⊥
IsTrueFault held used root faults.Memory = ⊤
IsTrueFault held used root faults.Work = ⊤
