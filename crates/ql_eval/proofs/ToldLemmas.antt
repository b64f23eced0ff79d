-- What a refused evaluation says of the nodes under a root.
use Rattle.std.proofs.Common.{◌≡◌, ℕ, List, Result, Err}
use Rattle.osm_keys.specs.Manifests.{manifest_bytes}
use Rattle.osm_keys.specs.declared.manifest.Manifest.{Manifest}
use Rattle.tree_node.specs.Digests.{digest}
use Rattle.tree_node.specs.Shelves.{HasNone}
use Rattle.tree_node.proofs.shared.OutcomeLaws.{Nodes}
use Rattle.ql_eval.specs.Faults.{fault_of_opening}
use Rattle.ql_eval.specs.Openings.{HasMalformed}
use Rattle.ql_eval.specs.TrueFaults.{IsTrueFault}
use Rattle.ql_eval.specs.internal.TrueFaults.{IsTrueUnder}
use Rattle.ql_eval.specs.declared.fault.EvalFault.{EvalFault}
use Rattle.ql_eval.specs.declared.fault.EvalFault.TheVariants as faults
use Rattle.ql_eval.specs.declared.opening.ManifestFault.{ManifestFault}
use Rattle.ql_eval.specs.declared.opening.ManifestFault.TheVariants as openings

-- what was told under a manifest that is held under the root
pub told_under : (held used : Nodes) (root : List ℕ) (found : Manifest) → held (manifest_bytes found) → digest (manifest_bytes found) ≡ root
    → (fault : EvalFault) → IsTrueUnder held used found fault → IsTrueFault held used root fault
told_under held used root found there is (faults.Walk fault) told = (found, there, is, told)
told_under held used root found there is faults.Form told = (found, there, is, told)
told_under held used root found there is faults.Absent told = (found, there, is, told)
told_under held used root found there is (faults.Manifest fault) told = absurd told
told_under held used root found there is faults.Memory told = tt
told_under held used root found there is faults.Work told = absurd told

-- a manifest that couldn't be read
pub opening_told : {A : Type 0} (held used : Nodes) (root : List ℕ) (opened : Result A ManifestFault) (fault : ManifestFault) → opened ≡ Err fault
    → (opened ≡ Err openings.Missing → HasNone held root) → (opened ≡ Err openings.Malformed → HasMalformed held root) → IsTrueFault held used root (fault_of_opening fault)
opening_told held used root opened openings.Missing is none malformed = none is
opening_told held used root opened openings.Malformed is none malformed = malformed is
opening_told held used root opened openings.Memory is none malformed = tt
