-- What a fault that is told under a manifest says of the nodes.
use Rattle.std.specs.Prelude.{ℕ, List, ⊤}
use Rattle.osm_model.specs.declared.reference.Ref.{Ref}
use Rattle.osm_keys.specs.declared.manifest.Manifest.{Manifest}
use Rattle.ql_eval.specs.TrueFaults.{HasMalformedEntry, HasWalkFault, IsAbsent, IsNamedIn}
use Rattle.ql_eval.specs.declared.fault.EvalFault.{EvalFault}
use Rattle.ql_eval.specs.declared.fault.EvalFault.TheVariants as faults

-- E1 that a walk had its reason, E2 that an entry isn't of its form, E3 that an entry names an object that isn't there; out of memory says
-- nothing, and E4 and too much work aren't told
abbrev pub IsTrueUnder : (held used : List ℕ → Type 0) → Manifest → EvalFault → Type 0
IsTrueUnder held used found (faults.Walk fault) = HasWalkFault held used found fault
IsTrueUnder held used found faults.Form = HasMalformedEntry used found
IsTrueUnder held used found faults.Absent = (r : Ref) × IsNamedIn used found r × IsAbsent used found r
IsTrueUnder held used found (faults.Manifest fault) = ⊥
IsTrueUnder held used found faults.Memory = ⊤
IsTrueUnder held used found faults.Work = ⊥
