-- What a set in memory refuses, as a mirror.
use Rattle.std.proofs.Common.{◌≡◌, ◌⊎◌, inl, inr, refl}
use Rattle.std.specs.Prelude.{Result, Err}
use Rattle.osm_prove.specs.declared.prove_fault.ProveFault.{ProveFault}
use Rattle.osm_prove.specs.declared.prove_fault.ProveFault.TheVariants as refusals
use Rattle.osm_gate.specs.Mirrors.{fault_of}
use Rattle.osm_gate.specs.declared.mirror_fault.MirrorFault.{MirrorFault}
use Rattle.osm_gate.specs.declared.mirror_fault.MirrorFault.TheVariants.{Memory, Query}
use Rattle.ql_syntax.specs.declared.fault.QlFault.{QlFault}

-- a query with a fault is refused with it, or memory has run out
pub refused_so : {A : Type 0} (given : ProveFault) (fault : QlFault)
    → ((◌≡◌ {A = Result A ProveFault} (Err given) (Err (refusals.Query fault))) ⊎ (◌≡◌ {A = Result A ProveFault} (Err given) (Err refusals.Memory)))
    → (◌≡◌ {A = Result A MirrorFault} (Err (fault_of given)) (Err (Query fault))) ⊎ (◌≡◌ {A = Result A MirrorFault} (Err (fault_of given)) (Err Memory))
refused_so (refusals.Query other) fault (inl is) = inl (ap-query (query_is is))
  where
    query_is : {A : Type 0} → ◌≡◌ {A = Result A ProveFault} (Err (refusals.Query other)) (Err (refusals.Query fault)) → other ≡ fault
    query_is is = cc

    ap-query : {A : Type 0} → other ≡ fault → ◌≡◌ {A = Result A MirrorFault} (Err (Query other)) (Err (Query fault))
    ap-query same = cc
refused_so (refusals.Query other) fault (inr is) = absurd cc
refused_so refusals.Work fault (inl is) = absurd cc
refused_so refusals.Work fault (inr is) = absurd cc
refused_so refusals.Memory fault is = inr refl
