use Rattle.std.proofs.Common.{Err, inl, inr, ap, ◌∙◌}
use Rattle.osm_gate.specs.declared.mirror_fault.MirrorFault.{MirrorFault}
use Rattle.pack_mirror.proofs.Refusals.{fault_told}
use Rattle.pack_mirror.proofs.queries.read_query.Goals as goal

pub returns-in-Err-clause-refused : goal.returns-in-Err-clause-refused
returns-in-Err-clause-refused c = λ fault has.
    elim (fault_told c.in-Err.fault fault (c.in-Err.ensures.faults fault has).1) [
      | inl query ↦ inl (ap (λ (f : MirrorFault). Err f) (c.query_refused.ensures ∙ query))
      | inr memory ↦ inr (ap (λ (f : MirrorFault). Err f) (c.query_refused.ensures ∙ memory))
    ]
