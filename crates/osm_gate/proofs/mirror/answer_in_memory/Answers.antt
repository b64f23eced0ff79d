use Rattle.std.proofs.Common.{inl, inr}
use Rattle.osm_gate.proofs.MirrorLemmas.{refused_so}
use Rattle.osm_gate.proofs.mirror.answer_in_memory.Goals as goal

pub returns-in-Err-clause-refused : goal.returns-in-Err-clause-refused
returns-in-Err-clause-refused c = λ fault has. rw c.fault_of.ensures (refused_so c.in-Err.fault fault (c.in-Err.ensures.refused fault has))

pub returns-in-Ok-clause-refused : goal.returns-in-Ok-clause-refused
returns-in-Ok-clause-refused c = λ fault has. absurd (elim (c.in-Ok.ensures.refused fault has) [ inl is ↦ cc | inr is ↦ cc ])
