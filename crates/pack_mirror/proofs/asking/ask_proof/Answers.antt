use Rattle.pack_mirror.proofs.UsedLemmas.{no_clash}
use Rattle.pack_mirror.proofs.asking.ask_proof.Goals as goal

pub returns-clause-proved : goal.returns-clause-proved
returns-clause-proved g c = λ p stands. c.prove_over-given.ensures.proved p stands.0 stands.1 (no_clash c.prove_over-given.new.shelf p stands.2)

pub returns-clause-budget : goal.returns-clause-budget
returns-clause-budget g c = λ p stands. c.prove_over-given.ensures.budget p stands.0 stands.1 (no_clash c.prove_over-given.new.shelf p stands.2)
