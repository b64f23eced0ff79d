use Rattle.pack_mirror.proofs.UsedLemmas.{no_clash}
use Rattle.pack_mirror.proofs.asking.ask_answer.Goals as goal

pub returns-clause-means : goal.returns-clause-means
returns-clause-means g c = λ p stands. c.answer_over-given.ensures.means p stands.0 stands.1 (no_clash c.answer_over-given.new.shelf p stands.2)

pub returns-clause-budget : goal.returns-clause-budget
returns-clause-budget g c = λ p stands. c.answer_over-given.ensures.budget p stands.0 stands.1 (no_clash c.answer_over-given.new.shelf p stands.2)
