use Rattle.ref_sets.specs.NamedSets.{nothing_named}
use Rattle.ql_work_laws.proofs.WorkLemmas.{text_fits}
use Rattle.ql_work_laws.proofs.laws.answers_fit_their_work.Goals as goal

pub returns : goal.returns
returns c = λ tell p statements text n means work. text_fits tell p statements nothing_named text n means work
