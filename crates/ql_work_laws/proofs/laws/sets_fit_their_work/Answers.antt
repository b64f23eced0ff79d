use Rattle.ref_sets.specs.NamedSets.{nothing_named}
use Rattle.ql_work_laws.proofs.WorkLemmas.{sets_fit}
use Rattle.ql_work_laws.proofs.laws.sets_fit_their_work.Goals as goal

pub returns : goal.returns
returns c = λ tell p statements set n written work. sets_fit tell p statements nothing_named set n written work
