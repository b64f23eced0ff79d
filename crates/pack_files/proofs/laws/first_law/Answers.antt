use Rattle.pack_files.proofs.FirstLemmas.{first_at_places, first_root, first_short}
use Rattle.pack_files.proofs.laws.first_law.Goals as goal

pub returns-clause-nodes : goal.returns-clause-nodes
returns-clause-nodes c = λ root nodes is. first_at_places root nodes is

pub returns-clause-root : goal.returns-clause-root
returns-clause-root c = λ root nodes is. first_root root nodes is

pub returns-clause-short : goal.returns-clause-short
returns-clause-short c = λ root nodes is. first_short root nodes is
