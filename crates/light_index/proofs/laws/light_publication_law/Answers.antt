use Rattle.light_index.proofs.laws.light_publication_law.Goals as goal
use Rattle.light_index.proofs.shared.OneLightPublication.{lists_have_trees, not_too_many, same_entries, same_root}
use Rattle.light_index.proofs.shared.SomeLightPublication.{too_many_or_some}

pub returns-clause-entries : goal.returns-clause-entries
returns-clause-entries c = same_entries

pub returns-clause-root : goal.returns-clause-root
returns-clause-root c = same_root

pub returns-clause-few : goal.returns-clause-few
returns-clause-few c = not_too_many

pub returns-clause-trees : goal.returns-clause-trees
returns-clause-trees c = lists_have_trees

pub returns-clause-some : goal.returns-clause-some
returns-clause-some c = too_many_or_some
