use Rattle.osm_keys.proofs.shared.OnePublication.{lists_have_trees, not_too_many, same_entries, same_root}
use Rattle.osm_keys.proofs.laws.publication_law.Goals as goal

pub returns-clause-entries : goal.returns-clause-entries
returns-clause-entries c = same_entries

pub returns-clause-root : goal.returns-clause-root
returns-clause-root c = same_root

pub returns-clause-few : goal.returns-clause-few
returns-clause-few c = not_too_many

pub returns-clause-trees : goal.returns-clause-trees
returns-clause-trees c = lists_have_trees
