use Rattle.tree_build.proofs.ChangedEntries.{changed_keys_rise, changed_members}
use Rattle.tree_build.proofs.laws.changed_list_law.Goals as goal

pub returns-clause-members : goal.returns-clause-members
returns-clause-members c = λ entries changes rise all. changed_members entries changes rise all

pub returns-clause-rising : goal.returns-clause-rising
returns-clause-rising c = λ entries changes rise all. changed_keys_rise entries changes rise all
