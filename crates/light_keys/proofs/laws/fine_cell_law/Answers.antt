use Rattle.light_keys.proofs.shared.FineLaws.{few_ranges, key_held, key_in_one, key_inner, key_spans}
use Rattle.light_keys.proofs.laws.fine_cell_law.Goals as goal

pub returns-clause-held : goal.returns-clause-held
returns-clause-held c = key_held

pub returns-clause-once : goal.returns-clause-once
returns-clause-once c = key_in_one

pub returns-clause-spans : goal.returns-clause-spans
returns-clause-spans c = key_spans

pub returns-clause-inner : goal.returns-clause-inner
returns-clause-inner c = key_inner

pub returns-clause-few : goal.returns-clause-few
returns-clause-few c = few_ranges
