use Rattle.osm_keys.proofs.shared.EntryBytes.{is_top, keys_are_bytes, values_are_bytes}
use Rattle.osm_keys.proofs.laws.entries_are_bytes.Goals as goal

pub returns-clause-keys : goal.returns-clause-keys
returns-clause-keys c = keys_are_bytes

pub returns-clause-values : goal.returns-clause-values
returns-clause-values c = values_are_bytes

pub returns-clause-tops : goal.returns-clause-tops
returns-clause-tops c = is_top
