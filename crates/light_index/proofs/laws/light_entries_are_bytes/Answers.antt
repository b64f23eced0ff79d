use Rattle.light_index.proofs.laws.light_entries_are_bytes.Goals as goal
use Rattle.light_index.proofs.shared.LightEntryBytes.{is_top, keys_are_bytes}

pub returns-clause-keys : goal.returns-clause-keys
returns-clause-keys c = keys_are_bytes

pub returns-clause-tops : goal.returns-clause-tops
returns-clause-tops c = is_top
