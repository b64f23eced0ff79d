use Rattle.osm_commands.proofs.FrontLemmas.{within_bytes, within_end, within_endless, within_fits, within_fitted, within_read, within_takes, within_too_large, within_unread}
use Rattle.osm_commands.proofs.whole_reader.read_within.Goals as goal

pub returns-clause-ended : goal.returns-clause-ended
returns-clause-ended g c = within_read c.args.limit _ _ c.read_front.result c.limited.result (rw c.unwrap_or-limit.ensures at c.read_front.ensures) (rw c.unwrap_or-limit.ensures at c.limited.ensures)

pub returns-clause-end : goal.returns-clause-end
returns-clause-end g c = within_end c.args.limit _ _ c.limited.result (within_read c.args.limit _ _ c.read_front.result c.limited.result (rw c.unwrap_or-limit.ensures at c.read_front.ensures) (rw c.unwrap_or-limit.ensures at c.limited.ensures))

pub returns-clause-read : goal.returns-clause-read
returns-clause-read g c = within_bytes c.args.limit _ _ c.limited.result (within_read c.args.limit _ _ c.read_front.result c.limited.result (rw c.unwrap_or-limit.ensures at c.read_front.ensures) (rw c.unwrap_or-limit.ensures at c.limited.ensures))

pub returns-clause-fits : goal.returns-clause-fits
returns-clause-fits g c = within_fits c.args.limit _ _ c.limited.result (within_read c.args.limit _ _ c.read_front.result c.limited.result (rw c.unwrap_or-limit.ensures at c.read_front.ensures) (rw c.unwrap_or-limit.ensures at c.limited.ensures))

pub returns-clause-fitted : goal.returns-clause-fitted
returns-clause-fitted g c = within_fitted c.args.limit _ _ c.limited.result (within_read c.args.limit _ _ c.read_front.result c.limited.result (rw c.unwrap_or-limit.ensures at c.read_front.ensures) (rw c.unwrap_or-limit.ensures at c.limited.ensures))

pub returns-clause-refused : goal.returns-clause-refused
returns-clause-refused g c = within_unread c.args.limit _ _ c.limited.result (within_read c.args.limit _ _ c.read_front.result c.limited.result (rw c.unwrap_or-limit.ensures at c.read_front.ensures) (rw c.unwrap_or-limit.ensures at c.limited.ensures))

pub returns-clause-too_large : goal.returns-clause-too_large
returns-clause-too_large g c = within_too_large c.args.limit _ _ c.limited.result (within_read c.args.limit _ _ c.read_front.result c.limited.result (rw c.unwrap_or-limit.ensures at c.read_front.ensures) (rw c.unwrap_or-limit.ensures at c.limited.ensures))

pub returns-clause-endless : goal.returns-clause-endless
returns-clause-endless g c = within_endless c.args.limit _ _ c.limited.result (within_read c.args.limit _ _ c.read_front.result c.limited.result (rw c.unwrap_or-limit.ensures at c.read_front.ensures) (rw c.unwrap_or-limit.ensures at c.limited.ensures))

pub returns-clause-takes : goal.returns-clause-takes
returns-clause-takes g c = within_takes c.args.limit _ _ c.limited.result (within_read c.args.limit _ _ c.read_front.result c.limited.result (rw c.unwrap_or-limit.ensures at c.read_front.ensures) (rw c.unwrap_or-limit.ensures at c.limited.ensures))
