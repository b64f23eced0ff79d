use Rattle.osm_commands.proofs.FrontLemmas.{whole_bytes, whole_end, whole_endless, whole_of, whole_unread}
use Rattle.osm_commands.proofs.whole_reader.read_whole.Goals as goal

pub returns-clause-ended : goal.returns-clause-ended
returns-clause-ended g c = whole_of _ _ c.read_front.result c.read_front.ensures

pub returns-clause-end : goal.returns-clause-end
returns-clause-end g c = whole_end _ _ c.read_front.result (whole_of _ _ c.read_front.result c.read_front.ensures)

pub returns-clause-read : goal.returns-clause-read
returns-clause-read g c = whole_bytes _ _ c.read_front.result (whole_of _ _ c.read_front.result c.read_front.ensures)

pub returns-clause-refused : goal.returns-clause-refused
returns-clause-refused g c = whole_unread _ _ c.read_front.result (whole_of _ _ c.read_front.result c.read_front.ensures)

pub returns-clause-endless : goal.returns-clause-endless
returns-clause-endless g c = whole_endless _ _ c.read_front.result (whole_of _ _ c.read_front.result c.read_front.ensures)
