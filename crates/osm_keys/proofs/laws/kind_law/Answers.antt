use Rattle.osm_keys.proofs.shared.RangeLaws.{kind_found, kind_rising}
use Rattle.osm_keys.proofs.laws.kind_law.Goals as goal

pub returns-clause-found : goal.returns-clause-found
returns-clause-found c = kind_found

pub returns-clause-rising : goal.returns-clause-rising
returns-clause-rising c = kind_rising
