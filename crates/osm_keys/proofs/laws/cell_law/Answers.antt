use Rattle.osm_keys.proofs.shared.CellLaws.{cell_found, cell_held, cell_once, few_ranges}
use Rattle.osm_keys.proofs.laws.cell_law.Goals as goal

pub returns-clause-found : goal.returns-clause-found
returns-clause-found c = cell_found

pub returns-clause-held : goal.returns-clause-held
returns-clause-held c = cell_held

pub returns-clause-once : goal.returns-clause-once
returns-clause-once c p is b ranges are o there place node apart = cell_once p is b ranges are o there place node apart

pub returns-clause-few : goal.returns-clause-few
returns-clause-few c = few_ranges
