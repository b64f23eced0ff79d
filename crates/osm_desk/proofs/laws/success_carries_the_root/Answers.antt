use Rattle.std.specs.Prelude.{None}
use Rattle.osm_gate.specs.Terms.{within}
use Rattle.osm_gate.proofs.shared.Roots.{success_root}
use Rattle.osm_desk.proofs.laws.success_carries_the_root.Goals as goal

pub returns-clause-root : goal.returns-clause-root
returns-clause-root c = λ p asked response is status. success_root (within None) p asked response is status

pub returns-clause-within : goal.returns-clause-within
returns-clause-within c = λ most p asked response is status. success_root (within most) p asked response is status

pub returns-clause-on_terms : goal.returns-clause-on_terms
returns-clause-on_terms c = λ terms p asked response is status. success_root terms p asked response is status
