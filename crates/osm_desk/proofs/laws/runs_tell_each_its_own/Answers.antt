use Rattle.std.specs.Prelude.{None}
use Rattle.osm_gate.specs.Terms.{within}
use Rattle.osm_desk.proofs.RunLemmas.{run-completions}
use Rattle.osm_desk.proofs.laws.runs_tell_each_its_own.Goals as goal

pub returns-clause-told : goal.returns-clause-told
returns-clause-told c = λ number run p ran room. run-completions (within None) number run p ran room

pub returns-clause-within : goal.returns-clause-within
returns-clause-within c = λ most number run p ran room. run-completions (within most) number run p ran room

pub returns-clause-on_terms : goal.returns-clause-on_terms
returns-clause-on_terms c = λ terms number run p ran room. run-completions terms number run p ran room
