use Rattle.std.specs.Prelude.{None}
use Rattle.osm_desk.proofs.EventLemmas.{own-told, turns-told}
use Rattle.osm_desk.proofs.laws.events_tell_each_its_own.Goals as goal

pub returns-clause-told : goal.returns-clause-told
returns-clause-told c = λ number before turns p none held are room. turns-told number before turns p none held are room

pub returns-clause-alone : goal.returns-clause-alone
returns-clause-alone c = λ number events p texts. own-told number events p None texts
