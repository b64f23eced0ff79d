use Rattle.std.specs.Prelude.{None}
use Rattle.osm_desk.proofs.CompletionLemmas.{completions_from-own_happenings}
use Rattle.osm_desk.proofs.laws.others_change_nothing.Goals as goal

pub returns : goal.returns
returns c = λ number hs p. completions_from-own_happenings number hs p None
