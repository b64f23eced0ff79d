use Rattle.osm_desk.proofs.CompletionLemmas.{all_completions_in-replies}
use Rattle.osm_desk.proofs.laws.each_is_told_its_own.Goals as goal

pub returns : goal.returns
returns c = λ number hs p room. all_completions_in-replies number hs p room
