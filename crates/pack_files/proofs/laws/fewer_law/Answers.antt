use Rattle.pack_files.proofs.OverLemmas.{fewer_at}
use Rattle.pack_files.proofs.laws.fewer_law.Goals as goal

pub returns : goal.returns
returns c = λ bytes limit old fewer nodes agree closed are. fewer_at old fewer agree bytes limit nodes closed are
