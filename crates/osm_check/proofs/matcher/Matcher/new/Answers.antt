use Rattle.std.proofs.Common.{refl}
use Rattle.osm_check.proofs.Fronts.{common_nil}
use Rattle.osm_check.proofs.matcher.Matcher.new.Goals as goal

pub returns-clause-nothing : goal.returns-clause-nothing
returns-clause-nothing c = (refl, common_nil c.args.expected.now)
