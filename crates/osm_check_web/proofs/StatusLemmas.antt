-- What the status of a verdict says of it.
use Rattle.std.proofs.Common.{◌≡◌, refl}
use Rattle.ql_eval.specs.declared.evaluation.Report.{Report}
use Rattle.osm_check.specs.declared.verdict.Verdict.{Verdict}
use Rattle.osm_check.specs.declared.verdict.Verdict.TheVariants.{Yes, No}
use Rattle.osm_check_web.specs.ToldVerdicts.{status_of}
use Rattle.osm_check_web.specs.declared.told.TheConstants.{YES}

-- what is told as a yes is one
pub yes_of : (verdict : Verdict) → status_of verdict ≡ YES → (report : Report) × (verdict ≡ Yes report)
yes_of (Yes report) is = (report, refl)
yes_of (No why) is = cc
