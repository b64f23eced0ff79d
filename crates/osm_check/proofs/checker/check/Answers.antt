use Rattle.std.proofs.Common.{◌≡◌, Ok, ap}
use Rattle.osm_check.specs.declared.verdict.Verdict.TheVariants.{Yes}
use Rattle.osm_check.proofs.checker.check.Goals as goal

pub returns-in-Ok-clause-headline : goal.returns-in-Ok-clause-headline
returns-in-Ok-clause-headline c = λ p report is root yes.
    c.in-Ok.ensures.headline p report is root (let same : c.in-Ok.verdict ≡ Yes report = cc in ap Ok same)
