use Rattle.std.proofs.Common.{◌≡◌, Ok, ap}
use Rattle.osm_check.specs.declared.told.Told.TheVariants.{Answer}
use Rattle.osm_check.proofs.teller.tell.Goals as goal

pub returns-in-Ok-clause-headline : goal.returns-in-Ok-clause-headline
returns-in-Ok-clause-headline c = λ p text report is root said.
    c.in-Ok.ensures.headline p text report is root (let same : c.in-Ok.told ≡ Answer text report = cc in ap Ok same)
