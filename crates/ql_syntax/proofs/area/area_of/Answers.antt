use Rattle.std.proofs.Common.{refl}
use Rattle.ql_syntax.proofs.AreaLemmas.{area_read, area_stop}
use Rattle.ql_syntax.proofs.area.area_of.Goals as goal

pub returns-in-Ok : goal.returns-in-Ok
returns-in-Ok c = λ text. let h = c.in-Ok.ensures.made in area_read _ h.0 h.1 refl

pub returns-in-Err : goal.returns-in-Err
returns-in-Err c = λ text. area_stop c.in-Err.ensures.refused c.at.ensures.cause c.at.ensures.rest
