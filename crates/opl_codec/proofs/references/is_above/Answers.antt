use Rattle.std.proofs.Common.{sym, ◌∙◌, arith}
use Rattle.opl_codec.proofs.ReferenceLists.{rises_above, rises_first}
use Rattle.opl_codec.proofs.references.is_above.Goals as goal

pub returns-in-None : goal.returns-in-None
returns-in-None c = λ _ _. rises_first c.args.objects.now c.args.name (omega (arith, c.in-None.ensures.item))

pub returns-in-Some : goal.returns-in-Some
returns-in-Some c = λ below rise. rises_above c.args.objects.now c.in-Some.last.now c.args.name (let some = c.in-Some.ensures.item.3.0 in omega arith) (sym c.in-Some.ensures.value) (sym c.is_below.ensures ∙ below) rise
