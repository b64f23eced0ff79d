use Rattle.opl_codec.proofs.ValueNodes.{located_test, never_located}
use Rattle.opl_codec.proofs.node_item.is_located.Goals as goal

pub returns-in-Some : goal.returns-in-Some
returns-in-Some c = located_test c.args.text.now c.in-Some.digits.now _ c.read_number.result _ c.in-Some.ensures.parts.0 c.in-Some.ensures.parts.1 c.read_number.ensures c.is_some.ensures

pub returns-in-None : goal.returns-in-None
returns-in-None c = (λ yes. absurd (let no = yes in cc), λ h. absurd (never_located c.args.text.now c.in-None.ensures.parts h))
