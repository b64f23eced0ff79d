use Rattle.opl_codec.proofs.shared.ReadLiterals.{not_empty}
use Rattle.opl_codec.proofs.coordinate.read_degrees_field.Goals as goal

pub returns-in-Err-clause-refused : goal.returns-in-Err-clause-refused
returns-in-Err-clause-refused c = c.value_fault_of.ensures c.args.text.now c.args.axis (not_empty _ _ c.is_empty.ensures c.if-is_empty.false) c.in-Err.ensures.refused
