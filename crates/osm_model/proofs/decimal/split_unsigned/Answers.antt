use Rattle.std.proofs.Common.{arith, length-drop}
use Rattle.std.proofs.lemmas.List.{take_all}
use Rattle.osm_model.proofs.shared.Digits.{none_without_digits, none_after, if_none_weaker}
use Rattle.osm_model.proofs.decimal.split_unsigned.Goals as goal

pub returns-then-len-eq0-clause-none : goal.returns-then-len-eq0-clause-none
returns-then-len-eq0-clause-none c = none_without_digits _ _ (omega arith) c.digits_len-len.ensures.digits c.digits_len-len.ensures.stop

pub returns-clause-none : goal.returns-clause-none
returns-clause-none c = if_none_weaker c.after_whole.result (none_after c.args.text.now _ c.digits_len-len.result (take_all _ _ (omega (arith, length-drop c.digits_len-len.result c.args.text.now))) c.digits_len-len.ensures.digits c.digits_len-len.ensures.stop) c.after_whole.ensures.none
