use Rattle.opl_codec.proofs.ValueMoments.{no_stamp, empty_stamp}
use Rattle.opl_codec.proofs.shared.ReadLiterals.{not_empty}
use Rattle.opl_codec.proofs.ValueLists.{is_empty}
use Rattle.opl_codec.proofs.moment.read_stamp.Goals as goal

pub returns-then-is_empty : goal.returns-then-is_empty
returns-then-is_empty c = empty_stamp c.args.text.now (is_empty _ _ c.is_empty.ensures c.if-is_empty.true)

pub returns-in_err-read_moment : goal.returns-in_err-read_moment
returns-in_err-read_moment c = rw c.from_residual.ensures (no_stamp c.args.text.now (not_empty _ _ c.is_empty.ensures c.if-is_empty.false) c.in_err-read_moment.ensures)
