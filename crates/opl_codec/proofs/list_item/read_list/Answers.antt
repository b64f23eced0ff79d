use Rattle.std.proofs.Common.{arith}
use Rattle.std.proofs.lemmas.Result.{err_from_is_err_and}
use Rattle.opl_codec.proofs.ValueLists.{all_read, list_fault, too_many}
use Rattle.opl_codec.proofs.list_item.read_list.Goals as goal

pub returns-in_err-list-clause-refused : goal.returns-in_err-list-clause-refused
returns-in_err-list-clause-refused g c =
    let p = err_from_is_err_and c.from_residual.result c.from_residual.ensures.1 in
    rw (p.1, p.2) (list_fault _ _ _ _ _ c.in_err-list.ensures.refused)

pub returns-then-len-gt-LIST_LIMIT-clause-refused : goal.returns-then-len-gt-LIST_LIMIT-clause-refused
returns-then-len-gt-LIST_LIMIT-clause-refused g c = too_many _ c.args.text.now c.in_ok-list.list.items c.in_ok-list.ensures.read (omega (arith, c.len.ensures))

pub returns-clause-read : goal.returns-clause-read
returns-clause-read g c = all_read _ _ _ c.in_ok-list.ensures.read (omega (arith, c.len.ensures))
