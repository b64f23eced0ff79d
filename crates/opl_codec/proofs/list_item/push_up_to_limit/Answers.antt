use Rattle.std.proofs.Common.{arith}
use Rattle.opl_codec.proofs.ValueLists.{first_kept, first_full}
use Rattle.opl_codec.proofs.list_item.push_up_to_limit.Goals as goal

pub returns-in_ok-push : goal.returns-in_ok-push
returns-in_ok-push g c = λ parts spelled is first. rw c.in_ok-push.ensures.items (first_kept g.T.ListItem.spells parts c.args.list.now.items spelled c.args.item first (omega arith) is)

-- the item that isn't kept
pub returns-else-len-le-LIST_LIMIT : goal.returns-else-len-le-LIST_LIMIT
returns-else-len-le-LIST_LIMIT g c = λ parts spelled is first. first_full g.T.ListItem.spells parts c.args.list.now.items spelled c.args.item first (omega arith) is
