use Rattle.std.proofs.Common.{◌≡◌, ◌++◌, ℕ, List}
use Rattle.osm_model.specs.Bytes.{comma}
use Rattle.byte_io.specs.Pieces.{pieces}
use Rattle.opl_codec.specs.internal.ListParts.{AreFirst}
use Rattle.opl_codec.proofs.ReadPieces.{pieces_left, left_len}
use Rattle.opl_codec.proofs.ValueLists.{LeavesAfter}
use Rattle.opl_codec.proofs.list_item.read_items.Given as goal

abbrev pub invariant-loop-left : goal.invariant-loop-left
invariant-loop-left g l = (done : List (List ℕ)) × (pieces comma l.fn.text ≡ done ++ pieces_left comma l.left) × AreFirst g.T.ListItem.spells done l.list.items × LeavesAfter l.fn.text done l.left

abbrev pub decreases-loop-left : goal.decreases-loop-left
decreases-loop-left g l = left_len l.left
