use Rattle.std.proofs.Common.{◌≡◌, ◌++◌, ◌∷◌, ◌+◌, [], length, arith}
use Rattle.osm_model.specs.Bytes.{comma}
use Rattle.byte_io.specs.Pieces.{pieces}
use Rattle.opl_codec.specs.ValueFaults.{items_len, IsSpelled}
use Rattle.opl_codec.proofs.ReadPieces.{pieces_left}
use Rattle.opl_codec.proofs.shared.ReadLiterals.{not_empty}
use Rattle.opl_codec.proofs.ValueLists.{bad_item, front_good, item_there, leaves_further, pieces_further}
use Rattle.opl_codec.proofs.list_item.read_items.Goals as goal

pub returns-in-Err-clause-refused : goal.returns-in-Err-clause-refused
returns-in-Err-clause-refused g c =
    let text = c.args.text.now in
    let rest = c.in-Some.rest.now in
    let item = c.first_piece.result.0.now in
    let more = c.first_piece.result.1 in
    let before = c.loop-left.invariant in
    let some = not_empty _ _ c.is_empty.ensures c.if-is_empty.false in
    let parts : pieces comma text ≡ before.0 ++ pieces comma rest = rw c.in-Some.is at before.1 in
    let place : items_len before.0 + length rest ≡ length text = rw c.in-Some.is at before.3 in
    let are = item_there text rest item before.0 more some parts c.first_piece.ensures in
    let spells = g.T.ListItem.spells in
    rw c.shifted_by.ensures (bad_item (IsSpelled spells) g.T.ListItem.bad ⊥ text before.0 item (pieces_left comma more) c.in-Err.fault _ some are (front_good spells before.0 c.loop-left.list.items before.2) (omega arith)
    g.met.T.ListItem.unlimited c.in-Err.ensures.refused)

pub loop-left-preserved : goal.loop-left-preserved
loop-left-preserved g c =
    let text = c.args.text.now in
    let rest = c.in-Some.rest.now in
    let item = c.first_piece.result.0.now in
    let more = c.first_piece.result.1 in
    let before = c.loop-left.invariant in
    let parts : pieces comma text ≡ before.0 ++ pieces comma rest = rw c.in-Some.is at before.1 in
    let place : items_len before.0 + length rest ≡ length text = rw c.in-Some.is at before.3 in (
      before.0 ++ item ∷ [],
      pieces_further text rest item before.0 more parts c.first_piece.ensures,
      c.in_ok-push_up_to_limit-in-Ok.ensures before.0 item c.in-Ok.ensures.read before.2,
      leaves_further text rest item before.0 more place c.first_piece.ensures,
    )
