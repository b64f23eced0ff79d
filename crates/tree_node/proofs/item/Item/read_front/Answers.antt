use Rattle.std.proofs.Common.{◌≤◌, ◌<◌, length, drop, ap, arith}
use Rattle.std.proofs.lemmas.List.{length-drop}
use Rattle.tree_node.proofs.FrontLemmas.{after_key, entry_cut, entry_whole, value_cut, value_len}
use Rattle.tree_node.proofs.item.Item.read_front.Goals as goal

pub returns-then-bytes-lt-FEWEST_BYTES : goal.returns-then-bytes-lt-FEWEST_BYTES
returns-then-bytes-lt-FEWEST_BYTES c = entry_cut c.args.bytes.now (omega arith)

pub returns-then-rest-len : goal.returns-then-rest-len
returns-then-rest-len c = entry_cut c.args.bytes.now (omega (arith, c.u16_at-len.ensures.number, ap length c.u16_at-len.ensures.rest, length-drop 2 c.args.bytes.now))

pub returns-then-rest-len-2 : goal.returns-then-rest-len-2
returns-then-rest-len-2 c =
    let short : length (drop 4 (after_key c.args.bytes.now)) < value_len c.args.bytes.now =
    rw (← c.u16_at-len.ensures.rest, ← c.u16_at-len.ensures.number, ← c.split_at.ensures.back, ← c.u32_at-len.ensures.rest, ← c.u32_at-len.ensures.number) c.if-rest-len-2.true in
    value_cut c.args.bytes.now (omega (arith, c.u16_at-len.ensures.number, ap length c.u16_at-len.ensures.rest, length-drop 2 c.args.bytes.now)) short

pub returns : goal.returns
returns c =
    let long : value_len c.args.bytes.now ≤ length (drop 4 (after_key c.args.bytes.now)) =
    rw (← c.u16_at-len.ensures.rest, ← c.u16_at-len.ensures.number, ← c.split_at.ensures.back, ← c.u32_at-len.ensures.rest, ← c.u32_at-len.ensures.number) c.if-rest-len-2.false in
    rw (c.split_at-2.ensures.front, c.split_at-2.ensures.back, c.u32_at-len.ensures.number, c.u32_at-len.ensures.rest, c.split_at.ensures.front, c.split_at.ensures.back, c.u16_at-len.ensures.number, c.u16_at-len.ensures.rest)
    (entry_whole c.args.bytes.now (omega (arith, c.u16_at-len.ensures.number, ap length c.u16_at-len.ensures.rest, length-drop 2 c.args.bytes.now)) long)
