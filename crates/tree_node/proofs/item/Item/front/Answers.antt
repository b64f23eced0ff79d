use Rattle.std.proofs.Common.{arith}
use Rattle.std.proofs.lemmas.List.{length-drop}
use Rattle.tree_node.proofs.FrontLemmas.{after_long, entry_long, entry_whole, value_long}
use Rattle.tree_node.proofs.item.Item.front.Goals as goal

pub u16_at-len-requires : goal.u16_at-len-requires
u16_at-len-requires c = omega (arith, entry_long c.args.bytes.now c.requires)

pub split_at-requires : goal.split_at-requires
split_at-requires c = rw (c.u16_at-len.ensures.number, c.u16_at-len.ensures.rest) (omega (arith, entry_long c.args.bytes.now c.requires, length-drop 2 c.args.bytes.now))

pub u32_at-len-requires : goal.u32_at-len-requires
u32_at-len-requires c =
    rw (c.split_at.ensures.back, c.u16_at-len.ensures.number, c.u16_at-len.ensures.rest) (omega (arith, entry_long c.args.bytes.now c.requires, after_long c.args.bytes.now))

pub split_at-requires-2 : goal.split_at-requires-2
split_at-requires-2 c = rw (c.u32_at-len.ensures.number, c.u32_at-len.ensures.rest, c.split_at.ensures.back, c.u16_at-len.ensures.number, c.u16_at-len.ensures.rest) (value_long c.args.bytes.now c.requires)

pub returns : goal.returns
returns c =
    rw (c.split_at-2.ensures.front, c.split_at-2.ensures.back, c.u32_at-len.ensures.number, c.u32_at-len.ensures.rest, c.split_at.ensures.front, c.split_at.ensures.back, c.u16_at-len.ensures.number, c.u16_at-len.ensures.rest)
    (entry_whole c.args.bytes.now (entry_long c.args.bytes.now c.requires) (value_long c.args.bytes.now c.requires))
