use Rattle.std.proofs.Common.{◌∙◌, Ok, ap, sym, arith}
use Rattle.tree_node.specs.internal.Reading.{link_by}
use Rattle.tree_node.proofs.FrontLemmas.{link_first, link_long}
use Rattle.tree_node.proofs.child.Child.front.Goals as goal

pub u16_at-len-requires : goal.u16_at-len-requires
u16_at-len-requires c = omega (arith, link_long c.args.bytes.now c.requires)

pub front_by-requires : goal.front_by-requires
front_by-requires c = omega (arith, link_long c.args.bytes.now c.requires, c.u16_at-len.ensures.number)

pub returns : goal.returns
returns c = link_first c.args.bytes.now c.requires ∙ ap (λ x. Ok x) (ap (λ n. link_by n c.args.bytes.now) (sym c.u16_at-len.ensures.number) ∙ sym c.front_by.ensures)
