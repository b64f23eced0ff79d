use Rattle.std.proofs.Common.{arith}
use Rattle.std.specs.Option.{option_copied}
use Rattle.tree_walk.specs.Ranges.{range_of}
use Rattle.ql_eval.proofs.AffordingLemmas.{ranges_more}
use Rattle.ql_eval.proofs.box_counts.with_range.Goals as goal

pub returns-then-is_after : goal.returns-then-is_after
returns-then-is_after c = λ p ranges is among some counted (first, second). (
  ranges_more p is ranges (range_of c.args.keys) (option_copied c.args.chains.first.end) c.args.chains.first.number c.args.number c.saturating_add.result among some (c.is_after.ensures.0 c.if-is_after.true) (omega (arith, c.saturating_add.ensures)) first counted,
  second,
)

pub returns-then-is_after-2 : goal.returns-then-is_after-2
returns-then-is_after-2 c = λ p ranges is among some counted (first, second). (
  first,
  ranges_more p is ranges (range_of c.args.keys) (option_copied c.args.chains.second.end) c.args.chains.second.number c.args.number c.saturating_add-then-is_after-2.result among some (c.is_after-2.ensures.0 c.if-is_after-2.true)
      (omega (arith, c.saturating_add-then-is_after-2.ensures)) second counted,
)
