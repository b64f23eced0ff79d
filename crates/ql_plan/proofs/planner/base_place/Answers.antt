use Rattle.std.proofs.Common.{◌≤◌, inl, inr, arith, sym, ◌∙◌}
use Rattle.std.proofs.lemmas.Bool.{cases_lt}
use Rattle.std.proofs.lemmas.List.{length-map}
use Rattle.ql_plan.proofs.BaseSoFar.{base_all, base_keeps, base_takes}
use Rattle.ql_plan.proofs.Counted.{rank_there}
use Rattle.ql_plan.specs.internal.Sorts.{rank}
use Rattle.ql_plan.proofs.planner.base_place.Goals as goal
use Rattle.ql_plan.proofs.planner.base_place.Goals.{then-is_before, else-is_before}

pub loop-at-preserved : goal.loop-at-preserved
loop-at-preserved c =
    let there = rank_there c.args.filters.now c.loop-at.at c.index-filters-at.result c.loop-at-test.true c.index-filters-at.is ∙ sym c.of-sort.ensures in
    elim c.if-is_before.branch [
      | then-is_before w ↦ rw (w.base-is, w.earliest-is) (base_takes (rank c.of-sort.result) there (c.is_before.ensures.0 w.if-is_before.true) c.loop-at.invariant)
      | else-is_before w ↦
          let not_before : rank c.loop-at.earliest ≤ rank c.of-sort.result = elim (cases_lt (rank c.of-sort.result) (rank c.loop-at.earliest)) [ inl less ↦ absurd (let before = c.is_before.ensures.1 less in let after = w.if-is_before.false in cc) | inr more ↦ more ] in
          rw (w.base-is, w.earliest-is) (base_keeps (rank c.of-sort.result) there not_before c.loop-at.invariant)
    ]

pub returns : goal.returns
returns c = base_all (rw length-map (omega arith)) c.loop-at.invariant
