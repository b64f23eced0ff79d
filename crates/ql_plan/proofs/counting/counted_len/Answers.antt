use Rattle.std.proofs.Common.{sym, ◌∙◌, arith}
use Rattle.ql_syntax.specs.StatementViews.{filter_of}
use Rattle.ql_plan.specs.Plans.{is_counted}
use Rattle.ql_plan.proofs.Counted.{one_more, passed_no}
use Rattle.ql_plan.proofs.counting.counted_len.Goals as goal
use Rattle.ql_plan.proofs.counting.counted_len.Goals.{then-is_counted, else-is_counted}

pub loop-filter-preserved : goal.loop-filter-preserved
loop-filter-preserved c =
    elim c.if-is_counted.branch [
      | then-is_counted w ↦
          let more = one_more filter_of c.args.filters.now c.loop-filter.filter-index c.filter-item.result c.loop-filter-test.true c.filter-item.is is_counted (sym c.is_counted.ensures ∙ w.if-is_counted.true) in
          record { counted = omega arith; small = omega arith }
      | else-is_counted w ↦
          let same = passed_no filter_of c.args.filters.now c.loop-filter.filter-index c.filter-item.result c.loop-filter-test.true c.filter-item.is is_counted (sym c.is_counted.ensures ∙ w.if-is_counted.false) in
          record { counted = cc; small = omega arith }
    ]
