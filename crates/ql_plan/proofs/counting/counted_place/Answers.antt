use Rattle.std.proofs.Common.{sym, ◌∙◌, arith}
use Rattle.ql_syntax.specs.StatementViews.{filter_of}
use Rattle.ql_plan.specs.Plans.{is_counted}
use Rattle.ql_plan.proofs.Counted.{counted_here, one_more, passed_no}
use Rattle.ql_plan.proofs.counting.counted_place.Goals as goal
use Rattle.ql_plan.proofs.counting.counted_place.Goals.{then-is_counted+else-seen-others, else-is_counted}

pub returns-then-seen-others : goal.returns-then-seen-others
returns-then-seen-others c =
    counted_here c.args.filters.now c.loop-at.at c.index-filters-at.result c.loop-at-test.true c.index-filters-at.is c.args.others (sym c.is_counted.ensures ∙ c.if-is_counted.true) (sym c.loop-at.invariant.seen ∙ c.if-seen-others.true)

pub loop-at-preserved : goal.loop-at-preserved
loop-at-preserved c =
    elim c.if-is_counted.branch [
      | then-is_counted+else-seen-others w ↦
          let more = one_more filter_of c.args.filters.now c.loop-at.at c.index-filters-at.result c.loop-at-test.true c.index-filters-at.is is_counted (sym c.is_counted.ensures ∙ w.if-is_counted.true) in
          record { seen = omega arith; few = omega arith }
      | else-is_counted w ↦
          let same = passed_no filter_of c.args.filters.now c.loop-at.at c.index-filters-at.result c.loop-at-test.true c.index-filters-at.is is_counted (sym c.is_counted.ensures ∙ w.if-is_counted.false) in
          record { seen = cc; few = omega arith }
    ]
