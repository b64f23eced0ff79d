use Rattle.std.proofs.Common.{List, ◌++◌, ◌∷◌, [], ap, sym, ◌∙◌}
use Rattle.std.proofs.lemmas.List.{map-append}
use Rattle.ql_syntax.specs.Filters as tree
use Rattle.ql_syntax.specs.StatementViews.{filter_of}
use Rattle.ql_plan.specs.Plans.{is_counted}
use Rattle.ql_plan.proofs.Counted.{passed_no, passed_yes}
use Rattle.ql_plan.proofs.counting.counted.Goals as goal
use Rattle.ql_plan.proofs.counting.counted.Goals.{then-is_counted+in_ok-push, else-is_counted}

pub loop-filter-preserved : goal.loop-filter-preserved
loop-filter-preserved c =
    elim c.if-is_counted.branch [
      | then-is_counted+in_ok-push w ↦
          let more = passed_yes filter_of c.args.filters.now c.loop-filter.filter-index c.filter-item.result c.loop-filter-test.true c.filter-item.is is_counted (sym c.is_counted.ensures ∙ w.if-is_counted.true) in
          rw (w.counted-is, w.in_ok-push.ensures.items, map-append) (ap (λ (some : List tree.Filter). some ++ filter_of c.filter-item.result ∷ []) c.loop-filter.invariant ∙ sym more)
      | else-is_counted w ↦
          let same = passed_no filter_of c.args.filters.now c.loop-filter.filter-index c.filter-item.result c.loop-filter-test.true c.filter-item.is is_counted (sym c.is_counted.ensures ∙ w.if-is_counted.false) in
          rw w.counted-is (c.loop-filter.invariant ∙ sym same)
    ]
