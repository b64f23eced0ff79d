use Rattle.std.proofs.Common.{◌*◌, ℕ, List, ap}
use Rattle.std.proofs.lemmas.List.{at_drop_all}
use Rattle.ql_syntax.specs.StatementViews.{filters_of}
use Rattle.ql_syntax.specs.declared.filter.Filter.{Filter}
use Rattle.ref_sets.specs.NamedSets.{lists_of}
use Rattle.ql_eval.specs.Work.{read_by_all, step_cost}
use Rattle.ql_eval.proofs.MeterLemmas.{left_all, left_next, left_start, left_stops, next_read}
use Rattle.ql_eval.proofs.reads.charge_filters.Goals as goal

pub loop-filter-init : goal.loop-filter-init
loop-filter-init c = left_start _ _

pub loop-filter-preserved : goal.loop-filter-preserved
loop-filter-preserved c =
    left_next (next_read (lists_of c.args.sets.now.named.items) c.args.filters.now c.loop-filter.filter-index c.filter-item.result c.loop-filter-test.true c.filter-item.is c.size_read.result c.size_read.ensures) c.loop-filter.invariant c.charge_more.ensures

pub returns-in_err-charge_more-clause-bounded : goal.returns-in_err-charge_more-clause-bounded
returns-in_err-charge_more-clause-bounded c =
    left_stops _ (next_read (lists_of c.args.sets.now.named.items) c.args.filters.now c.loop-filter.filter-index c.filter-item.result c.loop-filter-test.true c.filter-item.is c.size_read.result c.size_read.ensures) c.loop-filter.invariant c.charge_more.ensures

pub returns-clause-spent : goal.returns-clause-spent
returns-clause-spent c = left_all (ap (λ (n : ℕ). step_cost * n) (at_drop_all (λ (l : List Filter). read_by_all (lists_of c.args.sets.now.named.items) (filters_of l)) c.args.filters.now c.loop-filter.filter-index c.loop-filter-test.false)) c.loop-filter.invariant

pub returns-clause-bounded : goal.returns-clause-bounded
returns-clause-bounded c = let so = left_all (ap (λ (n : ℕ). step_cost * n) (at_drop_all (λ (l : List Filter). read_by_all (lists_of c.args.sets.now.named.items) (filters_of l)) c.args.filters.now c.loop-filter.filter-index c.loop-filter-test.false)) c.loop-filter.invariant in so.not_more
