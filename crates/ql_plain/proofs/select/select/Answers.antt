use Rattle.ref_sets.specs.NamedSets.{lists_of}
use Rattle.ql_plain.proofs.Selecting.{selected_all, selected_more, selected_none}
use Rattle.ql_plain.proofs.select.select.Goals as goal

pub loop-filter-init : goal.loop-filter-init
loop-filter-init c = selected_none c.args.set.now (lists_of c.args.sets.now.named.items) c.args.kind c.in_ok-refs.ensures

pub loop-filter-preserved : goal.loop-filter-preserved
loop-filter-preserved c =
    selected_more c.args.set.now (lists_of c.args.sets.now.named.items) c.args.kind c.args.filters.now c.loop-filter.filter-index c.filter-item.result c.loop-filter-test.true c.filter-item.is
    c.in_ok-kept.kept c.loop-filter.invariant c.in_ok-kept.ensures c.in_ok-refs-2.ensures

pub returns : goal.returns
returns c = selected_all c.args.set.now (lists_of c.args.sets.now.named.items) c.args.kind c.args.filters.now c.loop-filter.filter-index c.loop-filter-test.false c.loop-filter.invariant
