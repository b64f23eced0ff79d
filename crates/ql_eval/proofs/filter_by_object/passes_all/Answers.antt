use Rattle.std.proofs.Common.{List, subst, refl}
use Rattle.std.proofs.lemmas.List.{take_all}
use Rattle.osm_keys.proofs.shared.Members.{in_map}
use Rattle.ql_syntax.specs.Filters as tree
use Rattle.ql_syntax.specs.StatementViews.{filter_of, filters_of}
use Rattle.ql_syntax.specs.declared.filter.Filter.{Filter}
use Rattle.ref_sets.proofs.shared.Adding.{item_is_in}
use Rattle.ref_sets.specs.NamedSets.{lists_of}
use Rattle.ql_eval.specs.internal.Narrowing.{PassesAll, PassesItself}
use Rattle.ql_eval.proofs.AllLemmas.{all_at}
use Rattle.ql_eval.proofs.PassingLemmas.{all_more}
use Rattle.ql_eval.proofs.filter_by_object.passes_all.Goals as goal

pub loop-filter-preserved : goal.loop-filter-preserved
loop-filter-preserved c =
    all_more (λ (f : tree.Filter). PassesItself (lists_of c.args.sets.now.named.items) c.args.object.now f) c.args.filters.now c.loop-filter.filter-index c.filter-item.result c.loop-filter-test.true c.filter-item.is
    c.loop-filter.invariant (c.passes.ensures.0 c.if-not-passes.false)

pub returns : goal.returns
returns c = (
  (λ is. subst (λ (fs : List Filter). PassesAll (lists_of c.args.sets.now.named.items) (filters_of fs) c.args.object.now) (take_all c.loop-filter.filter-index c.args.filters.now c.loop-filter-test.false) c.loop-filter.invariant),
  (λ all. refl),
)

pub returns-then-not-passes : goal.returns-then-not-passes
returns-then-not-passes c = (
  (λ is. cc),
  (λ all.
      let filters = c.args.filters.now in
      let f = c.filter-item.result in
      let has = in_map filter_of filters f (item_is_in filters c.loop-filter.filter-index f c.loop-filter-test.true c.filter-item.is) in
      let one = c.passes.ensures.1 (all_at (λ (g : tree.Filter). PassesItself (lists_of c.args.sets.now.named.items) c.args.object.now g) (filters_of filters) (filter_of f) all has) in
      let not = c.if-not-passes.true in
      cc),
)
