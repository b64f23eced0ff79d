use Rattle.ql_syntax.specs.Filters as tree
use Rattle.ql_syntax.specs.StatementViews.{filters_of}
use Rattle.ref_sets.specs.NamedSets.{lists_of}
use Rattle.ql_eval.specs.internal.Narrowing.{PassesItself}
use Rattle.ql_eval.proofs.AllLemmas.{all_both, all_split}
use Rattle.ql_eval.proofs.filter_by_object.passes_both.Goals as goal

pub returns-then-passes_all : goal.returns-then-passes_all
returns-then-passes_all c =
    let Passes : tree.Filter → Type 0 = λ f. PassesItself (lists_of c.args.sets.now.named.items) c.args.object.now f in (
      (λ yes. all_both Passes (filters_of c.args.before.now) (filters_of c.args.after.now) (c.passes_all.ensures.0 c.if-passes_all.true) (c.passes_all-then-passes_all.ensures.0 yes)),
      (λ all. c.passes_all-then-passes_all.ensures.1 (all_split Passes (filters_of c.args.before.now) (filters_of c.args.after.now) all).1),
    )

pub returns-else-passes_all : goal.returns-else-passes_all
returns-else-passes_all c =
    let Passes : tree.Filter → Type 0 = λ f. PassesItself (lists_of c.args.sets.now.named.items) c.args.object.now f in (
      (λ yes. let not = c.if-passes_all.false in cc),
      (λ all. c.passes_all.ensures.1 (all_split Passes (filters_of c.args.before.now) (filters_of c.args.after.now) all).0),
    )
