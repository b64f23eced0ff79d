use Rattle.std.proofs.Common.{[], Err, refl, ap}
use Rattle.tree_node.specs.NodeRefs.{bindings_of, number_of}
use Rattle.tree_node.specs.Trees.{levels}
use Rattle.tree_walk.specs.Ranges.{range_of}
use Rattle.tree_walk.specs.Uses.{nodes_around}
use Rattle.tree_walk.proofs.CallLemmas.{found_all, met_is, walk_found}
use Rattle.tree_node.proofs.shared.OutcomeLaws.{outcome_as, outcome_stops}
use Rattle.tree_node.proofs.shared.Results.{err_is}
use Rattle.tree_walk.proofs.ReasonLemmas.{refused_as, refused_missing}
use Rattle.tree_walk.proofs.walk.range_within.Goals as goal

pub returns-in_err-gather-clause-told : goal.returns-in_err-gather-clause-told
returns-in_err-gather-clause-told g c =
    refused_as _ _ _ _ c.in_err-gather.field-0.0 c.from_residual.result (err_is c.from_residual.result c.in_err-gather.field-0.0 c.from_residual.ensures.1) c.in_err-gather.ensures.told

pub returns-in_err-gather-clause-none : goal.returns-in_err-gather-clause-none
returns-in_err-gather-clause-none g c = λ fixed none.
    refused_missing c.in_err-gather.field-0.0 (Err c.in_err-gather.field-0.0) c.from_residual.result refl (c.in_err-gather.ensures.none fixed none) (err_is c.from_residual.result c.in_err-gather.field-0.0 c.from_residual.ensures.1)

pub returns-in_err-gather-clause-answer : goal.returns-in_err-gather-clause-answer
returns-in_err-gather-clause-answer g c = λ shape entries is.
    outcome_stops c.in_err-gather.field-0.0 c.from_residual.ensures.1 refl (λ x. (met_is (range_of c.args.range.now) (levels shape (number_of c.args.tree) entries) x).0) (c.in_err-gather.ensures.answer shape entries is)

pub returns-clause-answer : goal.returns-clause-answer
returns-clause-answer g c = λ shape entries is.
    outcome_as (λ x. (met_is (range_of c.args.range.now) (levels shape (number_of c.args.tree) entries) x).0) (λ _ x. (met_is (range_of c.args.range.now) (levels shape (number_of c.args.tree) entries) x).1)
    (λ gathered. found_all (range_of c.args.range.now) entries gathered.1 gathered.2 gathered.0 c.gather.new.gathered.items.items (gathered.3 [] [] (ap bindings_of c.new.ensures.items)) gathered.4 gathered.5)
    (c.in_ok-gather.ensures.answer shape entries is)

pub returns-clause-gives : goal.returns-clause-gives
returns-clause-gives g c =
    let given = c.in_ok-gather.ensures.gives in
    walk_found (nodes_around g.S.Shelf.holds g.S.Shelf.used c.args.shelf.now c.gather.new.shelf) c.args.tally.now.fetches c.gather.new.tally.fetches c.args.tree c.args.top.now.0 (range_of c.args.range.now)
    given.nodes given.closed given.found c.gather.new.gathered.items.items given.fetched given.differ given.texts given.gives (given.gains [] [] (ap bindings_of c.new.ensures.items))
