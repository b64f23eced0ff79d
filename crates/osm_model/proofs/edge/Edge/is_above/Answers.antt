use Rattle.std.proofs.Common.{◌≡◌, ◌↔◌, IsTrue, pos, true, false, sym, ◌∙◌, ap, rules}
use Rattle.osm_model.specs.Edges.{ExactEdge, IsAtLeast, IsAtMost}
use Rattle.osm_model.proofs.EdgeSizes.{few_whole}
use Rattle.osm_model.proofs.EdgeOrder.{apart_then, apart_else}
use Rattle.osm_model.proofs.edge.Edge.is_above.Goals as goal
use Rattle.osm_model.proofs.edge.Edge.is_above.Goals.{then-at_least, else-at_least}

pub compare_sizes-requires-clause-few_first : goal.compare_sizes-requires-clause-few_first
compare_sizes-requires-clause-few_first c = few_whole _ c.other.invariant.0

pub compare_sizes-requires-clause-few_second : goal.compare_sizes-requires-clause-few_second
compare_sizes-requires-clause-few_second c = few_whole _ c.self.invariant.0

pub compare_sizes-requires-in-false-false-clause-few_first : goal.compare_sizes-requires-in-false-false-clause-few_first
compare_sizes-requires-in-false-false-clause-few_first c = few_whole _ c.self.invariant.0

pub compare_sizes-requires-in-false-false-clause-few_second : goal.compare_sizes-requires-in-false-false-clause-few_second
compare_sizes-requires-in-false-false-clause-few_second c = few_whole _ c.other.invariant.0

pub returns-after-at_least : goal.returns-after-at_least
returns-after-at_least c =
    let up : c.args.self.now.value.negative ≡ false = ap (λ (e : ExactEdge). e.value.negative) (sym c.self.view_is) ∙ c.in-false-true.is-0 in
    let down : c.args.other.now.value.negative ≡ true = ap (λ (e : ExactEdge). e.value.negative) (sym c.other.view_is) ∙ c.in-false-true.is-1 in
    let from : IsTrue c.at_least.result ↔ IsAtLeast (pos 0) c.args.self.now.value = search rules in
    elim c.if-at_least.branch [
      | then-at_least w ↦
          let to : IsTrue w.at_most.result ↔ IsAtMost (pos 0) c.args.other.now.value = search rules in
          apart_then c.args.self.now.value c.args.other.now.value up down c.at_least.result w.at_most.result c.if-at_least.result from to w.if-at_least.true w.result-is
      | else-at_least w ↦ apart_else c.args.self.now.value c.args.other.now.value up down c.at_least.result c.if-at_least.result from w.if-at_least.false (w.result-is ∙ w.if-at_least.false)
    ]
