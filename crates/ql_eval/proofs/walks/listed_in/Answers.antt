use Rattle.std.proofs.Common.{ℕ, List, subst, sym, ◌∙◌}
use Rattle.tree_node.specs.NodeRefs.{number_of}
use Rattle.tree_walk.specs.Walks.{IsTopOf}
use Rattle.osm_keys.specs.Publications.{shape_in}
use Rattle.osm_keys.proofs.shared.EntryBytes.{is_top}
use Rattle.tree_node.proofs.shared.OutcomeLaws.{uses}
use Rattle.std.specs.Prelude.{IfErr, IfOk}
use Rattle.tree_node.specs.NodeRefs.{bindings_of}
use Rattle.tree_walk.specs.Given.{IsWalk, These}
use Rattle.tree_walk.specs.Ranges.{range_of}
use Rattle.tree_walk.specs.Reasons.{HasReason}
use Rattle.ql_eval.proofs.walks.listed_in.Goals as goal

pub returns-clause-gives : goal.returns-clause-gives
returns-clause-gives g c =
    subst (λ (top : List ℕ). IfOk c.range_within.result (λ found. IsWalk (uses (g.S.Shelf.holds c.range_within.new.shelf) (g.S.Shelf.used c.args.shelf.now) (g.S.Shelf.used c.range_within.new.shelf)) c.args.tally.now.fetches c.range_within.new.tally.fetches c.args.tree top (range_of c.args.keys.now) (These (bindings_of found.items)))) c.top_of.ensures c.range_within.ensures.gives

pub returns-clause-told : goal.returns-clause-told
returns-clause-told g c = subst (λ (top : List ℕ). IfErr c.range_within.result (HasReason (number_of c.args.tree) top (g.S.Shelf.holds c.range_within.new.shelf) (g.S.Shelf.used c.range_within.new.shelf))) c.top_of.ensures c.range_within.ensures.told

pub returns-clause-answer : goal.returns-clause-answer
returns-clause-answer g c = λ p is under.
    c.range_within.ensures.answer (shape_in p) (p.entries c.args.tree)
    (subst (λ (top : List ℕ). IsTopOf (shape_in p) (number_of c.args.tree) (p.entries c.args.tree) top) (sym (c.top_of.ensures ∙ under c.args.tree)) (is_top p is c.args.tree))
