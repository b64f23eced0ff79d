use Rattle.std.proofs.Common.{ℕ, List, subst, sym, ◌∙◌}
use Rattle.tree_node.specs.NodeRefs.{number_of}
use Rattle.tree_walk.specs.Walks.{IsTopOf}
use Rattle.osm_keys.specs.Publications.{shape_in}
use Rattle.osm_keys.proofs.shared.EntryBytes.{is_top}
use Rattle.ql_eval.proofs.AbsenceLemmas.{walk_counted}
use Rattle.osm_keys.specs.Manifests.{top_among}
use Rattle.tree_node.proofs.shared.OutcomeLaws.{uses}
use Rattle.std.specs.Prelude.{IfErr, IfOk}
use Rattle.tree_walk.specs.Given.{IsWalk, SoMany}
use Rattle.tree_walk.specs.Ranges.{range_of}
use Rattle.tree_walk.specs.Reasons.{HasReason}
use Rattle.ql_eval.proofs.walks.count_in.Goals as goal

pub returns-clause-walked : goal.returns-clause-walked
returns-clause-walked g c = walk_counted (top_among c.args.manifest.now.tops) _ _ _ _ _ _ _ c.args.tree (range_of c.args.keys.now) c.count.result c.count.ensures.calls
    (subst (λ (top : List ℕ). IfOk c.count.result (λ number. IsWalk (uses (g.S.Shelf.holds c.count.new.shelf) (g.S.Shelf.used c.args.shelf.now) (g.S.Shelf.used c.count.new.shelf)) c.args.tally.now.fetches c.count.new.tally.fetches c.args.tree top (range_of c.args.keys.now) (SoMany number))) c.top_of.ensures c.count.ensures.gives)

pub returns-clause-told : goal.returns-clause-told
returns-clause-told g c = subst (λ (top : List ℕ). IfErr c.count.result (HasReason (number_of c.args.tree) top (g.S.Shelf.holds c.count.new.shelf) (g.S.Shelf.used c.count.new.shelf))) c.top_of.ensures c.count.ensures.told

pub returns-clause-answer : goal.returns-clause-answer
returns-clause-answer g c = λ p is under.
    c.count.ensures.answer (shape_in p) (p.entries c.args.tree)
    (subst (λ (top : List ℕ). IsTopOf (shape_in p) (number_of c.args.tree) (p.entries c.args.tree) top) (sym (c.top_of.ensures ∙ under c.args.tree)) (is_top p is c.args.tree))
