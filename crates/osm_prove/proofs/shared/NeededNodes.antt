-- The nodes that a query needs, or anything that may be asked, are nodes of the publication.
use Rattle.std.proofs.Common.{ℕ, List, inl, inr, subst}
use Rattle.tree_node.specs.Trees.{IsNodeOf}
use Rattle.tree_node.specs.declared.tree.Tree.{Tree}
use Rattle.osm_keys.proofs.shared.OnePublication.{whole_grain}
use Rattle.osm_keys.specs.Grains.{Grain}
use Rattle.osm_keys.specs.Publications.{IsNodeIn, Publication, tree_in}
use Rattle.ql_syntax.specs.Statements.{Statements}
use Rattle.ql_eval.specs.Asks.{IsNeeded}
use Rattle.ql_eval.specs.Questions.{Ask, Counted, IsLineOf, LineOf, Listed, NeedsAsk}
use Rattle.ql_eval.specs.Work as work

-- a node that an ask needs is one of a tree
ask_in : (p : Publication) (ask : Ask) (node : List ℕ) → NeedsAsk p ask node → (tree : Tree) × IsNodeOf (tree_in p tree) node
ask_in p (Listed tree range) node needs = (tree, (needs.0, needs.1, needs.2))
ask_in p (Counted tree range) node needs = (tree, (needs.0, needs.1, needs.2))
-- so far no line is a node of its own
ask_in p (LineOf r) node needs = absurd (subst (λ (grain : Grain). IsLineOf grain p.objects r node) (whole_grain p.edition) needs)

-- a node that a query needs is one of the publication
pub needed_in : (p : Publication) (statements : Statements) (node : List ℕ) → IsNeeded p statements node → IsNodeIn p node
needed_in p statements node (inl manifest) = inl manifest
needed_in p statements node (inr needed) = inr (ask_in p needed.ask node needed.needs)

-- and so is one that may be asked for
pub askable_in : (p : Publication) (node : List ℕ) → work.IsNodeOf p node → IsNodeIn p node
askable_in p node (inl manifest) = inl manifest
askable_in p node (inr needed) = inr (ask_in p needed.ask node needed.needs)
