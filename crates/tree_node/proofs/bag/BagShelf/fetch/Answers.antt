use Rattle.std.proofs.Common.{List, ℕ, sym, ap, subst, ◌∙◌, set, true, inl}
use Rattle.tree_node.specs.Digests.{digest}
use Rattle.tree_node.specs.Shelves.{GrownBy}
use Rattle.tree_node.specs.Parts.{node_of}
use Rattle.tree_node.specs.Bags.{HaveMarkedNode}
use Rattle.tree_node.proofs.BagLemmas.{has_none, marks_grow}
use Rattle.tree_node.proofs.bag.BagShelf.fetch.Goals as goal

pub returns-in-None-clause-missing : goal.returns-in-None-clause-missing
returns-in-None-clause-missing c = λ _ x has e. has_none _ _ x c.in-None.ensures.none has e

pub returns-in-Some-clause-given : goal.returns-in-Some-clause-given
returns-in-Some-clause-given c = (
  (c.in-Some.place, c.index.result.now, c.in-Some.ensures.found.0, sym c.index.ensures, sym c.bytes.ensures),
  ap digest c.bytes.ensures ∙ ap (λ p. digest (node_of p)) c.index.ensures ∙ c.in-Some.ensures.found.1 c.index.result.now,
)

pub returns-in-Some-clause-none : goal.returns-in-Some-clause-none
returns-in-Some-clause-none c = λ _ none. absurd (none c.bytes.result.now
    (c.in-Some.place, c.index.result.now, c.in-Some.ensures.found.0, sym c.index.ensures, sym c.bytes.ensures)
    (ap digest c.bytes.ensures ∙ ap (λ p. digest (node_of p)) c.index.ensures ∙ c.in-Some.ensures.found.1 c.index.result.now))

pub returns-in-Some-clause-grown : goal.returns-in-Some-clause-grown
returns-in-Some-clause-grown c =
    subst (λ (n : List ℕ). GrownBy (HaveMarkedNode c.args.self.now.parts.items c.args.self.now.marks.items) (HaveMarkedNode c.args.self.now.parts.items (set c.args.self.now.marks.items c.in-Some.place true)) n) (sym c.bytes.ensures)
    (marks_grow _ _ _ c.index.result.now c.args.self.now.marked c.in-Some.ensures.found.0 c.index.ensures)

pub returns-in-Some-clause-grows : goal.returns-in-Some-clause-grows
returns-in-Some-clause-grows c = λ x used.
    (marks_grow _ _ _ c.index.result.now c.args.self.now.marked c.in-Some.ensures.found.0 c.index.ensures x).1 (inl used)
