use Rattle.std.proofs.Common.{List, ap, subst, sym, ◌∙◌}
use Rattle.std.proofs.Math.Logic.{∥∥₁_map}
use Rattle.tree_node.specs.Recorders.{RecorderHolds, RecorderUsed}
use Rattle.tree_node.specs.Shelves.{SameNodes}
use Rattle.tree_node.specs.Stocks.{HasNode}
use Rattle.tree_node.specs.declared.part.Part.{Part}
use Rattle.tree_node.specs.declared.stock.Stock.{Stock}
use Rattle.ql_syntax.specs.StatementViews.{statements_of}
use Rattle.osm_prove.specs.Proofs.{listing, nodes_of}
use Rattle.osm_prove.proofs.Proving.{AreNeeded, fits_from, needed_fit, parts_needed, proof_of_needed}
use Rattle.osm_prove.proofs.prover.answer_with_proof.Goals as goal

pub evaluate_over-requires : goal.evaluate_over-requires
evaluate_over-requires c = subst (λ (s : Stock). SameNodes (HasNode s) (RecorderHolds c.new-shelf.result)) c.stock.ensures c.new-shelf.ensures.holds

pub write_proof-requires : goal.write_proof-requires
write_proof-requires c =
    let st = statements_of c.args.query.now in
    fits_from (nodes_of c.deref.result.now) (∥∥₁_map c.args.snapshot.now.own (λ held.
    let p = held.0 in
    let needed = parts_needed p st (RecorderUsed c.new-shelf.result) (RecorderUsed c.evaluate_over.new.shelf) c.in_ok-parts.parts.items c.new-shelf.ensures.unused (c.in_ok-answer.ensures.needed p held.1) c.in_ok-parts.ensures.rising c.in_ok-parts.ensures.used in
    needed_fit p st (nodes_of c.deref.result.now) held.1.is.published (subst (λ (ps : List Part). AreNeeded p st (nodes_of ps)) (sym c.deref.ensures.value) needed)))

pub returns-clause-proved : goal.returns-clause-proved
returns-clause-proved c = λ p held.
    let st = statements_of c.args.query.now in
    let needed = parts_needed p st (RecorderUsed c.new-shelf.result) (RecorderUsed c.evaluate_over.new.shelf) c.in_ok-parts.parts.items c.new-shelf.ensures.unused (c.in_ok-answer.ensures.needed p held) c.in_ok-parts.ensures.rising c.in_ok-parts.ensures.used in (
      c.in_ok-answer.ensures.means p held,
      proof_of_needed p st (nodes_of c.in_ok-parts.parts.items) c.in_ok-proof.proof.items held.is.published needed (c.in_ok-proof.ensures ∙ ap (λ (ps : List Part). listing (nodes_of ps)) c.deref.ensures.value),
    )
