use Rattle.std.proofs.Common.{List, sym, subst}
use Rattle.std.specs.Prelude.{IfErr, OnOk}
use Rattle.tree_node.specs.NodeRefs.{bindings_of}
use Rattle.tree_node.specs.declared.item.Item.{Item}
use Rattle.tree_node.specs.declared.tree.Tree.TheVariants.{Cells}
use Rattle.tree_node.proofs.shared.OutcomeLaws.{outcome_stops}
use Rattle.tree_walk.specs.Choices.{AreThose}
use Rattle.tree_walk.specs.Ranges.{Range}
use Rattle.tree_walk.specs.Walks.{IsEntryIn}
use Rattle.ref_sets.specs.Adding.{Adds}
use Rattle.ql_eval.specs.Questions.{Listed, NeedsAsk}
use Rattle.ql_eval.specs.internal.Entries.{AreMisread, IsSaid, SaysIn}
use Rattle.ql_eval.proofs.BoxLemmas.{range_added, range_read}
use Rattle.ql_eval.proofs.EachLemmas.{needed_one, one_needed}
use Rattle.osm_keys.specs.Manifests.{top_among}
use Rattle.ql_eval.specs.Forms.{HaveForm, Names}
use Rattle.ql_eval.specs.internal.TrueFaults.{IsTrueUnder}
use Rattle.ql_eval.proofs.StepLemmas.{refused_as, then_read, walk_cause}
use Rattle.ql_eval.proofs.AbsenceLemmas.{no_objects, walk_read}
use Rattle.ql_eval.proofs.WalkLemmas.{read_told, walk_told}
use Rattle.std.proofs.Common.{refl}
use Rattle.ql_eval.proofs.GivenLemmas.{box_named}
use Rattle.ql_eval.proofs.boxes.add_range.Goals as goal

pub returns-in_err-found-clause-answer : goal.returns-in_err-found-clause-answer
returns-in_err-found-clause-answer g c = λ p is under.
    outcome_stops _ c.from_residual.ensures.1 (walk_cause c.in_err-found.field-0.0)
    (λ x needs. needed_one (Listed Cells c.args.keys.now) refl x (subst (λ (range : Range). NeedsAsk p (Listed Cells range) x) c.as_range.ensures.value needs))
    (c.in_err-found.ensures.answer p is under)

pub returns-clause-answer : goal.returns-clause-answer
returns-clause-answer g c = λ p is under.
    let items = c.in_ok-found.found.items in
    then_read c.add_nodes.result
    (λ x needs. needed_one (Listed Cells c.args.keys.now) refl x (subst (λ (range : Range). NeedsAsk p (Listed Cells range) x) c.as_range.ensures.value needs))
    (λ x needs. subst (λ (range : Range). NeedsAsk p (Listed Cells range) x) (sym c.as_range.ensures.value) (one_needed (Listed Cells c.args.keys.now) x needs))
    (λ those.
    range_added p is c.args.area.now c.args.keys.now (bindings_of items) _ _ (subst (λ (range : Range). AreThose (IsEntryIn range) (p.entries Cells) (bindings_of items)) c.as_range.ensures.value those) c.add_nodes.result
    (subst (λ (all : List Item). OnOk c.add_nodes.result (Adds c.args.names.now.items c.add_nodes.new.names.items (IsSaid (SaysIn c.args.area.now) (bindings_of all)))) c.deref.ensures.value c.add_nodes.ensures.added)
    (subst (λ (all : List Item). IfErr c.add_nodes.result (AreMisread Cells (bindings_of all))) c.deref.ensures.value c.add_nodes.ensures.refused))
    (c.in_ok-found.ensures.answer p is under)

pub returns-in_err-found-clause-read : goal.returns-in_err-found-clause-read
returns-in_err-found-clause-read g c = λ p is under.
    outcome_stops _ c.from_residual.ensures.1 (walk_cause c.in_err-found.field-0.0)
    (λ x needs. needed_one (Listed Cells c.args.keys.now) refl x (subst (λ (range : Range). NeedsAsk p (Listed Cells range) x) c.as_range.ensures.value needs))
    (c.in_err-found.ensures.answer p is under)

pub returns-clause-read : goal.returns-clause-read
returns-clause-read g c = λ p is under.
    let items = c.in_ok-found.found.items in
    then_read c.add_nodes.result
    (λ x needs. needed_one (Listed Cells c.args.keys.now) refl x (subst (λ (range : Range). NeedsAsk p (Listed Cells range) x) c.as_range.ensures.value needs))
    (λ x needs. subst (λ (range : Range). NeedsAsk p (Listed Cells range) x) (sym c.as_range.ensures.value) (one_needed (Listed Cells c.args.keys.now) x needs))
    (λ those.
    range_read p is c.args.area.now c.args.keys.now (bindings_of items) _ _ (subst (λ (range : Range). AreThose (IsEntryIn range) (p.entries Cells) (bindings_of items)) c.as_range.ensures.value those) c.add_nodes.result
    (subst (λ (all : List Item). OnOk c.add_nodes.result (Adds c.args.cells.now.items c.add_nodes.new.cells.items (IsSaid (Names Cells) (bindings_of all)))) c.deref.ensures.value c.add_nodes.ensures.read)
    (subst (λ (all : List Item). IfErr c.add_nodes.result (AreMisread Cells (bindings_of all))) c.deref.ensures.value c.add_nodes.ensures.refused))
    (c.in_ok-found.ensures.answer p is under)

pub returns-in_err-found-clause-told : goal.returns-in_err-found-clause-told
returns-in_err-found-clause-told g c =
    refused_as (IsTrueUnder (g.S.Shelf.holds c.entries_in.new.shelf) (g.S.Shelf.used c.entries_in.new.shelf) c.args.manifest.now) c.from_residual.result _ c.from_residual.ensures.1
    (walk_told _ _ c.args.manifest.now Cells _ c.in_err-found.ensures.told)

pub returns-clause-walked : goal.returns-clause-walked
returns-clause-walked g c = walk_read (top_among c.args.manifest.now.tops) _ _ _ _ _ _ _ Cells _ (bindings_of c.in_ok-found.found.items) c.add_nodes.result c.entries_in.ensures.calls c.in_ok-found.ensures.gives
    (subst (λ (all : List Item). OnOk c.add_nodes.result (HaveForm Cells (bindings_of all))) c.deref.ensures.value c.add_nodes.ensures.formed)
    (λ r tree range. absurd (no_objects tree))

pub returns-clause-told : goal.returns-clause-told
returns-clause-told g c = read_told _ _ _ c.args.manifest.now _ _ Cells _ (bindings_of c.in_ok-found.found.items) c.add_nodes.result c.in_ok-found.ensures.gives
    (subst (λ (all : List Item). IfErr c.add_nodes.result (AreMisread Cells (bindings_of all))) c.deref.ensures.value c.add_nodes.ensures.refused)

pub returns-clause-named : goal.returns-clause-named
returns-clause-named g c =
    box_named _ _ _ c.args.manifest.now _ _ _ (bindings_of c.in_ok-found.found.items) c.args.area.now c.args.names.now.items c.add_nodes.new.names.items c.add_nodes.result c.in_ok-found.ensures.gives c.entries_in.ensures.grows
    (subst (λ (all : List Item). OnOk c.add_nodes.result (Adds c.args.names.now.items c.add_nodes.new.names.items (IsSaid (SaysIn c.args.area.now) (bindings_of all)))) c.deref.ensures.value c.add_nodes.ensures.added) c.requires
