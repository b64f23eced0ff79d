use Rattle.std.proofs.Common.{ℕ, List, FitsSigned, w64, false, sym, subst, rules}
use Rattle.std.specs.Prelude.{IfErr, IfOk, OnOk}
use Rattle.tree_node.specs.NodeRefs.{bindings_of}
use Rattle.tree_node.specs.declared.item.Item.{Item}
use Rattle.tree_node.specs.declared.tree.Tree.TheVariants.{Objects}
use Rattle.tree_node.proofs.shared.OutcomeLaws.{outcome_stops, uses}
use Rattle.tree_walk.specs.Choices.{AreThose}
use Rattle.tree_walk.specs.Walks.{IsEntryIn}
use Rattle.ql_eval.specs.Questions.{Listed, NeedsAsk}
use Rattle.ql_eval.specs.internal.Entries.{AreMisread, IsFoundAs, IsPutBy}
use Rattle.ql_eval.proofs.ObjectLemmas.{object_read}
use Rattle.osm_keys.specs.Manifests.{top_among}
use Rattle.tree_walk.specs.Given.{IsWalk, These}
use Rattle.ql_eval.specs.Forms.{HaveForm}
use Rattle.ql_eval.specs.internal.TrueFaults.{IsTrueUnder}
use Rattle.ql_eval.proofs.AbsenceLemmas.{walk_looked, walk_put}
use Rattle.ql_eval.proofs.StepLemmas.{refused_as, then_read, walk_cause}
use Rattle.ql_eval.proofs.WholeLemmas.{whole_object_found}
use Rattle.ql_eval.proofs.WalkLemmas.{none_given, read_told, walk_told}
use Rattle.ql_eval.proofs.known.find_object.Goals as goal

pub returns-in_err-found-clause-answer : goal.returns-in_err-found-clause-answer
returns-in_err-found-clause-answer g c = λ p is under.
    outcome_stops _ c.from_residual.ensures.1 (walk_cause c.in_err-found.field-0.0)
    (λ x needs. subst (λ (key : List ℕ). NeedsAsk p (Listed Objects (record { lo = key; hi = key; under = false })) x) c.reference_key-key.ensures needs)
    (c.in_err-found.ensures.answer p is under)

pub returns-clause-answer : goal.returns-clause-answer
returns-clause-answer g c = λ p is under.
    let fits : FitsSigned w64 c.args.name.id = search rules in
    then_read c.last_object.result
    (λ x needs. subst (λ (key : List ℕ). NeedsAsk p (Listed Objects (record { lo = key; hi = key; under = false })) x) c.reference_key-key.ensures needs)
    (λ x needs. subst (λ (key : List ℕ). NeedsAsk p (Listed Objects (record { lo = key; hi = key; under = false })) x) (sym c.reference_key-key.ensures) needs)
    (λ those.
    let found : IsFoundAs p.objects c.args.name (bindings_of c.in_ok-found.found.items) =
    whole_object_found p is (bindings_of c.in_ok-found.found.items) c.args.name fits
    (subst (λ (key : List ℕ). AreThose (IsEntryIn (record { lo = key; hi = key; under = false })) (p.entries Objects) (bindings_of c.in_ok-found.found.items)) c.reference_key-key.ensures those) in
    object_read p.objects c.args.name (bindings_of c.in_ok-found.found.items) c.last_object.result is.set found
    (subst (λ (all : List Item). IfOk c.last_object.result (IsPutBy (bindings_of all))) c.deref.ensures.value c.last_object.ensures.put)
    (subst (λ (all : List Item). IfErr c.last_object.result (AreMisread Objects (bindings_of all))) c.deref.ensures.value c.last_object.ensures.refused))
    (c.in_ok-found.ensures.answer p is under)

pub returns-in_err-found-clause-told : goal.returns-in_err-found-clause-told
returns-in_err-found-clause-told g c =
    refused_as (IsTrueUnder (g.S.Shelf.holds c.entries_in.new.shelf) (g.S.Shelf.used c.entries_in.new.shelf) c.args.manifest.now) c.from_residual.result _ c.from_residual.ensures.1
    (walk_told _ _ c.args.manifest.now Objects _ c.in_err-found.ensures.told)

pub returns-clause-walked : goal.returns-clause-walked
returns-clause-walked g c =
    let fits : FitsSigned w64 c.args.name.id = search rules in
    walk_looked (top_among c.args.manifest.now.tops) _ _ _ _ _ _ _ c.args.name (bindings_of c.in_ok-found.found.items) c.last_object.result fits c.entries_in.ensures.calls
    (subst (λ (key : List ℕ). IsWalk (uses (g.S.Shelf.holds c.entries_in.new.shelf) (g.S.Shelf.used c.args.shelf.now) (g.S.Shelf.used c.entries_in.new.shelf)) c.args.tally.now.fetches c.entries_in.new.tally.fetches Objects (top_among c.args.manifest.now.tops Objects) (record { lo = key; hi = key; under = false }) (These (bindings_of c.in_ok-found.found.items)))
    c.reference_key-key.ensures c.in_ok-found.ensures.gives)
    (subst (λ (all : List Item). OnOk c.last_object.result (HaveForm Objects (bindings_of all))) c.deref.ensures.value c.last_object.ensures.formed)
    (subst (λ (all : List Item). IfOk c.last_object.result (IsPutBy (bindings_of all))) c.deref.ensures.value c.last_object.ensures.put)

pub returns-clause-put : goal.returns-clause-put
returns-clause-put g c = walk_put _ _ _ c.args.manifest.now _ _ _ (bindings_of c.in_ok-found.found.items) c.last_object.result c.in_ok-found.ensures.gives
    (subst (λ (all : List Item). IfOk c.last_object.result (IsPutBy (bindings_of all))) c.deref.ensures.value c.last_object.ensures.put)

pub returns-clause-told : goal.returns-clause-told
returns-clause-told g c = read_told _ _ _ c.args.manifest.now _ _ Objects _ (bindings_of c.in_ok-found.found.items) c.last_object.result c.in_ok-found.ensures.gives
    (subst (λ (all : List Item). IfErr c.last_object.result (AreMisread Objects (bindings_of all))) c.deref.ensures.value c.last_object.ensures.refused)

pub returns-clause-absent : goal.returns-clause-absent
returns-clause-absent g c = none_given _ _ _ c.args.manifest.now _ _ c.args.name (bindings_of c.in_ok-found.found.items) c.last_object.result
    (subst (λ (key : List ℕ). IsWalk (uses (g.S.Shelf.holds c.entries_in.new.shelf) (g.S.Shelf.used c.args.shelf.now) (g.S.Shelf.used c.entries_in.new.shelf)) c.args.tally.now.fetches c.entries_in.new.tally.fetches Objects (top_among c.args.manifest.now.tops Objects) (record { lo = key; hi = key; under = false }) (These (bindings_of c.in_ok-found.found.items)))
    c.reference_key-key.ensures c.in_ok-found.ensures.gives)
    (subst (λ (all : List Item). IfOk c.last_object.result (IsPutBy (bindings_of all))) c.deref.ensures.value c.last_object.ensures.put)
