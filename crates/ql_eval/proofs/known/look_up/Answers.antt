use Rattle.std.proofs.Common.{◌≡◌, true, false, Some, Option, OnOk, sym, ap, subst, ◌∙◌}
use Rattle.std.specs.BTreeMap.{Updates, get}
use Rattle.std.specs.Option.{is_some}
use Rattle.std.specs.declared.cmp.Ordering.{Ordering}
use Rattle.osm_model.specs.Elements.{Element, ref_cmp}
use Rattle.osm_model.specs.declared.reference.Ref.{Ref}
use Rattle.tree_node.proofs.shared.OutcomeLaws.{outcome_as}
use Rattle.ref_sets.proofs.shared.References.{same_order}
use Rattle.osm_keys.specs.Manifests.{top_among}
use Rattle.tree_walk.proofs.shared.WalksGivenLaws.{given_none}
use Rattle.ql_eval.proofs.AbsenceLemmas.{read_later, read_one_more, sound_later}
use Rattle.ql_eval.proofs.KnownLemmas.{absent_later, absent_one_more, added_known, keeps_known, known_again, known_now, known_there, remembers_later, remembers_one_more}
use Rattle.ql_eval.specs.internal.TrueFaults.{IsTrueUnder}
use Rattle.ql_eval.proofs.StepLemmas.{refused_as}
use Rattle.ql_eval.proofs.known.look_up.Goals as goal

pub returns-then-contains_key-clause-known : goal.returns-then-contains_key-clause-known
returns-then-contains_key-clause-known g c = known_there c.args.objects.now c.args.name
    (subst (λ (cmp : Ref → Ref → Ordering). is_some (get cmp c.args.objects.now c.args.name) ≡ true) same_order (sym c.contains_key.ensures ∙ c.if-contains_key.true))

pub returns-then-contains_key-clause-answer : goal.returns-then-contains_key-clause-answer
returns-then-contains_key-clause-answer g c = λ p is under known.
    let there = known_there c.args.objects.now c.args.name
    (subst (λ (cmp : Ref → Ref → Ordering). is_some (get cmp c.args.objects.now c.args.name) ≡ true) same_order (sym c.contains_key.ensures ∙ c.if-contains_key.true)) in
    known_again p c.args.name there.0 (λ o. get ref_cmp c.args.objects.now c.args.name ≡ Some o) there.1 (known is c.args.name there.0 there.1)

pub returns-in_err-object-clause-remembers : goal.returns-in_err-object-clause-remembers
returns-in_err-object-clause-remembers g c = λ p under known. remembers_later p _ _ c.args.objects.now c.find_object.ensures.grows known

pub returns-in_err-insert-clause-remembers : goal.returns-in_err-insert-clause-remembers
returns-in_err-insert-clause-remembers g c = λ p under known.
    let updated = subst (λ (cmp : Ref → Ref → Ordering). OnOk c.insert.result (Updates cmp c.args.objects.now c.insert.new.self c.args.name (Some c.in_ok-object.object))) same_order c.insert.ensures.updates in
    remembers_one_more p _ c.args.objects.now c.insert.new.self c.args.name c.in_ok-object.object c.insert.result updated c.insert.ensures.err
    (λ is. known_now p c.args.name c.in_ok-object.object (c.in_ok-object.ensures.answer p is under))
    (remembers_later p _ _ c.args.objects.now c.in_ok-object.ensures.grows known)

pub returns-clause-remembers : goal.returns-clause-remembers
returns-clause-remembers g c = λ p under known.
    let updated = subst (λ (cmp : Ref → Ref → Ordering). OnOk c.insert.result (Updates cmp c.args.objects.now c.insert.new.self c.args.name (Some c.in_ok-object.object))) same_order c.insert.ensures.updates in
    remembers_one_more p _ c.args.objects.now c.insert.new.self c.args.name c.in_ok-object.object c.insert.result updated c.insert.ensures.err
    (λ is. known_now p c.args.name c.in_ok-object.object (c.in_ok-object.ensures.answer p is under))
    (remembers_later p _ _ c.args.objects.now c.in_ok-object.ensures.grows known)

pub returns-clause-keeps : goal.returns-clause-keeps
returns-clause-keeps g c =
    let updated = subst (λ (cmp : Ref → Ref → Ordering). OnOk c.insert.result (Updates cmp c.args.objects.now c.insert.new.self c.args.name (Some c.in_ok-object.object))) same_order c.insert.ensures.updates in
    keeps_known c.args.objects.now c.insert.new.self c.args.name c.in_ok-object.object c.insert.result updated c.insert.ensures.err
    (subst (λ (cmp : Ref → Ref → Ordering). is_some (get cmp c.args.objects.now c.args.name) ≡ false) same_order (sym c.contains_key.ensures ∙ c.if-contains_key.false))

pub returns-clause-known : goal.returns-clause-known
returns-clause-known g c =
    let updated = subst (λ (cmp : Ref → Ref → Ordering). Updates cmp c.args.objects.now c.insert.new.self c.args.name (Some c.in_ok-object.object)) same_order c.in_ok-insert.ensures.updates in
    (c.in_ok-object.object, added_known c.args.objects.now c.insert.new.self c.args.name c.in_ok-object.object updated)

pub returns-clause-answer : goal.returns-clause-answer
returns-clause-answer g c = λ p is under known.
    let updated = subst (λ (cmp : Ref → Ref → Ordering). Updates cmp c.args.objects.now c.insert.new.self c.args.name (Some c.in_ok-object.object)) same_order c.in_ok-insert.ensures.updates in
    outcome_as (λ x needs. needs) (λ so x needs. needs)
    (λ so. added_known c.args.objects.now c.insert.new.self c.args.name c.in_ok-object.object updated ∙ ap (λ (o : Option Element). Some o) so)
    (c.in_ok-object.ensures.answer p is under)

pub returns-in_err-object-clause-absent : goal.returns-in_err-object-clause-absent
returns-in_err-object-clause-absent g c = λ absent. absent_later _ _ c.args.manifest.now c.args.objects.now c.find_object.ensures.grows absent

pub returns-in_err-insert-clause-absent : goal.returns-in_err-insert-clause-absent
returns-in_err-insert-clause-absent g c = λ absent.
    let updated = subst (λ (cmp : Ref → Ref → Ordering). OnOk c.insert.result (Updates cmp c.args.objects.now c.insert.new.self c.args.name (Some c.in_ok-object.object))) same_order c.insert.ensures.updates in
    absent_one_more _ c.args.manifest.now c.args.objects.now c.insert.new.self c.args.name c.in_ok-object.object c.insert.result updated c.insert.ensures.err c.in_ok-object.ensures.absent
    (absent_later _ _ c.args.manifest.now c.args.objects.now c.in_ok-object.ensures.grows absent)

pub returns-clause-absent : goal.returns-clause-absent
returns-clause-absent g c = λ absent.
    let updated = subst (λ (cmp : Ref → Ref → Ordering). OnOk c.insert.result (Updates cmp c.args.objects.now c.insert.new.self c.args.name (Some c.in_ok-object.object))) same_order c.insert.ensures.updates in
    absent_one_more _ c.args.manifest.now c.args.objects.now c.insert.new.self c.args.name c.in_ok-object.object c.insert.result updated c.insert.ensures.err c.in_ok-object.ensures.absent
    (absent_later _ _ c.args.manifest.now c.args.objects.now c.in_ok-object.ensures.grows absent)

pub returns-in_err-object-clause-told : goal.returns-in_err-object-clause-told
returns-in_err-object-clause-told g c =
    refused_as (IsTrueUnder (g.S.Shelf.holds c.find_object.new.shelf) (g.S.Shelf.used c.find_object.new.shelf) c.args.manifest.now) c.from_residual.result _ c.from_residual.ensures.1 c.in_err-object.ensures.told

pub returns-in_err-object-clause-read : goal.returns-in_err-object-clause-read
returns-in_err-object-clause-read g c = λ read. read_later _ _ c.args.manifest.now c.args.objects.now c.find_object.ensures.grows read

pub returns-in_err-insert-clause-read : goal.returns-in_err-insert-clause-read
returns-in_err-insert-clause-read g c = λ read.
    let updated = subst (λ (cmp : Ref → Ref → Ordering). OnOk c.insert.result (Updates cmp c.args.objects.now c.insert.new.self c.args.name (Some c.in_ok-object.object))) same_order c.insert.ensures.updates in
    read_one_more _ c.args.manifest.now c.args.objects.now c.insert.new.self c.args.name c.in_ok-object.object c.insert.result updated c.insert.ensures.err c.in_ok-object.ensures.put
    (read_later _ _ c.args.manifest.now c.args.objects.now c.in_ok-object.ensures.grows read)

pub returns-clause-read : goal.returns-clause-read
returns-clause-read g c = λ read.
    let updated = subst (λ (cmp : Ref → Ref → Ordering). OnOk c.insert.result (Updates cmp c.args.objects.now c.insert.new.self c.args.name (Some c.in_ok-object.object))) same_order c.insert.ensures.updates in
    read_one_more _ c.args.manifest.now c.args.objects.now c.insert.new.self c.args.name c.in_ok-object.object c.insert.result updated c.insert.ensures.err c.in_ok-object.ensures.put
    (read_later _ _ c.args.manifest.now c.args.objects.now c.in_ok-object.ensures.grows read)

pub returns-then-contains_key-clause-walked : goal.returns-then-contains_key-clause-walked
returns-then-contains_key-clause-walked g c = given_none (top_among c.args.manifest.now.tops) _ _ _ _ _

pub returns-clause-walked : goal.returns-clause-walked
returns-clause-walked g c =
    let updated = subst (λ (cmp : Ref → Ref → Ordering). Updates cmp c.args.objects.now c.insert.new.self c.args.name (Some c.in_ok-object.object)) same_order c.in_ok-insert.ensures.updates in
    sound_later (top_among c.args.manifest.now.tops) _ _ _ _ _ _ _ _ _ (λ r is. (is.0, added_known c.args.objects.now c.insert.new.self c.args.name c.in_ok-object.object updated ∙ ap (λ (o : Option Element). Some o) is.1)) c.in_ok-object.ensures.walked
