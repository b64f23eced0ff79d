use Rattle.std.proofs.Common.{◌≡◌, ◌+◌, ◌++◌, ◌∷◌, [], List, take, rules, arith, sym, ap, subst, ◌∙◌}
use Rattle.std.specs.List.{IsDistinct}
use Rattle.std.proofs.lemmas.List.{take_all, take_more}
use Rattle.opl_codec.specs.declared.change.Change.{Change}
use Rattle.opl_codec.specs.internal.Loading.{HasJust}
use Rattle.osm_index.specs.Applying.{AreApart, names_of}
use Rattle.osm_index.proofs.NameLemmas.{apart_more, first_twice, just_more_names}
use Rattle.osm_index.proofs.change_refusals.refuse_repeats.Goals as goal

pub loop-change-init : goal.loop-change-init
unfolding IsDistinct
loop-change-init c = record { just = search rules; apart = tt }

pub returns-then-not-branch-clause-refused : goal.returns-then-not-branch-clause-refused
returns-then-not-branch-clause-refused c =
    rw c.name_of-name.ensures (first_twice c.loop-change.names c.args.changes.now c.loop-change.change-index c.change-item.result c.in_ok-insert.field-0 (omega arith) c.change-item.is c.loop-change.invariant.just c.loop-change.invariant.apart
    (rw c.name_of-name.ensures at c.in_ok-insert.ensures.new) (cc))

pub loop-change-preserved : goal.loop-change-preserved
loop-change-preserved c =
    let changes = c.args.changes.now in
    let before = take c.loop-change.change-index changes in
    let item = c.change-item.result in
    let more : take (c.loop-change.change-index + 1) changes ≡ before ++ item ∷ [] =
    take_more changes c.loop-change.change-index item (omega arith) ∙ ap (λ (x : Change). before ++ x ∷ []) (sym c.change-item.is) in
    record {
      just = subst (λ (all : List Change). HasJust c.insert.new.names (names_of all)) (sym more) (just_more_names c.loop-change.names c.insert.new.names before item c.loop-change.invariant.just (rw c.name_of-name.ensures at c.in_ok-insert.ensures.updates));
      apart = subst AreApart (sym more) (apart_more c.loop-change.names before item c.in_ok-insert.field-0 c.loop-change.invariant.just c.loop-change.invariant.apart (rw c.name_of-name.ensures at c.in_ok-insert.ensures.new) (cc));
    }

pub returns-clause-apart : goal.returns-clause-apart
returns-clause-apart c = λ _. rw (take_all c.loop-change.change-index c.args.changes.now c.loop-change-test.false) at c.loop-change.invariant.apart
