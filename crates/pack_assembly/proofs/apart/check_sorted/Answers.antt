use Rattle.std.proofs.Common.{rules, ◌≡◌, ◌∙◌, Bool, Err, List, false, true, ap, sym, subst}
use Rattle.std.specs.List.{Contains}
use Rattle.external_sort.specs.Records.{Entry}
use Rattle.external_sort.specs.Sorting.{GoesOn}
use Rattle.osm_keys.proofs.shared.Members.{here, in_rest}
use Rattle.pack_assembly.proofs.FaultLemmas.{none_there, refusal_device, residual}
use Rattle.pack_assembly.proofs.KeyLemmas.{IsAsBefore, all_differ, goes_on, twice}
use Rattle.pack_assembly.proofs.apart.check_sorted.Goals as goal

pub returns-clause-apart : goal.returns-clause-apart
returns-clause-apart g c = λ true given gives.
    let inv = c.digests.invariant true given gives in
    let none = subst (λ (more : Bool). GoesOn g.S.RunStore.runs more c.go_on.new.sorted inv.0) c.if-branch.false (c.in_ok-go_on.ensures.next true inv.0 inv.1) in
    all_differ given c.digests.before (subst (IsAsBefore given c.digests.before) none inv.2)

pub returns-then-is_same-clause-clash : goal.returns-then-is_same-clause-clash
returns-then-is_same-clause-clash g c = λ err true given gives differ.
    let inv = c.digests.invariant true given gives in
    let first = subst (λ (more : Bool). GoesOn g.S.RunStore.runs more c.go_on.new.sorted inv.0) c.if-branch.true (c.in_ok-go_on.ensures.next true inv.0 inv.1) in
    twice given c.digests.before c.in-Some.key first.0 first.1 (c.in-Some.ensures.key first.0 first.3) (c.is_same.ensures.0 c.if-is_same.true)
    (subst (IsAsBefore given c.digests.before) first.2 inv.2) differ

pub digests-preserved : goal.digests-preserved
digests-preserved g c = λ true given gives.
    let inv = c.digests.invariant true given gives in
    let first = subst (λ (more : Bool). GoesOn g.S.RunStore.runs more c.go_on.new.sorted inv.0) c.if-branch.true (c.in_ok-go_on.ensures.next true inv.0 inv.1) in (
      first.1,
      first.4,
      goes_on given c.digests.before c.in-Some.key first.0 first.1 (c.in-Some.ensures.key first.0 first.3)
          (λ same. absurd (let hit = c.is_same.ensures.1 same in let miss = c.if-is_same.false in Prim.cc)) (subst (IsAsBefore given c.digests.before) first.2 inv.2),
      λ e among. inv.3 e (subst (λ (es : List Entry). Contains es e) (sym first.2) (in_rest first.0 first.1 e among)),
    )

pub returns-in_err-go_on-clause-device : goal.returns-in_err-go_on-clause-device
returns-in_err-go_on-clause-device g c = λ refuses true given gives digests told.
    let inv = c.digests.invariant true given gives in
    c.in_err-go_on.ensures.device refuses true inv.0 inv.1 (ap Err (refusal_device c.in_err-go_on.field-0.0 (residual c.from_residual.result _ _ c.from_residual.ensures.1 told)))

pub returns-in_default-clause-device : goal.returns-in_default-clause-device
returns-in_default-clause-device g c = λ refuses true given gives digests told.
    let inv = c.digests.invariant true given gives in
    let first = subst (λ (more : Bool). GoesOn g.S.RunStore.runs more c.go_on.new.sorted inv.0) c.if-branch.true (c.in_ok-go_on.ensures.next true inv.0 inv.1) in
    let long = digests first.0 (inv.3 first.0 (subst (λ (es : List Entry). Contains es first.0) (sym first.2) (here first.0 first.1))) in
    none_there c.key_of.result c.in_default.is (c.key_of.ensures.there first.0 first.3 long)
