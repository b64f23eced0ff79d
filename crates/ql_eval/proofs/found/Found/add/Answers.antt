use Rattle.std.proofs.Common.{◌≡◌, true, false, not, Bool, List, refl, subst, sym}
use Rattle.std.specs.BTreeSet.{Updates, contains}
use Rattle.std.specs.declared.cmp.Ordering.{Ordering}
use Rattle.osm_model.specs.Elements.{ref_cmp}
use Rattle.osm_model.specs.declared.reference.Ref.{Ref}
use Rattle.ql_eval.specs.internal.Affording.{AreApart}
use Rattle.ql_eval.proofs.AffordingLemmas.{apart_more}
use Rattle.ql_eval.proofs.Founding.{name_added, name_there, told_more}
use Rattle.ref_sets.proofs.shared.References.{same_order}
use Rattle.ql_eval.proofs.found.Found.add.Goals as goal

of_not_true : (b c : Bool) → b ≡ not c → b ≡ true → c ≡ false
of_not_true b true e is = cc
of_not_true b false e is = refl

of_not_false : (b c : Bool) → b ≡ not c → b ≡ false → c ≡ true
of_not_false b true e is = refl
of_not_false b false e is = cc

pub returns-in_ok-push-clause-consistent : goal.returns-in_ok-push-clause-consistent
returns-in_ok-push-clause-consistent c =
    let updates = subst (λ (cmp : Ref → Ref → Ordering). Updates cmp c.args.self.now.seen c.insert.new.self c.args.name true) same_order c.in_ok-insert.ensures.updates in
    told_more c.args.name c.args.self.now.refs.items c.push.new.self.items c.in_ok-push.ensures.items c.args.self.now.seen c.insert.new.self c.requires updates.0

pub returns-in_ok-push-clause-added : goal.returns-in_ok-push-clause-added
returns-in_ok-push-clause-added c =
    let told = subst (λ (cmp : Ref → Ref → Ordering). c.in_ok-insert.field-0 ≡ not (contains cmp c.args.self.now.seen c.args.name)) same_order c.in_ok-insert.ensures.added in
    let new = of_not_true c.in_ok-insert.field-0 (contains ref_cmp c.args.self.now.seen c.args.name) told c.if-branch.true in
    name_added c.args.name c.args.self.now.refs.items c.push.new.self.items c.in_ok-push.ensures.items (λ is. let seen = (c.requires c.args.name).1 is in cc)

pub returns-else-branch-clause-added : goal.returns-else-branch-clause-added
returns-else-branch-clause-added c =
    let told = subst (λ (cmp : Ref → Ref → Ordering). c.in_ok-insert.field-0 ≡ not (contains cmp c.args.self.now.seen c.args.name)) same_order c.in_ok-insert.ensures.added in
    name_there c.args.name c.args.self.now.refs.items ((c.requires c.args.name).0 (of_not_false c.in_ok-insert.field-0 (contains ref_cmp c.args.self.now.seen c.args.name) told c.if-branch.false))

pub returns-in_ok-push-clause-apart : goal.returns-in_ok-push-clause-apart
returns-in_ok-push-clause-apart c = λ apart.
    let told = subst (λ (cmp : Ref → Ref → Ordering). c.in_ok-insert.field-0 ≡ not (contains cmp c.args.self.now.seen c.args.name)) same_order c.in_ok-insert.ensures.added in
    let new = of_not_true c.in_ok-insert.field-0 (contains ref_cmp c.args.self.now.seen c.args.name) told c.if-branch.true in
    subst (λ (l : List Ref). AreApart l) (sym c.in_ok-push.ensures.items) (apart_more c.args.self.now.refs.items c.args.name apart (λ is. let seen = (c.requires c.args.name).1 is in cc))

pub returns-else-branch-clause-apart : goal.returns-else-branch-clause-apart
returns-else-branch-clause-apart c = λ apart. apart
