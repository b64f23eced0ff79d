use Rattle.std.proofs.Common.{◌≡◌, Err, Option, None, Some, Result, refl, sym, ap, subst}
use Rattle.std.specs.Result.{IsErrAnd}
use Rattle.light_index.proofs.LightPutLemmas.{all_below, all_held, clash_of_lines, clash_of_manifest, clash_of_trees}
use Rattle.light_index.proofs.light_snapshot.LightSnapshot.build.Goals as goal
use Rattle.light_index.specs.LightLines.{AreLinesOf}
use Rattle.light_index.specs.internal.LightPutting.{EndedAll}
use Rattle.osm_index.specs.declared.fault.IndexFault.{IndexFault}
use Rattle.osm_index.specs.declared.fault.IndexFault.TheVariants as faults
use Rattle.tree_node.specs.Stocks.{HasNode}

pub returns-in_default-clause-clash : goal.returns-in_default-clause-clash
returns-in_default-clause-clash c = λ _.
    let all = c.in_ok-tops.ensures c.args.sequence c.ranges.sequence.fits in
    let p = all.0 in
    let ended : EndedAll p (HasNode c.put_trees.new.stock) None = subst (λ (o : Option _). EndedAll p (HasNode c.put_trees.new.stock) o) c.in_default.is all.2 in
    (p, all.1, clash_of_trees p ended)

pub returns-in_err-put_lines-clause-clash : goal.returns-in_err-put_lines-clause-clash
returns-in_err-put_lines-clause-clash c = λ told.
    let all = c.in_ok-tops.ensures c.args.sequence c.ranges.sequence.fits in
    let p = all.0 in
    let ended : EndedAll p (HasNode c.put_trees.new.stock) (Some c.in-Some.tops) = subst (λ (o : Option _). EndedAll p (HasNode c.put_trees.new.stock) o) c.in-Some.is all.2 in
    let are : AreLinesOf c.args.set c.in_ok-lines.lines.items = rw c.as_slice.ensures.value at c.in_ok-lines.ensures in
    let fault = c.in_err-put_lines.field-0.0 in
    let same : faults.Clash ≡ fault = subst (λ (r : Result _ IndexFault). IsErrAnd r (λ f. f ≡ fault)) told c.from_residual-in_err-put_lines.ensures.1 in
    (p, all.1, clash_of_lines p c.args.set c.args.sequence all.1 c.in_ok-lines.lines.items are (HasNode c.put_trees.new.stock) ended.1 (c.in_err-put_lines.ensures.clash (ap (λ (f : IndexFault). Err f) (sym same))))

pub returns-in_err-root-clause-clash : goal.returns-in_err-root-clause-clash
returns-in_err-root-clause-clash c = λ told.
    let all = c.in_ok-tops.ensures c.args.sequence c.ranges.sequence.fits in
    let p = all.0 in
    let ended : EndedAll p (HasNode c.put_trees.new.stock) (Some c.in-Some.tops) = subst (λ (o : Option _). EndedAll p (HasNode c.put_trees.new.stock) o) c.in-Some.is all.2 in
    let are : AreLinesOf c.args.set c.in_ok-lines.lines.items = rw c.as_slice.ensures.value at c.in_ok-lines.ensures in
    let below = all_below p c.args.set c.args.sequence all.1 c.in_ok-lines.lines.items are (HasNode c.put_trees.new.stock) ended.1 (HasNode c.put_lines.new.stock) c.in_ok-put_lines.ensures.put in
    let fault = c.in_err-root.field-0.0 in
    let same : faults.Clash ≡ fault = subst (λ (r : Result _ IndexFault). IsErrAnd r (λ f. f ≡ fault)) told c.from_residual-in_err-root.ensures.1 in
    (p, all.1, clash_of_manifest p c.args.set c.args.sequence all.1 c.in-Some.tops ended.0 (HasNode c.put_lines.new.stock) below (c.in_err-root.ensures.clash (ap (λ (f : IndexFault). Err f) (sym same))))

pub invariant_of-result : goal.invariant_of-result
invariant_of-result c =
    let all = c.in_ok-tops.ensures c.args.sequence c.ranges.sequence.fits in
    let p = all.0 in
    let ended : EndedAll p (HasNode c.put_trees.new.stock) (Some c.in-Some.tops) = subst (λ (o : Option _). EndedAll p (HasNode c.put_trees.new.stock) o) c.in-Some.is all.2 in
    let are : AreLinesOf c.args.set c.in_ok-lines.lines.items = rw c.as_slice.ensures.value at c.in_ok-lines.ensures in
    let below = all_below p c.args.set c.args.sequence all.1 c.in_ok-lines.lines.items are (HasNode c.put_trees.new.stock) ended.1 (HasNode c.put_lines.new.stock) c.in_ok-put_lines.ensures.put in
    record { own = ∣ (p, all_held p c.args.set c.args.sequence all.1 c.in-Some.tops ended.0 (HasNode c.put_lines.new.stock) below c.put_manifest.new.stock c.in_ok-root.root c.in_ok-root.ensures.added c.in_ok-root.ensures.key) ∣₁ }

pub returns-clause-made : goal.returns-clause-made
returns-clause-made c =
    let all = c.in_ok-tops.ensures c.args.sequence c.ranges.sequence.fits in
    let p = all.0 in
    let ended : EndedAll p (HasNode c.put_trees.new.stock) (Some c.in-Some.tops) = subst (λ (o : Option _). EndedAll p (HasNode c.put_trees.new.stock) o) c.in-Some.is all.2 in
    let are : AreLinesOf c.args.set c.in_ok-lines.lines.items = rw c.as_slice.ensures.value at c.in_ok-lines.ensures in
    let below = all_below p c.args.set c.args.sequence all.1 c.in_ok-lines.lines.items are (HasNode c.put_trees.new.stock) ended.1 (HasNode c.put_lines.new.stock) c.in_ok-put_lines.ensures.put in
    (p, all_held p c.args.set c.args.sequence all.1 c.in-Some.tops ended.0 (HasNode c.put_lines.new.stock) below c.put_manifest.new.stock c.in_ok-root.root c.in_ok-root.ensures.added c.in_ok-root.ensures.key, all.1.same_objects, refl)
