use Rattle.std.proofs.Common.{◌≡◌, ◌∙◌, refl, Option, None, Some, subst}
use Rattle.tree_node.specs.Stocks.{HasNode}
use Rattle.osm_keys.specs.Publications.{manifest_of}
use Rattle.osm_index.specs.internal.Putting.{EndedAll}
use Rattle.osm_index.proofs.PutLemmas.{all_held, clash_of_trees, clash_with, manifest_is}
use Rattle.osm_index.proofs.snapshot.Snapshot.build_watched.Goals as goal

pub returns-in_default-clause-clash : goal.returns-in_default-clause-clash
returns-in_default-clause-clash g c = λ _.
    let all = c.in_ok-tops.ensures in
    let p = all.0 in
    let ended : EndedAll p (HasNode c.put_trees.new.stock) None = subst (λ (o : Option _). EndedAll p (HasNode c.put_trees.new.stock) o) c.in_default.is all.2 in
    (p, all.1, clash_of_trees p ended)

pub invariant_of-result : goal.invariant_of-result
invariant_of-result g c =
    let all = c.in_ok-tops.ensures in
    let ended : EndedAll all.0 (HasNode c.put_trees.new.stock) (Some c.in-Some.tops) = subst (λ (o : Option _). EndedAll all.0 (HasNode c.put_trees.new.stock) o) c.in-Some.is all.2 in
    let written = rw c.new-bytes.ensures.items at c.in_ok-write_manifest.ensures.written in
    record { own = ∣ (all.0, all_held all.0 c.args.set c.args.edition all.1 c.in-Some.tops ended c.put.new.self c.write_manifest.new.out.items written c.in-Ok.ensures.added c.in-Ok.root c.in-Ok.ensures.key) ∣₁ }

pub returns-in-Ok-clause-made : goal.returns-in-Ok-clause-made
returns-in-Ok-clause-made g c =
    let all = c.in_ok-tops.ensures in
    let ended : EndedAll all.0 (HasNode c.put_trees.new.stock) (Some c.in-Some.tops) = subst (λ (o : Option _). EndedAll all.0 (HasNode c.put_trees.new.stock) o) c.in-Some.is all.2 in
    let written = rw c.new-bytes.ensures.items at c.in_ok-write_manifest.ensures.written in
    (all.0, all_held all.0 c.args.set c.args.edition all.1 c.in-Some.tops ended c.put.new.self c.write_manifest.new.out.items written c.in-Ok.ensures.added c.in-Ok.root c.in-Ok.ensures.key, all.1.same_objects, refl)

pub returns-in-Err-Clash-clause-clash : goal.returns-in-Err-Clash-clause-clash
returns-in-Err-Clash-clause-clash g c = λ _.
    let all = c.in_ok-tops.ensures in
    let p = all.0 in
    let is = all.1 in
    let ended : EndedAll p (HasNode c.put_trees.new.stock) (Some c.in-Some.tops) = subst (λ (o : Option _). EndedAll p (HasNode c.put_trees.new.stock) o) c.in-Some.is all.2 in
    let manifest_same = manifest_is p c.args.set c.args.edition is c.in-Some.tops ended.0 in
    let written : c.write_manifest.new.out.items ≡ manifest_of p = (rw c.new-bytes.ensures.items at c.in_ok-write_manifest.ensures.written) ∙ manifest_same in
    let found = c.put.ensures.clash (cc) in
    (p, is, clash_with p c.args.set c.args.edition is c.in-Some.tops ended.0 (HasNode c.put_trees.new.stock) (HasNode c.put.new.self) c.write_manifest.new.out.items written ended.1 found.0 found.1 found.2 found.3)
