use Rattle.std.proofs.Common.{◌≡◌, ◌+◌, List, [], ◌∷◌, ◌++◌, ◌↔◌, ℕ, Result, Err, length, map, take, refl, sym, ap, subst, ◌∙◌, length-append}
use Rattle.std.proofs.lemmas.Iterator.Adapters.{YieldsList-from_vec}
use Rattle.std.proofs.lemmas.Iterator.Consumers.{YieldsList-turn}
use Rattle.std.proofs.lemmas.List.{take-map, take_more}
use Rattle.tree_build.specs.Rebuilding.{IsAmong, digests_of, nodes_of}
use Rattle.tree_node.specs.declared.new_node.NewNode.{NewNode}
use Rattle.tree_node.specs.Digests.{digest}
use Rattle.tree_node.specs.Outcomes.{GrownByAll}
use Rattle.tree_node.specs.Stocks.{HasNode}
use Rattle.tree_node.specs.declared.digest.Digest.{Digest}
use Rattle.tree_node.specs.declared.stock.PutFault.{PutFault}
use Rattle.tree_node.specs.declared.stock.PutFault.TheVariants as puts
use Rattle.tree_node.proofs.shared.StockLaws.{stock_free}
use Rattle.osm_index.specs.declared.apply_fault.ApplyFault.{ApplyFault}
use Rattle.osm_index.specs.declared.apply_fault.ApplyFault.TheVariants as faults
use Rattle.osm_index.specs.internal.NodeChanges.{fault_of_put}
use Rattle.osm_index.proofs.NodeChangeLemmas.{all_removed, among_taken, node_among, put_clashes, put_one_more}
use Rattle.osm_index.proofs.node_changes.put_nodes.Goals as goal

clash_of_fault : (fault : PutFault) → fault_of_put fault ≡ faults.Clash → fault ≡ puts.Clash
clash_of_fault puts.Clash e = refl
clash_of_fault puts.Memory e = cc

err_same : (a b : ApplyFault) → ◌≡◌ {A = Result (Unit {0}) ApplyFault} (Err a) (Err b) → a ≡ b
err_same a b e = cc

pub loop-node-preserved : goal.loop-node-preserved
loop-node-preserved c =
    let nodes = c.args.nodes.items in
    let gives = c.into_iter-node-iterator.ensures.into_iter_gives in
    let turn = YieldsList-turn (YieldsList-from_vec {s = c.into_iter-node-iterator.result} nodes gives.0 (gives.1 ∙ c.args.nodes.ok.0)) c.loop-node.yielded c.loop-node.node-iterator c.loop-node.yielded_by c.next.result c.next.new.self c.in-Some.node c.in-Some.is c.next.ensures.steps in
    let n = length c.loop-node.yielded in
    let more : length (c.loop-node.yielded ++ c.in-Some.node ∷ []) ≡ n + 1 = length-append c.loop-node.yielded (c.in-Some.node ∷ []) in
    record {
      count = ap (λ k. k + 1) c.loop-node.invariant.count ∙ sym more;
      front = ap (λ (ys : List NewNode). ys ++ c.in-Some.node ∷ []) c.loop-node.invariant.front ∙ ap (λ (y : NewNode). take n nodes ++ y ∷ []) turn.1 ∙ sym (take_more nodes n c.in-Some.node turn.0) ∙ ap (λ k. take k nodes) (sym more);
      put = put_one_more (HasNode c.args.stock.now) (HasNode c.loop-node.stock) (HasNode c.put_new.new.self) c.loop-node.yielded c.in-Some.node c.loop-node.invariant.put c.in_default.ensures.added;
    }

pub returns-in-Err-clause-unchanged : goal.returns-in-Err-clause-unchanged
returns-in-Err-clause-unchanged c =
    let nodes = c.args.nodes.items in
    let n = length c.loop-node.yielded in
    let front = c.loop-node.invariant.front in
    let digests : take c.loop-node.number c.args.digests.now ≡ map (λ (node : NewNode). node.digest) c.loop-node.yielded =
    ap (λ k. take k c.args.digests.now) c.loop-node.invariant.count ∙ ap (λ (ds : List Digest). take n ds) c.requires.same ∙ take-map (λ (node : NewNode). node.digest) n nodes ∙ ap (map (λ (node : NewNode). node.digest)) (sym front) in
    let left : (x : List ℕ) → HasNode c.remove_nodes.new.stock x ↔ (HasNode c.put_new.new.self x × ¬ IsAmong (digests_of (take c.loop-node.number c.args.digests.now)) (digest x)) = c.remove_nodes.ensures in
    let mid : GrownByAll (HasNode c.args.stock.now) (HasNode c.put_new.new.self) (IsAmong (nodes_of c.loop-node.yielded)) = λ x.
    let same = c.in-Err.ensures.unchanged x in
    let put = c.loop-node.invariant.put x in ((λ h. put.0 (same.0 h)), (λ h. same.1 (put.1 h))) in
    all_removed (HasNode c.args.stock.now) (HasNode c.put_new.new.self) (HasNode c.remove_nodes.new.stock) c.loop-node.yielded (take c.loop-node.number c.args.digests.now) mid (stock_free c.put_new.new.self)
    (λ x is. c.requires.new x (among_taken nodes n x (subst (λ (ys : List NewNode). IsAmong (nodes_of ys) x) front is))) digests left

pub returns-in-Err-clause-clash : goal.returns-in-Err-clause-clash
returns-in-Err-clause-clash c = λ told.
    let nodes = c.args.nodes.items in
    let gives = c.into_iter-node-iterator.ensures.into_iter_gives in
    let turn = YieldsList-turn (YieldsList-from_vec {s = c.into_iter-node-iterator.result} nodes gives.0 (gives.1 ∙ c.args.nodes.ok.0)) c.loop-node.yielded c.loop-node.node-iterator c.loop-node.yielded_by c.next.result c.next.new.self c.in-Some.node c.in-Some.is c.next.ensures.steps in
    let n = length c.loop-node.yielded in
    let fault : c.in-Err.fault ≡ puts.Clash = clash_of_fault c.in-Err.fault (sym c.fault_of.ensures ∙ err_same _ _ told) in
    let put : GrownByAll (HasNode c.args.stock.now) (HasNode c.loop-node.stock) (IsAmong (nodes_of (take n nodes))) = subst (λ (ys : List NewNode). GrownByAll (HasNode c.args.stock.now) (HasNode c.loop-node.stock) (IsAmong (nodes_of ys))) c.loop-node.invariant.front c.loop-node.invariant.put in
    put_clashes (HasNode c.args.stock.now) (HasNode c.loop-node.stock) nodes n c.in-Some.node.bytes.items put
    (subst (λ (node : NewNode). IsAmong (nodes_of nodes) node.bytes.items) (sym turn.1) (node_among nodes n c.in-Some.node turn.0))
    (c.put_new.ensures.clash (c.in-Err.is ∙ ap (λ (f : PutFault). Err f) fault))
