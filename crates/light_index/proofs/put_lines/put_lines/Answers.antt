use Rattle.std.proofs.Common.{◌≡◌, ◌+◌, List, ◌∷◌, [], ◌++◌, Result, Err, length, take, refl, sym, ap, subst, ◌∙◌, length-append}
use Rattle.std.proofs.lemmas.Iterator.Adapters.{YieldsList-from_vec}
use Rattle.std.proofs.lemmas.Iterator.Consumers.{YieldsList-turn}
use Rattle.std.proofs.lemmas.List.{take_more}
use Rattle.light_index.proofs.LightPutLemmas.{node_among, put_clashes, put_one_more}
use Rattle.light_index.proofs.put_lines.put_lines.Goals as goal
use Rattle.light_index.specs.internal.LightPutting.{fault_of_put}
use Rattle.osm_index.specs.declared.fault.IndexFault.{IndexFault}
use Rattle.osm_index.specs.declared.fault.IndexFault.TheVariants as faults
use Rattle.tree_build.specs.Rebuilding.{IsAmong, nodes_of}
use Rattle.tree_node.specs.Outcomes.{GrownByAll}
use Rattle.tree_node.specs.Stocks.{HasNode}
use Rattle.tree_node.specs.declared.new_node.NewNode.{NewNode}
use Rattle.tree_node.specs.declared.stock.PutFault.{PutFault}
use Rattle.tree_node.specs.declared.stock.PutFault.TheVariants as puts

clash_of_fault : (fault : PutFault) → fault_of_put fault ≡ faults.Clash → fault ≡ puts.Clash
clash_of_fault puts.Clash e = refl
clash_of_fault puts.Memory e = cc

err_same : (a b : IndexFault) → ◌≡◌ {A = Result (Unit {0}) IndexFault} (Err a) (Err b) → a ≡ b
err_same a b e = cc

pub loop-line-preserved : goal.loop-line-preserved
loop-line-preserved c =
    let lines = c.args.lines.items in
    let gives = c.into_iter-line-iterator.ensures.into_iter_gives in
    let turn = YieldsList-turn (YieldsList-from_vec {s = c.into_iter-line-iterator.result} lines gives.0 (gives.1 ∙ c.args.lines.ok.0)) c.loop-line.yielded c.loop-line.line-iterator c.loop-line.yielded_by c.next.result c.next.new.self c.in-Some.line c.in-Some.is c.next.ensures.steps in
    let n = length c.loop-line.yielded in
    let more : length (c.loop-line.yielded ++ c.in-Some.line ∷ []) ≡ n + 1 = length-append c.loop-line.yielded (c.in-Some.line ∷ []) in
    record {
      front = ap (λ (ys : List NewNode). ys ++ c.in-Some.line ∷ []) c.loop-line.invariant.front ∙ ap (λ (y : NewNode). take n lines ++ y ∷ []) turn.1 ∙ sym (take_more lines n c.in-Some.line turn.0) ∙ ap (λ k. take k lines) (sym more);
      put = put_one_more (HasNode c.args.stock.now) (HasNode c.loop-line.stock) (HasNode c.put_new.new.self) c.loop-line.yielded c.in-Some.line c.loop-line.invariant.put c.in_default.ensures.added;
    }

pub returns-in-Err-clause-clash : goal.returns-in-Err-clause-clash
returns-in-Err-clause-clash c = λ told.
    let lines = c.args.lines.items in
    let gives = c.into_iter-line-iterator.ensures.into_iter_gives in
    let turn = YieldsList-turn (YieldsList-from_vec {s = c.into_iter-line-iterator.result} lines gives.0 (gives.1 ∙ c.args.lines.ok.0)) c.loop-line.yielded c.loop-line.line-iterator c.loop-line.yielded_by c.next.result c.next.new.self c.in-Some.line c.in-Some.is c.next.ensures.steps in
    let n = length c.loop-line.yielded in
    let fault : c.in-Err.fault ≡ puts.Clash = clash_of_fault c.in-Err.fault (sym c.fault_of.ensures ∙ err_same _ _ told) in
    let put : GrownByAll (HasNode c.args.stock.now) (HasNode c.loop-line.stock) (IsAmong (nodes_of (take n lines))) = subst (λ (ys : List NewNode). GrownByAll (HasNode c.args.stock.now) (HasNode c.loop-line.stock) (IsAmong (nodes_of ys))) c.loop-line.invariant.front c.loop-line.invariant.put in
    put_clashes (HasNode c.args.stock.now) (HasNode c.loop-line.stock) lines n c.in-Some.line.bytes.items put
    (subst (λ (node : NewNode). IsAmong (nodes_of lines) node.bytes.items) (sym turn.1) (node_among lines n c.in-Some.line turn.0))
    (c.put_new.ensures.clash (c.in-Err.is ∙ ap (λ (f : PutFault). Err f) fault))
