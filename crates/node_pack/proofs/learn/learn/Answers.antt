use Rattle.std.proofs.Common.{List, ℕ, ap, subst, sym, ◌∙◌}
use Rattle.std.specs.List.{AllByRecursion}
use Rattle.std.specs.Prelude.{OnOk}
use Rattle.tree_node.specs.declared.digest.Digest.{Digest}
use Rattle.node_pack.specs.Known.{IsKnown, IsTable}
use Rattle.node_pack.specs.Packs.{digests_of}
use Rattle.node_pack.proofs.ChildLemmas.{has_table}
use Rattle.node_pack.proofs.learn.learn.Goals as goal

pub returns-clause-trues : goal.returns-clause-trues
returns-clause-trues c = λ place_of kept old spelled has placed short.
    let is = has_table place_of c.args.limit kept c.args.bytes.now c.split_record.result.0.now c.split_record.result.1.now c.list_children.new.children.items spelled c.split_record.ensures.node c.split_record.ensures.table short has placed
    (λ digests of. c.in_ok-list_children.ensures digests of) in
    c.learn_places.ensures.trues place_of old (subst (λ (ds : List Digest). IsTable place_of c.args.limit (digests_of ds) c.split_record.result.1.now) (sym c.as_slice.ensures.value) is.table)

pub returns-clause-learned : goal.returns-clause-learned
returns-clause-learned c = λ place_of kept old spelled has placed short within.
    let is = has_table place_of c.args.limit kept c.args.bytes.now c.split_record.result.0.now c.split_record.result.1.now c.list_children.new.children.items spelled c.split_record.ensures.node c.split_record.ensures.table short has placed
    (λ digests of. c.in_ok-list_children.ensures digests of) in
    let learned = c.learn_places.ensures.learned place_of old (subst (λ (ds : List Digest). IsTable place_of c.args.limit (digests_of ds) c.split_record.result.1.now) (sym c.as_slice.ensures.value) is.table) in
    subst (λ (ds : List (List ℕ)). OnOk c.learn_places.result (AllByRecursion (IsKnown c.learn_places.new.places) ds)) (ap digests_of c.as_slice.ensures.value ∙ is.same) learned
