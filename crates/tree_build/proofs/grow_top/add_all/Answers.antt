use Rattle.std.proofs.Common.{◌≡◌, ◌++◌, [], map, sym, ap, ◌∙◌}
use Rattle.std.proofs.lemmas.List.{append-nil}
use Rattle.std.specs.Vec.Iter.{into_iter_items}
use Rattle.tree_build.specs.Rebuilding.{nodes_of}
use Rattle.tree_build.proofs.GrowLemmas.{bytes_are}
use Rattle.tree_build.proofs.TreeEdits.{empty_list}
use Rattle.tree_build.proofs.grow_top.add_all.Goals as goal

pub returns : goal.returns
returns c = λ known stand.
    let end : into_iter_items c.loop-new.new-iterator ≡ [] = empty_list (into_iter_items c.loop-new.new-iterator) (sym c.loop-new.invariant.count ∙ c.in-None.ensures.steps.0) in
    sym (append-nil (nodes_of c.loop-new.added.items))
    ∙ ap (λ news. nodes_of c.loop-new.added.items ++ map (λ new. new.node.bytes.items) news) (sym end)
    ∙ c.loop-new.invariant.whole
    ∙ ap (λ bs. nodes_of c.args.added.now.items ++ bs) (bytes_are c.args.news.items known stand)
