use Rattle.std.proofs.Common.{◌≡◌, ◌++◌, length, map}
use Rattle.std.specs.Vec.Iter.{into_iter_items, into_iter_len}
use Rattle.tree_build.specs.Rebuilding.{nodes_of}
use Rattle.tree_build.proofs.grow_top.add_all.Given as goal

-- those that were appended, and those to come
abbrev pub invariant-loop-new : goal.invariant-loop-new
invariant-loop-new l = record {
  whole : nodes_of l.added.items ++ map (λ new. new.node.bytes.items) (into_iter_items l.new-iterator) ≡ nodes_of l.fn.added.items ++ map (λ new. new.node.bytes.items) l.fn.news.items;
  count : into_iter_len l.new-iterator ≡ length (into_iter_items l.new-iterator);
}
