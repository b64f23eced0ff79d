use Rattle.std.proofs.Common.{◌≡◌, ◌≢◌, ℕ, ◌<◌, List, [], Bool, true, false, cond, eqb, ltb, ◌&&◌, ◌||◌, refl, sym, ap, ◌∙◌, arith, lt-ltb}
use Rattle.tree_node.specs.Nodes.{Binding, Link}
use Rattle.tree_node.specs.Trees.{Two, ends_by, is_marked_entry, is_marked_link}
use Rattle.tree_build.specs.Shapes.{shape_of}
use Rattle.std.proofs.lemmas.Grind.{common_steps}
use Rattle.tree_stream.proofs.ends.leaf_ends.Goals as goal

pub returns-then-number-gt1 : goal.returns-then-number-gt1
returns-then-number-gt1 c = λ value.
    let link : Link = record { greatest = []; number = 0; child = c.digest_of.result.0 } in
    let mark = c.is_mark.ensures link refl in
    let named = c.digest_of.ensures in
    rw c.in-Two.is (grind (arith, common_steps, mark, named))
