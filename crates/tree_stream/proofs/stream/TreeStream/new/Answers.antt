use Rattle.std.proofs.Common.{◌≡◌, ◌≤◌, ℕ, List, [], refl, sym, subst, arith}
use Rattle.tree_build.specs.Shapes.{shape_of}
use Rattle.tree_node.specs.NodeRefs.{number_of}
use Rattle.tree_stream.specs.declared.level.OpenLevel.{OpenLevel}
use Rattle.tree_stream.specs.internal.Opening.{AreOpen}
use Rattle.tree_stream.proofs.StreamLemmas.{open_none}
use Rattle.tree_stream.proofs.stream.TreeStream.new.Goals as goal

pub returns : goal.returns
returns g c = λ none. record {
  have_tree = record { rising = tt; fit = tt; few = omega arith };
  shape_is = refl;
  tree_is = refl;
  count = refl;
  last = c.new.ensures.items;
  leaf = c.new-2.ensures;
  leaves = none 0;
  levels = subst (λ (ls : List OpenLevel). AreOpen (shape_of c.args.shape) (number_of c.args.tree) 0 [] ls (g.W.NodeWriter.given c.args.writer)) (sym c.new-3.ensures.items)
      (open_none (shape_of c.args.shape) (number_of c.args.tree) (g.W.NodeWriter.given c.args.writer) none);
}
