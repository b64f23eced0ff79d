use Rattle.std.proofs.Common.{◌∷◌, ◌++◌, [], List, append_assoc, ap, sym, ◌∙◌}
use Rattle.tree_node.specs.NodeRefs.{link_of}
use Rattle.tree_node.specs.Nodes.{Link}
use Rattle.tree_build.proofs.ChangeLemmas.{all_append}
use Rattle.tree_build.proofs.SeekLemmas.{not_end, not_reached}
use Rattle.tree_build.specs.internal.Seeking.{LiesBefore}
use Rattle.tree_build.proofs.seek.pick_child.Goals as goal

pub loop-child-preserved : goal.loop-child-preserved
loop-child-preserved c =
    let before = c.loop-child.invariant.before in
    let link = link_of c.in-Some.child in
    record {
      next = tt;
      finite = tt;
      some = λ _. not_end c.next.new.self c.is_end-is_last.result c.is_end-is_last.ensures c.if-is_last.false;
      before = (
        before.0 ++ link ∷ [],
        before.1 ∙ ap (λ (links : List Link). before.0 ++ links) c.in-Some.ensures.steps ∙ sym (append_assoc before.0 (link ∷ []) c.next.new.self),
        all_append (λ (l : Link). LiesBefore c.args.wanted.now c.args.above l.greatest) before.0 (link ∷ []) before.2
            (not_reached c.args.wanted.now c.args.above c.in-Some.child.greatest.now c.reaches.result c.reaches.ensures c.if-reaches.false, tt),
      );
    }
