use Rattle.std.proofs.Common.{sym, subst, ◌∙◌}
use Rattle.node_pack.proofs.SourceLemmas.{GoesOn, goes_on}
use Rattle.node_pack.proofs.source.PackSource.open_level.Goals.{then-not-step+then-len-lt-LEVEL_NODES+in_ok-add_below, then-ne+in_ok-open_node, else-ne, else-not-step, else-not-step-via-then-not-step+else-len-lt-LEVEL_NODES, else-not-step-via-else-not-step}
use Rattle.node_pack.proofs.source.PackSource.open_level.Goals as goal

pub loop-step-preserved : goal.loop-step-preserved
loop-step-preserved g c =
    let so_far : GoesOn g.F.ReadAt.reads c.args.self.now c.loop-step.self = c.loop-step.invariant in
    elim c.if-not-step.branch [
      | then-not-step+then-len-lt-LEVEL_NODES+in_ok-add_below w ↦
          elim w.if-ne.branch [
            | then-ne+in_ok-open_node w' ↦
                subst (GoesOn g.F.ReadAt.reads c.args.self.now) (sym (w.self-is ∙ w'.self-is))
                (goes_on g.F.ReadAt.reads c.args.self.now c.loop-step.self w'.open_node.new.self so_far w'.open_node.ensures)
            | else-ne w' ↦ subst (GoesOn g.F.ReadAt.reads c.args.self.now) (sym (w.self-is ∙ w'.self-is)) so_far
          ]
      | else-not-step w ↦ subst (GoesOn g.F.ReadAt.reads c.args.self.now) (sym w.self-is) so_far
    ]
