use Rattle.std.proofs.Common.{rules}
use Rattle.std.proofs.lemmas.List.Sorted.{answers_always}
use Rattle.tree_node.specs.Recorders.{RecorderUsed}
use Rattle.tree_node.specs.internal.Pairs.{part_key}
use Rattle.tree_node.proofs.RecorderLemmas.{parts_rise, same_given}
use Rattle.tree_node.proofs.recorder.Recorder.parts.Goals as goal

pub returns : goal.returns
returns c =
    let moved = c.sort_unstable_by_key.ensures.permutation in
    record {
      rising = parts_rise c.in_ok-parts.parts.items c.sort_unstable_by_key.new.self.items moved c.in_ok-parts.ensures.once
          (c.sort_unstable_by_key.ensures.sorted part_key (answers_always _ _ _ (λ f a r g h. search rules)));
      used = same_given c.in_ok-parts.parts.items c.sort_unstable_by_key.new.self.items moved (RecorderUsed c.args.self.now) c.in_ok-parts.ensures.used;
    }
