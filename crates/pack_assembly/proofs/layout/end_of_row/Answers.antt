use Rattle.std.proofs.Common.{arith, ◌⊎◌, ◌≤◌, ◌<◌, ◌+◌, ◌^◌, ℕ, List, Option, ap, length, subst, ◌∙◌}
use Rattle.std.proofs.lemmas.List.{length-map}
use Rattle.tree_node.specs.Nodes.{spelling}
use Rattle.tree_stream.specs.ReadBack.{HasLen}
use Rattle.tree_stream.specs.declared.levels_read.NodeLen.{NodeLen}
use Rattle.pack_assembly.proofs.LayoutLemmas.{all_measured, long_measured, more_measured}
use Rattle.pack_assembly.proofs.LevelLemmas.{measured, none_measured, one_fewer_left}
use Rattle.pack_assembly.proofs.layout.end_of_row.Goals as goal

pub returns-in-None-clause-end : goal.returns-in-None-clause-end
returns-in-None-clause-end g c = λ true nodes are same.
    let was = c.loop.invariant.2 true nodes are (c.rewind.ensures.unmeasured.there ∙ same) in
    let old = g.L.NodeLevels.unmeasured c.loop.levels in
    let new = g.L.NodeLevels.unmeasured c.next_len.new.levels in
    let has = subst (λ (o : Option NodeLen). HasLen old new c.args.row.tree c.args.row.level o) c.in-None.is (c.in_ok-len.ensures.measured true) in
    let all = all_measured nodes (old c.args.row.tree c.args.row.level) c.args.start c.loop.at was (none_measured old new c.args.row.tree c.args.row.level was.rest has was.left) in
    (all.at_is, all.short)

pub returns-in_err-at-in-Some-clause-too_long : goal.returns-in_err-at-in-Some-clause-too_long
returns-in_err-at-in-Some-clause-too_long g c = λ err true nodes are same.
    let was = c.loop.invariant.2 true nodes are (c.rewind.ensures.unmeasured.there ∙ same) in
    let old = g.L.NodeLevels.unmeasured c.loop.levels in
    let new = g.L.NodeLevels.unmeasured c.next_len.new.levels in
    let has = subst (λ (o : Option NodeLen). HasLen old new c.args.row.tree c.args.row.level o) c.in-Some.is (c.in_ok-len.ensures.measured true) in
    let m = measured old new c.args.row.tree c.args.row.level c.in-Some.len was.rest was.are has was.left in
    long_measured nodes (old c.args.row.tree c.args.row.level) c.args.start c.loop.at m.node m.others was m.are
    (subst (λ (n : ℕ). (2 ^ 32 ≤ n) ⊎ (2 ^ 48 < c.loop.at + n)) m.len_is c.in_err-at-in-Some.ensures.1)

pub loop-preserved : goal.loop-preserved
loop-preserved g c = (
  c.in_ok-len.ensures.nodes ∙ c.loop.invariant.0,
  c.in_ok-at-in-Some.ensures.1,
  λ true nodes are same.
      let was = c.loop.invariant.2 true nodes are same in
      let old = g.L.NodeLevels.unmeasured c.loop.levels in
      let new = g.L.NodeLevels.unmeasured c.next_len.new.levels in
      let has = subst (λ (o : Option NodeLen). HasLen old new c.args.row.tree c.args.row.level o) c.in-Some.is (c.in_ok-len.ensures.measured true) in
      let m = measured old new c.args.row.tree c.args.row.level c.in-Some.len was.rest was.are has was.left in
      more_measured nodes (old c.args.row.tree c.args.row.level) (new c.args.row.tree c.args.row.level) c.args.start c.loop.at c.in_ok-at-in-Some.at m.node m.others was m.are m.left
      (c.in_ok-at-in-Some.ensures.0 ∙ ap (λ (n : ℕ). c.loop.at + n) m.len_is) (subst (λ (n : ℕ). n < 2 ^ 32) m.len_is c.in_ok-at-in-Some.ensures.2),
  λ true.
      let old = g.L.NodeLevels.unmeasured c.loop.levels in
      let new = g.L.NodeLevels.unmeasured c.next_len.new.levels in
      let has = subst (λ (o : Option NodeLen). HasLen old new c.args.row.tree c.args.row.level o) c.in-Some.is (c.in_ok-len.ensures.measured true) in
      omega (arith, one_fewer_left old new c.args.row.tree c.args.row.level c.in-Some.len has, c.loop.invariant.3 true),
)

pub returns-clause-device : goal.returns-clause-device
returns-clause-device g c = λ true refuses nodes same few told.
    let long = ap (λ (l : List (List ℕ)). length l) (c.rewind.ensures.unmeasured.there ∙ same) in
    absurd (omega (arith, c.loop-test.false, c.loop.invariant.3 true, long, length-map nodes spelling, few))
