use Rattle.std.proofs.Common.{rules, arith, ◌∷◌, ◌-◌, ℕ, Err, List, ap, length, drop, refl, subst, sym, ◌∙◌}
use Rattle.std.proofs.lemmas.List.{length-map}
use Rattle.tree_node.specs.Nodes.{Node, spelling}
use Rattle.tree_node.specs.Trees.{links_in}
use Rattle.tree_node.specs.declared.tree.Tree.{Tree}
use Rattle.pack_assembly.specs.internal.Placing.{AreParentsOf}
use Rattle.pack_assembly.proofs.FaultLemmas.{read_unwritten, residual}
use Rattle.pack_assembly.proofs.LevelLemmas.{first_read, none_read, one_fewer}
use Rattle.pack_assembly.proofs.TableLemmas.{all_written, none_written, one_written, part_written, written_front}
use Rattle.pack_assembly.proofs.level.write_level.Goals as goal

pub loop-init : goal.loop-init
loop-init g c = (
  refl,
  λ true place_of nodes lower same above.
      none_written place_of c.args.row nodes (g.L.NodeLevels.unread c.rewind_both.new.levels c.args.row.tree c.args.row.level)
      (g.L.NodeLevels.unmeasured c.rewind_both.new.levels c.args.row.tree (c.args.row.level - 1)) c.args.below lower (g.W.Write.contents c.args.writer.now) same above,
  λ true. omega arith,
)

pub returns-in_err-next_node-clause-begun : goal.returns-in_err-next_node-clause-begun
returns-in_err-next_node-clause-begun g c = λ true place_of nodes lower same above.
    let was = c.loop.invariant.1 true place_of nodes lower (c.rewind_both.ensures.unread ∙ same)
    (subst (λ (u : List (List ℕ)). AreParentsOf place_of u c.args.row c.args.below nodes lower) (sym c.rewind_both.ensures.unmeasured) above) in
    written_front place_of c.args.row nodes (g.L.NodeLevels.unread c.loop.levels c.args.row.tree c.args.row.level) (g.L.NodeLevels.unmeasured c.loop.levels c.args.row.tree (c.args.row.level - 1)) c.loop.at
    (g.W.Write.contents c.args.writer.now) (g.W.Write.contents c.loop.writer) was

pub returns-clause-begun : goal.returns-clause-begun
returns-clause-begun g c = λ true place_of nodes lower same above.
    let was = c.loop.invariant.1 true place_of nodes lower (c.rewind_both.ensures.unread ∙ same)
    (subst (λ (u : List (List ℕ)). AreParentsOf place_of u c.args.row c.args.below nodes lower) (sym c.rewind_both.ensures.unmeasured) above) in
    written_front place_of c.args.row nodes (g.L.NodeLevels.unread c.loop.levels c.args.row.tree c.args.row.level) (g.L.NodeLevels.unmeasured c.loop.levels c.args.row.tree (c.args.row.level - 1)) c.loop.at
    (g.W.Write.contents c.args.writer.now) (g.W.Write.contents c.loop.writer) was

pub returns-then-not-branch-clause-whole : goal.returns-then-not-branch-clause-whole
returns-then-not-branch-clause-whole g c = λ true place_of nodes lower same above.
    let was = c.loop.invariant.1 true place_of nodes lower (c.rewind_both.ensures.unread ∙ same)
    (subst (λ (u : List (List ℕ)). AreParentsOf place_of u c.args.row c.args.below nodes lower) (sym c.rewind_both.ensures.unmeasured) above) in
    let none = none_read (g.L.NodeLevels.unread c.loop.levels) (g.L.NodeLevels.unread c.next_node.new.self) c.args.row.tree c.args.row.level c.in_ok-next_node.field-0 c.next_node.new.into.items was.rest
    c.if-not-branch.true (c.in_ok-next_node.ensures.read true) was.left in
    all_written place_of c.args.row nodes (g.L.NodeLevels.unread c.loop.levels c.args.row.tree c.args.row.level) (g.L.NodeLevels.unmeasured c.loop.levels c.args.row.tree (c.args.row.level - 1)) c.loop.at
    (g.W.Write.contents c.args.writer.now) (g.W.Write.contents c.loop.writer) was none

pub returns-then-not-branch-clause-begun : goal.returns-then-not-branch-clause-begun
returns-then-not-branch-clause-begun g c = λ true place_of nodes lower same above.
    let was = c.loop.invariant.1 true place_of nodes lower (c.rewind_both.ensures.unread ∙ same)
    (subst (λ (u : List (List ℕ)). AreParentsOf place_of u c.args.row c.args.below nodes lower) (sym c.rewind_both.ensures.unmeasured) above) in
    written_front place_of c.args.row nodes (g.L.NodeLevels.unread c.loop.levels c.args.row.tree c.args.row.level) (g.L.NodeLevels.unmeasured c.loop.levels c.args.row.tree (c.args.row.level - 1)) c.loop.at
    (g.W.Write.contents c.args.writer.now) (g.W.Write.contents c.loop.writer) was

pub returns-in_err-write_record-clause-begun : goal.returns-in_err-write_record-clause-begun
returns-in_err-write_record-clause-begun g c = λ true place_of nodes lower same above.
    let was = c.loop.invariant.1 true place_of nodes lower (c.rewind_both.ensures.unread ∙ same)
    (subst (λ (u : List (List ℕ)). AreParentsOf place_of u c.args.row c.args.below nodes lower) (sym c.rewind_both.ensures.unmeasured) above) in
    let first = first_read (g.L.NodeLevels.unread c.loop.levels) (g.L.NodeLevels.unread c.next_node.new.self) c.args.row.tree c.args.row.level c.in_ok-next_node.field-0 c.next_node.new.into.items was.rest
    c.if-not-branch.false (c.in_ok-next_node.ensures.read true) was.left in
    let there = subst (λ (ns : List Node). AreParentsOf place_of (g.L.NodeLevels.unmeasured c.loop.levels c.args.row.tree (c.args.row.level - 1)) c.args.row c.loop.at ns was.lower) first.are was.above in
    let now = subst (λ (u : Tree → ℕ → List (List ℕ)). AreParentsOf place_of (u c.args.row.tree (c.args.row.level - 1)) c.args.row c.loop.at (first.node ∷ first.others) was.lower)
    (sym c.in_ok-next_node.ensures.unmeasured) there in
    part_written place_of c.args.row nodes (g.L.NodeLevels.unread c.loop.levels c.args.row.tree c.args.row.level) (g.L.NodeLevels.unmeasured c.loop.levels c.args.row.tree (c.args.row.level - 1)) c.loop.at
    (g.W.Write.contents c.args.writer.now) (g.W.Write.contents c.loop.writer) was (g.W.Write.contents c.write_record.new.writer) first.node first.others first.are
    (c.write_record.ensures.begun true place_of first.node first.others was.lower (c.as_slice.ensures.value ∙ first.read_is) now)

pub loop-preserved : goal.loop-preserved
loop-preserved g c = (
  c.in_ok-write_record.ensures.nodes ∙ c.in_ok-next_node.ensures.nodes ∙ c.loop.invariant.0,
  λ true place_of nodes lower same above.
      let was = c.loop.invariant.1 true place_of nodes lower same above in
      let first = first_read (g.L.NodeLevels.unread c.loop.levels) (g.L.NodeLevels.unread c.next_node.new.self) c.args.row.tree c.args.row.level c.in_ok-next_node.field-0 c.next_node.new.into.items was.rest
      c.if-not-branch.false (c.in_ok-next_node.ensures.read true) was.left in
      let there = subst (λ (ns : List Node). AreParentsOf place_of (g.L.NodeLevels.unmeasured c.loop.levels c.args.row.tree (c.args.row.level - 1)) c.args.row c.loop.at ns was.lower) first.are was.above in
      let now = subst (λ (u : Tree → ℕ → List (List ℕ)). AreParentsOf place_of (u c.args.row.tree (c.args.row.level - 1)) c.args.row c.loop.at (first.node ∷ first.others) was.lower)
      (sym c.in_ok-next_node.ensures.unmeasured) there in
      let read = c.as_slice.ensures.value ∙ first.read_is in
      one_written place_of c.args.row nodes (g.L.NodeLevels.unread c.loop.levels c.args.row.tree c.args.row.level) (g.L.NodeLevels.unmeasured c.loop.levels c.args.row.tree (c.args.row.level - 1)) c.loop.at
      (g.W.Write.contents c.args.writer.now) (g.W.Write.contents c.loop.writer) was (g.W.Write.contents c.write_record.new.writer) first.node first.others
      (g.L.NodeLevels.unread c.write_record.new.levels c.args.row.tree c.args.row.level) (g.L.NodeLevels.unmeasured c.write_record.new.levels c.args.row.tree (c.args.row.level - 1)) c.write_record.new.at
      (drop (length (links_in first.node)) was.lower) first.are
      (ap (λ (u : Tree → ℕ → List (List ℕ)). u c.args.row.tree c.args.row.level) c.in_ok-write_record.ensures.unread ∙ first.left)
      (c.in_ok-write_record.ensures.whole true place_of first.node first.others was.lower read now)
      (c.in_ok-write_record.ensures.past true place_of first.node first.others was.lower read now),
  λ true.
      let fewer = one_fewer (g.L.NodeLevels.unread c.loop.levels) (g.L.NodeLevels.unread c.next_node.new.self) c.args.row.tree c.args.row.level c.in_ok-next_node.field-0 c.next_node.new.into.items
      c.if-not-branch.false (c.in_ok-next_node.ensures.read true) in
      let same = ap (λ (u : Tree → ℕ → List (List ℕ)). length (u c.args.row.tree c.args.row.level)) c.in_ok-write_record.ensures.unread in
      omega (arith, fewer, same, c.loop.invariant.2 true),
)

pub returns-in_err-next_node-clause-device : goal.returns-in_err-next_node-clause-device
returns-in_err-next_node-clause-device g c = λ true refuses place_of nodes lower same above few told.
    c.in_err-next_node.ensures.given true refuses (ap Err (read_unwritten c.in_err-next_node.field-0.0 (residual c.from_residual.result _ _ c.from_residual.ensures.1 told)))

pub returns-in_err-write_record-clause-device : goal.returns-in_err-write_record-clause-device
returns-in_err-write_record-clause-device g c = λ true refuses place_of nodes lower same above few told.
    let was = c.loop.invariant.1 true place_of nodes lower (c.rewind_both.ensures.unread ∙ same)
    (subst (λ (u : List (List ℕ)). AreParentsOf place_of u c.args.row c.args.below nodes lower) (sym c.rewind_both.ensures.unmeasured) above) in
    let first = first_read (g.L.NodeLevels.unread c.loop.levels) (g.L.NodeLevels.unread c.next_node.new.self) c.args.row.tree c.args.row.level c.in_ok-next_node.field-0 c.next_node.new.into.items was.rest
    c.if-not-branch.false (c.in_ok-next_node.ensures.read true) was.left in
    let there = subst (λ (ns : List Node). AreParentsOf place_of (g.L.NodeLevels.unmeasured c.loop.levels c.args.row.tree (c.args.row.level - 1)) c.args.row c.loop.at ns was.lower) first.are was.above in
    let now = subst (λ (u : Tree → ℕ → List (List ℕ)). AreParentsOf place_of (u c.args.row.tree (c.args.row.level - 1)) c.args.row c.loop.at (first.node ∷ first.others) was.lower)
    (sym c.in_ok-next_node.ensures.unmeasured) there in
    c.in_err-write_record.ensures.device true refuses place_of first.node first.others was.lower (c.as_slice.ensures.value ∙ first.read_is) now (search rules)

pub returns-clause-device : goal.returns-clause-device
returns-clause-device g c = λ true refuses place_of nodes lower same above few told.
    let long = ap (λ (l : List (List ℕ)). length l) (c.rewind_both.ensures.unread ∙ same) in
    absurd (omega (arith, c.loop-test.false, c.loop.invariant.2 true, long, length-map nodes spelling, few))
