use Rattle.std.proofs.Common.{rules, arith, length, ◌≡◌, ◌++◌, [], ℕ, Err, List, refl, sym, ap, subst, ◌∙◌, append-nil, append_assoc}
use Rattle.std.specs.List.{AllByRecursion, flat_map}
use Rattle.external_sort.specs.Sorting.{Holds}
use Rattle.tree_node.specs.Nodes.{IsNode, Node}
use Rattle.node_pack.specs.Packs.{child_digests}
use Rattle.pack_assembly.specs.internal.Keys.{key_entries}
use Rattle.pack_assembly.specs.internal.Placing.{IsOfLevel}
use Rattle.pack_assembly.proofs.FaultLemmas.{read_device, residual}
use Rattle.pack_assembly.proofs.KeyLemmas.{pushed_more, pushed_none}
use Rattle.pack_assembly.proofs.LevelLemmas.{first_read, none_read}
use Rattle.pack_assembly.proofs.digests.push_below.Goals as goal

pub loop-init : goal.loop-init
loop-init g c = (refl, λ true nodes are same. ([], nodes, refl, are, same, pushed_none (Holds g.S.RunStore.runs g.S.RunStore.in_hand c.args.digests.now)), λ true nodes are same. (nodes, are, same, omega arith))

pub returns-then-not-branch-clause-held : goal.returns-then-not-branch-clause-held
returns-then-not-branch-clause-held g c = λ true nodes are same records held.
    let (keys, left, joined, all, unread, pushed) = c.loop.invariant.1 true nodes are (c.rewind.ensures.unread.there ∙ same) in
    let none = none_read (g.L.NodeLevels.unread c.loop.levels) (g.L.NodeLevels.unread c.next_node.new.self) c.args.tree c.args.level c.in_ok-next_node.field-0 c.next_node.new.into.items left
    c.if-not-branch.true (c.in_ok-next_node.ensures.read true) unread in
    let same_keys : keys ≡ flat_map child_digests nodes = sym (append-nil keys) ∙ ap (λ (l : List Node). keys ++ flat_map child_digests l) (sym none) ∙ joined in
    subst (λ (ks : List (List ℕ)). Holds g.S.RunStore.runs g.S.RunStore.in_hand c.loop.digests (records ++ key_entries ks)) same_keys (pushed records held)

pub loop-preserved : goal.loop-preserved
loop-preserved g c = (
  c.in_ok-next_node.ensures.nodes ∙ c.loop.invariant.0,
  λ true nodes are same.
      let (keys, left, joined, all, unread, pushed) = c.loop.invariant.1 true nodes are same in
      let first = first_read (g.L.NodeLevels.unread c.loop.levels) (g.L.NodeLevels.unread c.next_node.new.self) c.args.tree c.args.level c.in_ok-next_node.field-0 c.next_node.new.into.items left
      c.if-not-branch.false (c.in_ok-next_node.ensures.read true) unread in
      let both = subst (AllByRecursion IsNode) first.are all in (
        keys ++ child_digests first.node,
        first.others,
        append_assoc keys (child_digests first.node) (flat_map child_digests first.others) ∙ ap (λ (l : List Node). keys ++ flat_map child_digests l) (sym first.are) ∙ joined,
        both.1,
        first.left,
        pushed_more (Holds g.S.RunStore.runs g.S.RunStore.in_hand c.args.digests.now) (Holds g.S.RunStore.runs g.S.RunStore.in_hand c.loop.digests)
            (Holds g.S.RunStore.runs g.S.RunStore.in_hand c.push_children.new.digests) keys (child_digests first.node) pushed
            (λ records held. c.in_ok-push_children.ensures.held first.node (both.0, c.as_slice.ensures.value ∙ first.read_is) records held),
      ),
  λ true nodes are same.
      let (left, all, unread, count) = c.loop.invariant.2 true nodes are same in
      let first = first_read (g.L.NodeLevels.unread c.loop.levels) (g.L.NodeLevels.unread c.next_node.new.self) c.args.tree c.args.level c.in_ok-next_node.field-0 c.next_node.new.into.items left
      c.if-not-branch.false (c.in_ok-next_node.ensures.read true) unread in
      let both = subst (AllByRecursion (IsOfLevel c.args.level)) first.are all in
      (first.others, both.1, first.left, omega (arith, count, ap (λ (l : List Node). length l) first.are)),
)

pub returns-in_err-next_node-clause-device : goal.returns-in_err-next_node-clause-device
returns-in_err-next_node-clause-device g c = λ true refuses sorts nodes are deep same few told.
    c.in_err-next_node.ensures.given true refuses (ap Err (read_device c.in_err-next_node.field-0.0 (residual c.from_residual.result _ _ c.from_residual.ensures.1 told)))

pub returns-in_err-push_children-clause-device : goal.returns-in_err-push_children-clause-device
returns-in_err-push_children-clause-device g c = λ true refuses sorts nodes are deep same few told.
    let (left, all, unread, count) = c.loop.invariant.2 true nodes are (c.rewind.ensures.unread.there ∙ same) in
    let first = first_read (g.L.NodeLevels.unread c.loop.levels) (g.L.NodeLevels.unread c.next_node.new.self) c.args.tree c.args.level c.in_ok-next_node.field-0 c.next_node.new.into.items left
    c.if-not-branch.false (c.in_ok-next_node.ensures.read true) unread in
    let both = subst (AllByRecursion (IsOfLevel c.args.level)) first.are all in
    c.in_err-push_children.ensures.device sorts first.node (both.0.0, c.as_slice.ensures.value ∙ first.read_is) (omega (arith, both.0.1, deep)) (search rules)

pub returns-clause-device : goal.returns-clause-device
returns-clause-device g c = λ true refuses sorts nodes are deep same few told.
    let (left, all, unread, count) = c.loop.invariant.2 true nodes are (c.rewind.ensures.unread.there ∙ same) in
    absurd (omega (arith, c.loop-test.false, count, few))
