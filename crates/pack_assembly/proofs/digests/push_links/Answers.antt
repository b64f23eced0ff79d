use Rattle.std.proofs.Common.{◌++◌, ◌∷◌, [], List, map, sym, ap, ◌∙◌, append_assoc}
use Rattle.external_sort.specs.Sorting.{Holds}
use Rattle.tree_node.specs.Nodes.{Link}
use Rattle.pack_assembly.proofs.KeyLemmas.{pushed_more, pushed_none}
use Rattle.pack_assembly.proofs.digests.push_links.Goals as goal

pub loop-child-init : goal.loop-child-init
loop-child-init g c =
    ([], ap (map (λ (link : Link). link.child)) c.into_iter-child-iterator.ensures.into_iter_gives, pushed_none (Holds g.S.RunStore.runs g.S.RunStore.in_hand c.args.digests.now))

pub loop-child-preserved : goal.loop-child-preserved
loop-child-preserved g c =
    let (keys, joined, pushed) = c.loop-child.invariant in
    let key = c.in-Some.child.digest.0 in (
      keys ++ key ∷ [],
      append_assoc keys (key ∷ []) (map (λ (link : Link). link.child) c.next.new.self) ∙ ap (λ (ls : List Link). keys ++ map (λ (link : Link). link.child) ls) (sym c.in-Some.ensures.steps) ∙ joined,
      pushed_more (Holds g.S.RunStore.runs g.S.RunStore.in_hand c.args.digests.now) (Holds g.S.RunStore.runs g.S.RunStore.in_hand c.loop-child.digests)
          (Holds g.S.RunStore.runs g.S.RunStore.in_hand c.push_digest.new.digests) keys (key ∷ []) pushed (λ records held. c.in_ok-push_digest.ensures.held records held),
    )
