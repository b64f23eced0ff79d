use Rattle.std.proofs.Common.{◌≡◌, ap, ◌∙◌}
use Rattle.tree_node.specs.Digests.{digest}
use Rattle.osm_keys.specs.Publications.{manifest_of}
use Rattle.osm_index.proofs.UpdateLemmas.{digests_go, manifest_same, nodes_come, nodes_once}
use Rattle.osm_index.proofs.update.update_of.Goals as goal

pub returns-clause-made : goal.returns-clause-made
returns-clause-made c = λ p q is changed root_is unlike free.
    let same = manifest_same p q c.args.edition is c.args.trees changed unlike free in
    let bytes : c.in_ok-node.node.bytes.items ≡ manifest_of q = c.in_ok-node.ensures ∙ same in
    record {
      is = is;
      manifest = same;
      tops = changed.tops_are;
      root = c.in_ok-node.node.own ∙ ap digest bytes;
      nodes = nodes_come p q c.args.edition is c.args.trees changed unlike free c.in_ok-node.node bytes c.push.new.self.items c.in_ok-push.ensures.items;
      once = nodes_once p q c.args.edition is c.args.trees changed unlike free c.in_ok-node.node bytes c.push.new.self.items c.in_ok-push.ensures.items;
      added = rw c.deref.ensures.value at c.in_ok-added.ensures;
      gone = digests_go p q c.args.edition is c.args.trees changed unlike free c.args.old_root.now root_is c.push-2.new.self.items c.in_ok-push-2.ensures.items;
    }
