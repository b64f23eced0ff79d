use Rattle.std.proofs.Common.{ap, ◌∙◌}
use Rattle.osm_keys.specs.Publications.{root_of}
use Rattle.node_pack.specs.Packs.{pack}
use Rattle.tree_node.specs.declared.digest.Digest.{Digest}
use Rattle.pack_mirror.proofs.RootLemmas.{root_read}
use Rattle.pack_mirror.proofs.mirror.PackMirror.open_with_limit.Goals as goal

pub returns-clause-stands : goal.returns-clause-stands
returns-clause-stands g c = λ p nodes reads is published none.
    let bytes = pack (root_of p) nodes in
    let header = c.in_ok-source.ensures.header bytes reads in
    (published, ap (λ (root : Digest). root.0) (c.over.ensures ∙ c.root-root.ensures ∙ header.2) ∙ root_read (root_of p) nodes _ header.0 is.wide header.1, none)
