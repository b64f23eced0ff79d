use Rattle.node_pack.specs.Packs.{digests_of}
use Rattle.node_pack.proofs.RoleLemmas.{children_read}
use Rattle.node_pack.proofs.gathered.read_new.Goals as goal

pub returns-clause-children : goal.returns-clause-children
returns-clause-children c = children_read _ c.in_ok-role.role (digests_of c.in_ok-role.children.items) c.in_ok-role.ensures.read
