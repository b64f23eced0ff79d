use Rattle.std.proofs.Common.{IsTrue}
use Rattle.node_pack.specs.Packs.{digests_of}
use Rattle.node_pack.proofs.RoleLemmas.{misfit, role_read}
use Rattle.node_pack.proofs.gathered.read_wanted.Goals as goal

pub returns-then-not-fits-clause-refused : goal.returns-then-not-fits-clause-refused
returns-then-not-fits-clause-refused c =
    let read = c.in_ok-role.ensures.read in
    misfit c.args.node.bytes.now c.in_ok-role.role c.args.wanted (role_read c.args.node.bytes.now c.in_ok-role.role (digests_of c.in_ok-role.children.items) read)
    (λ fits. let hit : IsTrue c.fits.result = c.fits.ensures.1 fits in let miss = c.if-not-fits.true in Prim.cc)
