use Rattle.osm_packs.proofs.PackLemmas.{only_unmade, only_unwritten}
use Rattle.osm_packs.proofs.pack_command.pack.Goals as goal

pub returns-in_err-snapshot-clause-only : goal.returns-in_err-snapshot-clause-only
returns-in_err-snapshot-clause-only g c =
    only_unmade (g.R.Read.remaining c.args.input.now) c.args.edition c.in_err-snapshot.field-0.0 c.from_residual.result c.from_residual.ensures.1 c.in_err-snapshot.ensures.only

pub returns-in_err-write_nodes-clause-only : goal.returns-in_err-write_nodes-clause-only
returns-in_err-write_nodes-clause-only g c =
    let (p, held, of_file) = c.in_ok-snapshot.ensures.made in
    only_unwritten (g.R.Read.remaining c.args.input.now) c.args.edition p c.in_err-write_nodes.field-0.0 c.from_residual-in_err-write_nodes.result
    c.from_residual-in_err-write_nodes.ensures.1 of_file (c.in_err-write_nodes.ensures.refused p held)
