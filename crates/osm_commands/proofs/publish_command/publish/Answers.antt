use Rattle.std.proofs.Common.{ap, ◌∙◌}
use Rattle.tree_node.specs.declared.digest.Digest.{Digest}
use Rattle.osm_commands.specs.RootLines.{digest_line}
use Rattle.osm_commands.proofs.TreeLemmas.{begun_tree_root, outside_told, whole_tree_root}
use Rattle.osm_commands.proofs.publish_command.publish.Goals as goal

pub returns-in_err-snapshot-clause-only : goal.returns-in_err-snapshot-clause-only
returns-in_err-snapshot-clause-only g c =
    outside_told (g.R.Read.remaining c.args.input.now) c.args.edition c.in_err-snapshot.field-0.0 c.from_residual.result c.from_residual.ensures.1 c.in_err-snapshot.ensures.only

pub returns-clause-published : goal.returns-clause-published
returns-clause-published g c =
    let (p, held, of_file) = c.in_ok-snapshot.ensures.made in
    whole_tree_root (g.R.Read.remaining c.args.input.now) c.args.edition p c.as_bytes.result.now _ _ _ of_file
    (c.as_bytes.ensures.value ∙ c.in_ok-line.ensures ∙ ap (λ (d : Digest). digest_line d.0) c.root.ensures ∙ ap digest_line held.root)
    c.write_whole.ensures.whole

pub returns-clause-begun : goal.returns-clause-begun
returns-clause-begun g c =
    let (p, held, of_file) = c.in_ok-snapshot.ensures.made in
    begun_tree_root (g.R.Read.remaining c.args.input.now) c.args.edition p c.as_bytes.result.now _ _ of_file
    (c.as_bytes.ensures.value ∙ c.in_ok-line.ensures ∙ ap (λ (d : Digest). digest_line d.0) c.root.ensures ∙ ap digest_line held.root)
    c.write_whole.ensures.begun
