use Rattle.std.proofs.Common.{Err, ap, ◌∙◌}
use Rattle.osm_commands.proofs.AskLemmas.{trees_held}
use Rattle.osm_commands.proofs.TreeLemmas.{explained_unheld, made_in, outside_unheld, outside_unmade}
use Rattle.osm_commands.proofs.snapshot_reader.read_snapshot.Goals as goal

pub returns-in_err-set-clause-only : goal.returns-in_err-set-clause-only
returns-in_err-set-clause-only g c =
    outside_unheld (g.R.Read.remaining c.args.input.now) c.args.edition c.in_err-set.field-0.0 c.from_residual.result c.from_residual.ensures.1 c.in_err-set.ensures.only

pub returns-in_err-set-clause-refused : goal.returns-in_err-set-clause-refused
returns-in_err-set-clause-refused g c =
    explained_unheld (g.R.Read.remaining c.args.input.now) _ c.args.edition c.in_err-set.field-0.0 c.from_residual.result c.from_residual.ensures.1 c.in_err-set.ensures.refused

pub returns-in_err-build_watched-clause-only : goal.returns-in_err-build_watched-clause-only
returns-in_err-build_watched-clause-only g c =
    outside_unmade (g.R.Read.remaining c.args.input.now) c.in_ok-set.set c.args.edition c.in_err-build_watched.field-0.0 c.from_residual-in_err-build_watched.result
    c.from_residual-in_err-build_watched.ensures.1 c.in_ok-set.ensures.only
    (λ e. c.in_err-build_watched.ensures.too_many (ap Err e)) (λ e. c.in_err-build_watched.ensures.clash (ap Err e))

pub returns-clause-made : goal.returns-clause-made
returns-clause-made g c =
    let (p, held, objects, edition) = c.in_ok-build_watched.ensures.made in
    (p, held, made_in (g.R.Read.remaining c.args.input.now) c.in_ok-set.set c.args.edition p c.in_ok-set.ensures.read (record { published = held.is.published; same_objects = objects; same_edition = held.is.same_edition ∙ edition }))

pub returns-clause-trees : goal.returns-clause-trees
returns-clause-trees g c =
    let known = g.R.Read.remaining c.args.input.now in
    let (p, held, objects, edition) = c.in_ok-build_watched.ensures.made in
    trees_held known c.args.edition c.in_ok-build_watched.field-0 p held
    (made_in known c.in_ok-set.set c.args.edition p c.in_ok-set.ensures.read (record { published = held.is.published; same_objects = objects; same_edition = held.is.same_edition ∙ edition }))
