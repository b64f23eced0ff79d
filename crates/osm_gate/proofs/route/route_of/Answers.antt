use Rattle.std.proofs.Common.{◌∙◌}
use Rattle.osm_gate.proofs.RouteLemmas.{route-none, route-found}
use Rattle.osm_gate.proofs.route.route_of.Goals as goal

pub returns-in_default : goal.returns-in_default
returns-in_default c = route-none c.args.path.now c.in_default.ensures.cases.0

pub returns : goal.returns
returns c = c.route_at.ensures ∙ route-found c.args.router.now c.in-Ok.text.now c.args.path.now c.requires c.in-Ok.ensures.cases.0 c.in-Ok.ensures.cases.1
