use Rattle.std.proofs.Common.{◌≡◌, ◌∙◌, ap, refl, codes, [], ◌∷◌}
use Rattle.matchit.proofs.OnLiterals.{matchit_on_literals}
use Rattle.matchit.specs.Order.{placed}
use Rattle.matchit.specs.Rows.{RowsOf}
use Rattle.matchit.specs.Router.{RouteOf}
use Rattle.osm_gate.specs.Routes.{plain_route}
use Rattle.osm_gate.specs.declared.route.Route.{Route}
use Rattle.osm_gate.specs.declared.endpoint.Endpoint.TheVariants.{Answer, AnswerWithProof}
use Rattle.osm_gate.specs.declared.route.Route.TheVariants.{Query, Root}
use Rattle.osm_gate.proofs.RouteLemmas.{refused-memory}
use Rattle.osm_gate.proofs.route.routes.Goals as goal

pub returns-in-Err-clause-memory : goal.returns-in-Err-clause-memory
unfolding matchit_on_literals
returns-in-Err-clause-memory c =
    refused-memory (codes "/api/interpreter") c.new-router.result [] c.in-Err.first c.new-router.ensures refl c.in-Err.ensures.1

pub returns-in-Err-insert-clause-memory : goal.returns-in-Err-insert-clause-memory
unfolding matchit_on_literals
returns-in-Err-insert-clause-memory c =
    let one : RowsOf (RouteOf Route) = plain_route (codes "/api/interpreter") (Query Answer) ∷ [] in
    let rows : c.insert.new.self ≡ one = c.in_default.ensures.1 ∙ ap (placed (plain_route (codes "/api/interpreter") (Query Answer))) c.new-router.ensures in
    refused-memory (codes "/api/checked") c.insert.new.self one c.in-Err-insert.second rows refl c.in-Err-insert.ensures.1

pub returns-in-Err-insert-2-clause-memory : goal.returns-in-Err-insert-2-clause-memory
unfolding matchit_on_literals
returns-in-Err-insert-2-clause-memory c =
    let two : RowsOf (RouteOf Route) = plain_route (codes "/api/checked") (Query AnswerWithProof) ∷ plain_route (codes "/api/interpreter") (Query Answer) ∷ [] in
    let rows : c.insert-2.new.self ≡ two =
    c.in_default-insert.ensures.1 ∙ ap (placed (plain_route (codes "/api/checked") (Query AnswerWithProof))) (c.in_default.ensures.1
    ∙ ap (placed (plain_route (codes "/api/interpreter") (Query Answer))) c.new-router.ensures) in
    refused-memory (codes "/api/root") c.insert-2.new.self two c.in-Err-insert-2.third rows refl c.in-Err-insert-2.ensures.1

pub returns-clause-ok : goal.returns-clause-ok
unfolding matchit_on_literals
returns-clause-ok c =
    c.in_default-insert-2.ensures.1
    ∙ ap (placed (plain_route (codes "/api/root") Root)) (c.in_default-insert.ensures.1
    ∙ ap (placed (plain_route (codes "/api/checked") (Query AnswerWithProof))) (c.in_default.ensures.1
    ∙ ap (placed (plain_route (codes "/api/interpreter") (Query Answer))) c.new-router.ensures))
