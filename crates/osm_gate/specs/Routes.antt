-- Where the target of a request leads.
-- Source: RFC 9112, section 3.2; the paths are this project's. What a path matches is matchit's.
use Rattle.std.specs.Prelude.{ℕ, List, [], ◌∷◌, Option, None, option_map, if◌then◌else◌, codes}
use Rattle.std.specs.Str.{is_utf8}
use Rattle.matchit.specs.Router.{RouteOf}
use Rattle.matchit.specs.Rows.{RowsOf}
use Rattle.matchit.specs.Seek.{first}
use Rattle.osm_gate.specs.declared.route.Route.{Route}
use Rattle.osm_gate.specs.declared.endpoint.Endpoint.TheVariants.{Answer, AnswerWithProof}
use Rattle.osm_gate.specs.declared.route.Route.TheVariants.{Query, Root}

-- a route without parameters
abbrev pub plain_route : List ℕ → Route → List ℕ × RouteOf Route
plain_route text leads = (text, record { pattern = text; text = text; names = []; value = leads })

-- the routes, in the order in which the router keeps them
abbrev pub route_rows : RowsOf (RouteOf Route)
route_rows =
    plain_route (codes "/api/checked") (Query AnswerWithProof) ∷ plain_route (codes "/api/interpreter") (Query Answer)
    ∷ plain_route (codes "/api/root") Root ∷ []

unfoldable pub route_of : List ℕ → Option Route
route_of path = if is_utf8 path then option_map (λ route. route.value) (first route_rows path) else None
