-- The root in a response.
use Rattle.std.proofs.Common.{◌≡◌, ◌∙◌, ℕ, Bool, false, true, List, ap, inl, inr, sym, arith}
use Rattle.std.specs.Prelude.{Option, Some, None}
use Rattle.http_messages.specs.Forms.{query_of}
use Rattle.http_messages.specs.Requests.{Asked}
use Rattle.http_messages.specs.ResponseTexts.{Response}
use Rattle.osm_gate.specs.Responses.{ByMethodOn, ByQueryOn, ByRouteOn, GivesAt, GivesWithin, IsResponseOn, OrFails, ends, root_by_method}
use Rattle.http_messages.specs.Methods.{method_of}
use Rattle.osm_gate.specs.Routes.{route_of}
use Rattle.osm_gate.specs.Terms.{Terms}
use Rattle.http_messages.specs.Targets.{path_of}
use Rattle.osm_gate.specs.declared.endpoint.Endpoint.{Endpoint}
use Rattle.osm_gate.specs.declared.endpoint.Endpoint.TheVariants.{Answer, AnswerWithProof}
use Rattle.http_messages.specs.declared.method.Method.{Method}
use Rattle.http_messages.specs.declared.method.Method.TheVariants.{Get, Other, Post}
use Rattle.http_messages.specs.declared.query_text.QuerySource.TheVariants.{Body, Target}
use Rattle.osm_gate.specs.declared.reply.Reply.{Reply}
use Rattle.osm_gate.specs.declared.route.Route.{Route}
use Rattle.osm_gate.specs.declared.route.Route.TheVariants.{Query, Root}
use Rattle.osm_keys.specs.Publications.{Publication, root_of}

other-status : (r : Response) (n : ℕ) (root : List ℕ) → r.head.status ≡ n → (n ≡ 200 → ⊥) → r.head.status ≡ 200 → r.head.root ≡ Some root
other-status r n root is apart ok = absurd (apart (sym is ∙ ok))

given-root : (endpoint : Endpoint) (closes : Bool) (p : Publication) (query : List ℕ) (r : Response) → GivesAt endpoint closes p query r → r.head.root ≡ Some (root_of p)
given-root Answer closes p query r (answer, is_answer, is) = ap (λ (r : Response). r.head.root) is
given-root AnswerWithProof closes p query r (answer, proof, is_proved, is) = ap (λ (r : Response). r.head.root) is

within-root : (most : Option ℕ) (endpoint : Endpoint) (closes : Bool) (p : Publication) (query : List ℕ) (r : Response) → GivesWithin most endpoint closes p query r
    → r.head.status ≡ 200 → r.head.root ≡ Some (root_of p)
within-root None endpoint closes p query r gives ok = given-root endpoint closes p query r gives
within-root (Some most) endpoint closes p query r (inl (gives, fits)) ok = given-root endpoint closes p query r gives
within-root (Some most) endpoint closes p query r (inr (statements, reads, much, is)) ok =
    other-status r 503 (root_of p) (ap (λ (r : Response). r.head.status) is) (λ e. omega arith) ok

or-fails-root : (fails closes : Bool) (p : Publication) (query : List ℕ) (r : Response) (Given : Type 0)
    → (Given → r.head.status ≡ 200 → r.head.root ≡ Some (root_of p))
    → OrFails fails closes query r Given → r.head.status ≡ 200 → r.head.root ≡ Some (root_of p)
or-fails-root false closes p query r Given root given ok = root given ok
or-fails-root true closes p query r Given root (inl given) ok = root given ok
or-fails-root true closes p query r Given root (inr (statements, reads, is)) ok =
    other-status r 500 (root_of p) (ap (λ (r : Response). r.head.status) is) (λ e. omega arith) ok

query-root : (terms : Terms) (reply : Reply) (p : Publication) (q : Option (List ℕ)) (r : Response) → ByQueryOn terms reply p q r → r.head.status ≡ 200 → r.head.root ≡ Some (root_of p)
query-root terms reply p None r is ok = other-status r 400 (root_of p) (ap (λ (r : Response). r.head.status) is) (λ e. omega arith) ok
query-root terms reply p (Some query) r (inl (fault, has, is)) ok = other-status r 400 (root_of p) (ap (λ (r : Response). r.head.status) is) (λ e. omega arith) ok
query-root terms reply p (Some query) r (inr gives) ok =
    or-fails-root terms.may_fail reply.closes p query r (GivesWithin terms.most reply.endpoint reply.closes p query r)
    (within-root terms.most reply.endpoint reply.closes p query r) gives ok

method-root : (terms : Terms) (reply : Reply) (p : Publication) (a : Asked) (m : Method) (r : Response) → ByMethodOn terms reply p a m r → r.head.status ≡ 200 → r.head.root ≡ Some (root_of p)
method-root terms reply p a Get r is ok = query-root terms reply p (query_of Target a) r is ok
method-root terms reply p a Post r is ok = query-root terms reply p (query_of Body a) r is ok
method-root terms reply p a Other r is ok = other-status r 405 (root_of p) (ap (λ (r : Response). r.head.status) is) (λ e. omega arith) ok

root-root : (closes : Bool) (root : List ℕ) (m : Method) (r : Response) → r ≡ root_by_method closes root m → r.head.status ≡ 200 → r.head.root ≡ Some root
root-root closes root Get r is ok = ap (λ (r : Response). r.head.root) is
root-root closes root Post r is ok = other-status r 405 root (ap (λ (r : Response). r.head.status) is) (λ e. omega arith) ok
root-root closes root Other r is ok = other-status r 405 root (ap (λ (r : Response). r.head.status) is) (λ e. omega arith) ok

route-root : (terms : Terms) (closes : Bool) (p : Publication) (a : Asked) (route : Option Route) (r : Response) → ByRouteOn terms closes p a route r → r.head.status ≡ 200 → r.head.root ≡ Some (root_of p)
route-root terms closes p a None r is ok = other-status r 404 (root_of p) (ap (λ (r : Response). r.head.status) is) (λ e. omega arith) ok
route-root terms closes p a (Some (Query endpoint)) r is ok =
    method-root terms (record { endpoint = endpoint; closes = closes }) p a (method_of a.method) r is ok
route-root terms closes p a (Some Root) r is ok = root-root closes (root_of p) (method_of a.method) r is ok

pub success_root : (terms : Terms) (p : Publication) (a : Asked) (r : Response) → IsResponseOn terms p a r → r.head.status ≡ 200 → r.head.root ≡ Some (root_of p)
unfolding IsResponseOn
success_root terms p a r is ok = route-root terms (ends a) p a (route_of (path_of a.target)) r is ok
