-- A query has one proof at most.
use Rattle.std.proofs.Common.{◌≡◌, ℕ, List, ap, sym, ◌∙◌}
use Rattle.osm_keys.specs.Publications.{Publication}
use Rattle.ql_syntax.specs.Statements.{Statements}
use Rattle.osm_prove.specs.Proofs.{listing}
use Rattle.osm_prove.specs.Proved.{IsProofOf}
use Rattle.osm_prove.proofs.shared.NodeOrder.{one_order}

-- a query has one proof at most over a publication
pub one_proof : (p : Publication) (statements : Statements) (first second : List ℕ) → IsProofOf p statements first → IsProofOf p statements second → first ≡ second
one_proof p statements first second is is_too =
    let same = one_order is.nodes is_too.nodes is.rising is_too.rising
    (λ x has. (is_too.needed x).1 ((is.needed x).0 has))
    (λ x has. (is.needed x).1 ((is_too.needed x).0 has)) in
    is.lists.spelled ∙ ap listing same ∙ sym is_too.lists.spelled
