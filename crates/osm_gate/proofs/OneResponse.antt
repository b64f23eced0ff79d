-- Requests have one text of responses at most over a publication.
use Rattle.std.proofs.Common.{◌≡◌, ◌∙◌, ℕ, Bool, true, false, List, [], ◌∷◌, ◌++◌, ap, inl, inr, sym, subst}
use Rattle.std.specs.Prelude.{Option, Some, None}
use Rattle.osm_keys.specs.Publications.{IsPublication, Publication, root_of}
use Rattle.osm_prove.specs.Proved.{IsAnswer, IsProofOf, IsProved}
use Rattle.osm_prove.proofs.shared.ProofLaws.{one_proof}
use Rattle.ql_meaning.specs.Meanings.{Means}
use Rattle.ql_meaning.proofs.shared.Laws.{one_meaning}
use Rattle.ql_syntax.specs.Statements.{Statements}
use Rattle.ql_syntax.specs.declared.fault.QlFault.{QlFault}
use Rattle.ql_syntax.proofs.shared.QueryLaws.{one_fault, one_query, reads_or_not}
use Rattle.osm_gate.specs.Connections.{RespondsToOneOn, RespondsOn}
use Rattle.http_messages.specs.Forms.{query_of}
use Rattle.http_messages.specs.Requests.{Asked, Request, asked, refused}
use Rattle.http_messages.specs.ResponseTexts.{Response, response_text}
use Rattle.osm_gate.specs.Responses.{ByMethodOn, ByQueryOn, ByRouteOn, GivesAt, GivesWithin, IsResponseOn, TellsFault, checked_body, ends, fault_text, ok_response, refusal}
use Rattle.http_messages.specs.Methods.{method_of}
use Rattle.osm_gate.specs.Routes.{route_of}
use Rattle.osm_gate.specs.Terms.{within}
use Rattle.http_messages.specs.Targets.{path_of}
use Rattle.osm_gate.specs.declared.endpoint.Endpoint.{Endpoint}
use Rattle.osm_gate.specs.declared.endpoint.Endpoint.TheVariants.{Answer, AnswerWithProof}
use Rattle.http_messages.specs.declared.method.Method.{Method}
use Rattle.http_messages.specs.declared.method.Method.TheVariants.{Get, Other, Post}
use Rattle.http_messages.specs.declared.query_text.QuerySource.TheVariants.{Body, Target}
use Rattle.osm_gate.specs.declared.reply.Reply.{Reply}
use Rattle.osm_gate.specs.declared.route.Route.{Route}
use Rattle.osm_gate.specs.declared.route.Route.TheVariants.{Query, Root}

module _ (most : Option ℕ) (p : Publication) (is : IsPublication p) where
  same_answer : (query a b x y : List ℕ) → IsProved p query a x → IsProved p query b y → (a ≡ b) × (x ≡ y)
  same_answer query a b x y first second =
      let same = one_query query first.statements second.statements first.reads second.reads in (
        one_meaning p.objects second.statements a b is.set (subst (λ (s : Statements). Means p.objects s a) same first.means) second.means,
        one_proof p second.statements x y (subst (λ (s : Statements). IsProofOf p s x) same first.proof_is) second.proof_is,
      )

  one_answer : (query a b : List ℕ) → IsAnswer p query a → IsAnswer p query b → a ≡ b
  one_answer query a b first second =
      let same = one_query query first.statements second.statements first.reads second.reads in
      one_meaning p.objects second.statements a b is.set (subst (λ (s : Statements). Means p.objects s a) same first.means) second.means

  one_given : (endpoint : Endpoint) (closes : Bool) (query : List ℕ) (r s : Response)
      → GivesAt endpoint closes p query r → GivesAt endpoint closes p query s → r ≡ s
  one_given Answer closes query r s (a, first, same) (b, second, same_too) =
      same ∙ ap (ok_response closes (root_of p) false) (one_answer query a b first second) ∙ sym same_too
  one_given AnswerWithProof closes query r s (a, x, first, same) (b, y, second, same_too) =
      let (answers, proofs) = same_answer query a b x y first second in
      same ∙ (λ i. ok_response closes (root_of p) true (checked_body (root_of p) (answers i) (proofs i))) ∙ sym same_too

  -- what has an answer has no fault
  no_fault : (endpoint : Endpoint) (closes : Bool) (query : List ℕ) (r s : Response) → GivesAt endpoint closes p query r → TellsFault closes query s → ⊥
  no_fault Answer closes query r s (answer, is, same) (fault, has, same_too) = reads_or_not query is.statements fault is.reads has
  no_fault AnswerWithProof closes query r s (answer, proof, is, same) (fault, has, same_too) = reads_or_not query is.statements fault is.reads has

  -- and what is within a budget isn't too much
  one_within : (budget : Option ℕ) (endpoint : Endpoint) (closes : Bool) (query : List ℕ) (r s : Response)
      → GivesWithin budget endpoint closes p query r → GivesWithin budget endpoint closes p query s → r ≡ s
  one_within None endpoint closes query r s first second = one_given endpoint closes query r s first second
  one_within (Some budget) endpoint closes query r s (inl (first, fits)) (inl (second, fits_too)) = one_given endpoint closes query r s first second
  one_within (Some budget) endpoint closes query r s (inl (first, (n, work, fits))) (inr (statements, reads, much, same)) = absurd (fits (much n work))
  one_within (Some budget) endpoint closes query r s (inr (statements, reads, much, same)) (inl (second, (n, work, fits))) = absurd (fits (much n work))
  one_within (Some budget) endpoint closes query r s (inr (statements, reads, much, same)) (inr (others, read, more, same_too)) = same ∙ sym same_too

  within_no_fault : (budget : Option ℕ) (endpoint : Endpoint) (closes : Bool) (query : List ℕ) (r s : Response)
      → GivesWithin budget endpoint closes p query r → TellsFault closes query s → ⊥
  within_no_fault None endpoint closes query r s gives tells = no_fault endpoint closes query r s gives tells
  within_no_fault (Some budget) endpoint closes query r s (inl (gives, fits)) tells = no_fault endpoint closes query r s gives tells
  within_no_fault (Some budget) endpoint closes query r s (inr (statements, reads, much, same)) (fault, has, same_too) = reads_or_not query statements fault reads has

  one_by_query : (reply : Reply) (query : Option (List ℕ)) (r s : Response)
      → ByQueryOn (within most) reply p query r → ByQueryOn (within most) reply p query s → r ≡ s
  one_by_query reply None r s first second = first ∙ sym second
  one_by_query reply (Some query) r s (inl (fault, has, same)) (inl (other, has_too, same_too)) =
      same ∙ ap (λ (f : QlFault). refusal reply.closes 400 (fault_text f)) (one_fault query fault other has has_too) ∙ sym same_too
  one_by_query reply (Some query) r s (inl tells) (inr gives) = absurd (within_no_fault most reply.endpoint reply.closes query s r gives tells)
  one_by_query reply (Some query) r s (inr gives) (inl tells) = absurd (within_no_fault most reply.endpoint reply.closes query r s gives tells)
  one_by_query reply (Some query) r s (inr first) (inr second) = one_within most reply.endpoint reply.closes query r s first second

  one_by_method : (reply : Reply) (a : Asked) (method : Method) (r s : Response)
      → ByMethodOn (within most) reply p a method r → ByMethodOn (within most) reply p a method s → r ≡ s
  one_by_method reply a Get r s first second = one_by_query reply (query_of Target a) r s first second
  one_by_method reply a Post r s first second = one_by_query reply (query_of Body a) r s first second
  one_by_method reply a Other r s first second = first ∙ sym second

  one_by_route : (closes : Bool) (a : Asked) (route : Option Route) (r s : Response)
      → ByRouteOn (within most) closes p a route r → ByRouteOn (within most) closes p a route s → r ≡ s
  one_by_route closes a None r s first second = first ∙ sym second
  one_by_route closes a (Some (Query endpoint)) r s first second =
      one_by_method (record { endpoint = endpoint; closes = closes }) a (method_of a.method) r s first second
  one_by_route closes a (Some Root) r s first second = first ∙ sym second

  one_to_asked : (a : Asked) (r s : Response) → IsResponseOn (within most) p a r → IsResponseOn (within most) p a s → r ≡ s
  unfolding IsResponseOn
  one_to_asked a r s first second = one_by_route (ends a) a (route_of (path_of a.target)) r s first second

  one_to_request : (request : Request) (x y : List ℕ) → RespondsToOneOn (within most) p request x → RespondsToOneOn (within most) p request y → x ≡ y
  one_to_request (refused refusal) x y first second = first ∙ sym second
  one_to_request (asked a) x y (r, first, text) (s, second, other) =
      text ∙ ap response_text (one_to_asked a r s first second) ∙ sym other

  pub one_response : (requests : List Request) (x y : List ℕ) → RespondsOn (within most) p requests x → RespondsOn (within most) p requests y → x ≡ y
  one_response [] x y first second = first ∙ sym second
  one_response (request ∷ requests) x y (a, b, one, more, whole) (c, d, one_too, more_too, whole_too) =
      whole ∙ (λ i. one_to_request request a c one one_too i ++ one_response requests b d more more_too i) ∙ sym whole_too
