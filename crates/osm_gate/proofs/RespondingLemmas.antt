-- Responses to some requests and then to others.
use Rattle.std.proofs.Common.{◌≡◌, ◌∙◌, ℕ, List, [], ◌∷◌, ◌++◌, ap, sym, refl, append_assoc, append-nil}
use Rattle.osm_keys.specs.Publications.{Publication}
use Rattle.osm_gate.specs.Connections.{RespondsToOneOn, RespondsOn}
use Rattle.http_messages.specs.Requests.{Request}
use Rattle.osm_gate.specs.Terms.{Terms}

module _ (terms : Terms) (p : Publication) where
  pub responds-append : (xs ys : List Request) (a b : List ℕ) → RespondsOn terms p xs a → RespondsOn terms p ys b → RespondsOn terms p (xs ++ ys) (a ++ b)
  responds-append [] ys a b nothing later = rw nothing later
  responds-append (x ∷ xs) ys a b (first, rest, is, more, whole) later =
      (first, rest ++ b, is, responds-append xs ys rest b more later, ap (λ (t : List ℕ). t ++ b) whole ∙ append_assoc first rest b)

  pub responds-one : (request : Request) (text : List ℕ) → RespondsToOneOn terms p request text → RespondsOn terms p (request ∷ []) text
  responds-one request text is = (text, [], is, refl, sym (append-nil text))

  pub responds-split : (xs ys : List Request) (text : List ℕ) → RespondsOn terms p (xs ++ ys) text
      → (a : List ℕ) × (b : List ℕ) × RespondsOn terms p xs a × RespondsOn terms p ys b × (text ≡ a ++ b)
  responds-split [] ys text responds = ([], text, refl, responds, refl)
  responds-split (x ∷ xs) ys text (first, later, is, more, whole) =
      let (a, b, one, two, parts) = responds-split xs ys later more in
      (first ++ a, b, (first, a, is, one, refl), two, whole ∙ ap (λ (t : List ℕ). first ++ t) parts ∙ sym (append_assoc first a b))
