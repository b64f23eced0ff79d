-- What stands after commas in a document.
use Rattle.std.proofs.Common.{◌≡◌, ℕ, List, [], ◌∷◌, ◌++◌, drop, flat_map, refl, ap, append-nil}
use Rattle.osm_model.specs.Bytes.{comma, line_feed}
use Rattle.osm_forms.specs.Documents.{with_commas}

-- texts, each after a comma and a line feed, without the first comma and line feed, are the texts with these between two
pub commas_between : (texts : List (List ℕ)) → drop 2 (flat_map (λ text. comma ∷ (line_feed ∷ text)) texts) ≡ with_commas texts
commas_between [] = refl
commas_between (text ∷ texts) = rest_of text texts
  where
    rest_of : (text : List ℕ) (texts : List (List ℕ)) → text ++ flat_map (λ next. comma ∷ (line_feed ∷ next)) texts ≡ with_commas (text ∷ texts)
    rest_of text [] = append-nil text
    rest_of text (next ∷ texts) = ap (λ (rest : List ℕ). text ++ (comma ∷ (line_feed ∷ rest))) (rest_of next texts)
