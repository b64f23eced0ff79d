-- Spans in tables.
use Rattle.std.proofs.Common.{◌≡◌, ◌∙◌, ℕ, suc, ◌/◌, ◌<◌, ◌≤◌, List, [], ◌∷◌, ◌++◌, append_assoc, ap, arith, drop, length, length-drop}
use Rattle.osm_query_web.specs.Spans.{first_span, spans_from, spans_in}

-- a table that is too short for a span lists none
pub spans_in-short : (table : List ℕ) → length table < 16 → spans_in table ≡ []
unfolding spans_in
spans_in-short table short =
    let none : length table / 16 ≡ 0 = omega arith in ap (λ (n : ℕ). spans_from n table) none

-- a longer one lists the first, and then those after it
pub spans_in-long : (table : List ℕ) → 16 ≤ length table → spans_in table ≡ first_span table ∷ spans_in (drop 16 table)
unfolding spans_in
spans_in-long table long =
    let some : length table / 16 ≡ suc (length (drop 16 table) / 16) = omega (arith, length-drop 16 table) in ap (λ (n : ℕ). spans_from n table) some

-- two parts that are appended one after the other
pub put_two : (old mid new a b : List ℕ) → mid ≡ old ++ a → new ≡ mid ++ b → new ≡ old ++ (a ++ b)
put_two old mid new a b first second = second ∙ ap (λ (l : List ℕ). l ++ b) first ∙ append_assoc old a b
