-- Nodes of ways: where their ids end.
use Rattle.std.proofs.Common.{◌≡◌, ◌≢◌, ℕ, ◌<◌, ◌≤◌, ℤ, List, [], ◌∷◌, ◌++◌, Bool, true, false, ◌==◌, Option, Some, None, MatchOption, refl, sym, ◌∙◌, ap, subst, arith}
use Rattle.std.specs.Char.{digit_value}
use Rattle.std.specs.Str.Parse.{AllDigits}
use Rattle.std.specs.Prelude.{IsTrue, ◌↔◌, is_some}
use Rattle.std.proofs.lemmas.Bool.{eqb-true}
use Rattle.std.proofs.lemmas.Bool.Decides.{nat_tests}
use Rattle.osm_model.specs.Degrees.{sign, IsDigits}
use Rattle.osm_model.specs.Letters.{longitude_letter, node_letter}
use Rattle.byte_io.specs.Pieces.{Lacks}
use Rattle.opl_codec.specs.Fields.{IsInteger}
use Rattle.opl_codec.specs.Values.{SpellsNode, SpellsNumber}
use Rattle.opl_codec.specs.ValueFaults.{IsLocated}

differs : (x c : ℕ) → (x ≡ c → ⊥) → (x == c) ≡ false
differs x c other = elim (x == c) as (λ b. (x == c) ≡ b → b ≡ false) [ true ↦ λ e. absurd (other (eqb-true x c e)) | false ↦ λ e. refl ] refl

digits_lack : (c : ℕ) (digits : List ℕ) → 10 ≤ digit_value c → AllDigits 10 digits → Lacks c digits
digits_lack c [] far all = tt
digits_lack c (x ∷ digits) far all =
    let small : digit_value x < 10 = all.0 in
    (differs x c (λ e. omega (arith, ap digit_value e)), digits_lack c digits far all.1)

-- a byte that is neither a digit nor a sign isn't in a number
pub number_lacks : (c : ℕ) (text : List ℕ) (z : ℤ) → 10 ≤ digit_value c → c ≢ 45 → IsInteger text z → Lacks c text
number_lacks c text z far other h = subst (Lacks c) (sym h.text_is) (after_sign h.negative h.digits h.digits_are)
  where
    after_sign : (negative : Bool) (digits : List ℕ) → IsDigits digits → Lacks c (sign negative ++ digits)
    after_sign true digits is = (differs 45 c (λ e. other (sym e)), digits_lack c digits far is.1)
    after_sign false digits is = digits_lack c digits far is.1

no_itself : (c : ℕ) → (c == c) ≡ false → ⊥
no_itself c e = let yes : (c == c) ≡ true = grind (arith, nat_tests) in cc

-- texts that are cut at their first such byte are cut alike
pub same_cut : (c : ℕ) (p q r s : List ℕ) → Lacks c p → Lacks c q → p ++ c ∷ r ≡ q ++ c ∷ s → (p ≡ q) × (r ≡ s)
same_cut c [] [] r s lack_p lack_q e = let rest : r ≡ s = cc in (refl, rest)
same_cut c [] (y ∷ q) r s lack_p lack_q e = let here : c ≡ y = cc in absurd (no_itself c (subst (λ x. (x == c) ≡ false) (sym here) lack_q.0))
same_cut c (x ∷ p) [] r s lack_p lack_q e = let here : x ≡ c = cc in absurd (no_itself c (subst (λ x. (x == c) ≡ false) here lack_p.0))
same_cut c (x ∷ p) (y ∷ q) r s lack_p lack_q e =
    let here : x ≡ y = cc in
    let rest : p ++ c ∷ r ≡ q ++ c ∷ s = cc in
    let more = same_cut c p q r s lack_p.1 lack_q.1 rest in
    let front = more.0 in
    (cc, more.1)

-- and a text without it isn't cut
pub no_cut : (c : ℕ) (text q s : List ℕ) → Lacks c text → text ≡ q ++ c ∷ s → ⊥
no_cut c [] [] s lack e = cc
no_cut c [] (y ∷ q) s lack e = cc
no_cut c (x ∷ text) [] s lack e = let here : x ≡ c = cc in no_itself c (subst (λ x. (x == c) ≡ false) here lack.0)
no_cut c (x ∷ text) (y ∷ q) s lack e = let rest : text ≡ q ++ c ∷ s = cc in no_cut c text q s lack.1 rest

-- ---- an id, and what comes after it
id_lacks : (digits : List ℕ) (id : ℤ) → SpellsNumber digits id → Lacks longitude_letter digits
id_lacks digits id h = number_lacks longitude_letter digits id (omega arith) (λ e. omega (arith, e)) h.0

pub located : (text digits rest : List ℕ) (id : ℤ) → text ≡ digits ++ longitude_letter ∷ rest → SpellsNumber digits id → IsLocated (node_letter ∷ text)
located text digits rest id is spells = (digits, rest, id, ap (λ t. node_letter ∷ t) is, spells)

pub not_located : (text digits rest : List ℕ) → text ≡ digits ++ longitude_letter ∷ rest → Lacks longitude_letter digits → ((z : ℤ) → SpellsNumber digits z → ⊥) → IsLocated (node_letter ∷ text) → ⊥
not_located text digits rest is lack none h =
    let tails : text ≡ h.0 ++ longitude_letter ∷ h.1 = let e = h.3 in cc in
    let same = same_cut longitude_letter digits h.0 rest h.1 lack (id_lacks h.0 h.2 h.4) (sym is ∙ tails) in
    none h.2 (subst (λ d. SpellsNumber d h.2) (sym same.0) h.4)

pub never_located : (text : List ℕ) → Lacks longitude_letter text → IsLocated (node_letter ∷ text) → ⊥
never_located text lack h = let tails : text ≡ h.0 ++ longitude_letter ∷ h.1 = let e = h.3 in cc in no_cut longitude_letter text h.0 h.1 lack tails

-- what is no node
pub no_node : (text : List ℕ) → ((z : ℤ) → SpellsNumber text z → ⊥) → (id : ℤ) → SpellsNode (node_letter ∷ text) id → ⊥
no_node text none id h = let parts = h.parts in let same : text ≡ h.digits = cc in none id (subst (λ d. SpellsNumber d id) (sym same) h.id_is)

-- whether an id stands before the first `x`
pub located_test : (text digits rest : List ℕ) (r : Option ℤ) (b : Bool) → text ≡ digits ++ longitude_letter ∷ rest → Lacks longitude_letter digits → MatchOption r ((z : ℤ) → SpellsNumber digits z → ⊥) (λ z. SpellsNumber digits z)
    → b ≡ is_some r → IsTrue b ↔ IsLocated (node_letter ∷ text)
located_test text digits rest None b is lack none e = (λ yes. absurd (let no = e in cc), λ h. absurd (not_located text digits rest is lack none h))
located_test text digits rest (Some id) b is lack spells e = (λ yes. located text digits rest id is spells, λ h. e)
