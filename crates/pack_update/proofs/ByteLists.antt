-- Those of a list that consist of bytes.
use Rattle.std.proofs.Common.{◌≡◌, ◌⊎◌, inl, inr, ℕ, zero, suc, List, [], ◌∷◌, Bool, true, false, cond, ltb, refl, sym, subst, ◌∙◌, arith}
use Rattle.std.specs.List.{Contains}
use Rattle.std.proofs.lemmas.Bool.{lt-ltb, ltb-true}
use Rattle.tree_node.specs.Nodes.{AreBytes}
use Rattle.osm_keys.proofs.shared.Members.{first_or_in_rest, here, in_rest, none}

abbrev pub are_bytes : List ℕ → Bool
are_bytes [] = true
are_bytes (b ∷ bs) = cond (ltb b 256) (are_bytes bs) false

-- bytes pass the test
bytes_pass : (text : List ℕ) → AreBytes text → are_bytes text ≡ true
bytes_pass [] bytes = refl
bytes_pass (b ∷ bs) bytes = subst (λ (t : Bool). cond t (are_bytes bs) false ≡ true) (sym (lt-ltb b 256 (bytes 0))) (bytes_pass bs (λ i. bytes (suc i)))

-- and nothing else does
pass_bytes : (text : List ℕ) → are_bytes text ≡ true → AreBytes text
pass_bytes [] passes = λ i. omega arith
pass_bytes (b ∷ bs) passes = by (pass_bytes bs) (ltb b 256) refl passes
  where
    by : (are_bytes bs ≡ true → AreBytes bs) → (t : Bool) → ltb b 256 ≡ t → cond t (are_bytes bs) false ≡ true → AreBytes (b ∷ bs)
    by rest true is more zero = ltb-true b 256 is
    by rest true is more (suc i) = rest more i
    by rest false is more i = absurd (Prim.cc)

abbrev pub only_bytes : List (List ℕ) → List (List ℕ)
only_bytes [] = []
only_bytes (first ∷ texts) = cond (are_bytes first) (first ∷ only_bytes texts) (only_bytes texts)

pub bytes_stay : (texts : List (List ℕ)) (text : List ℕ) → Contains texts text → AreBytes text → Contains (only_bytes texts) text
bytes_stay [] text has bytes = absurd (none text has)
bytes_stay (first ∷ texts) text has bytes = by (λ more. bytes_stay texts text more bytes) (are_bytes first) refl (first_or_in_rest first texts text has)
  where
    by : (Contains texts text → Contains (only_bytes texts) text) → (t : Bool) → are_bytes first ≡ t → (first ≡ text) ⊎ Contains texts text
        → Contains (cond t (first ∷ only_bytes texts) (only_bytes texts)) text
    by rest true is (inl at) = subst (Contains (first ∷ only_bytes texts)) at (here first (only_bytes texts))
    by rest true is (inr more) = in_rest first (only_bytes texts) text (rest more)
    by rest false is (inl at) = absurd (let wrong : true ≡ false = sym (bytes_pass first (subst AreBytes (sym at) bytes)) ∙ is in Prim.cc)
    by rest false is (inr more) = rest more

pub stay_bytes : (texts : List (List ℕ)) (text : List ℕ) → Contains (only_bytes texts) text → AreBytes text
stay_bytes [] text has = absurd (none text has)
stay_bytes (first ∷ texts) text has = by (stay_bytes texts text) (are_bytes first) refl has
  where
    by : (Contains (only_bytes texts) text → AreBytes text) → (t : Bool) → are_bytes first ≡ t → Contains (cond t (first ∷ only_bytes texts) (only_bytes texts)) text → AreBytes text
    by rest true is found = elim (first_or_in_rest first (only_bytes texts) text found) [ inl at ↦ subst AreBytes at (pass_bytes first is) | inr more ↦ rest more ]
    by rest false is found = rest found
