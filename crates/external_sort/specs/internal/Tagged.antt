-- The records of runs in the order in which a merge gives them.
use Rattle.std.specs.Prelude.{◌≡◌, ℕ, ◌<◌, ◌≤◌, ◌++◌, cond, suc, List, [], ◌∷◌, map}
use Rattle.std.specs.List.{All}
use Rattle.std.specs.Ordering.{is_lt}
use Rattle.external_sort.specs.Records.{Entry}
use Rattle.external_sort.specs.internal.Merging.{Stands, Turn, number, of_run, place_cmp, turn}
use Rattle.external_sort.specs.declared.run_reader.RunReader.{RunReader}

-- the records of runs from number n on, run by run
abbrev pub tag : ℕ → List (List Entry) → List Turn
tag n [] = []
tag n (es ∷ kept) = map (λ e. turn e n) es ++ tag (suc n) kept

-- one more, before those that it doesn't come after
abbrev pub put : Turn → List Turn → List Turn
put t [] = t ∷ []
put t (u ∷ us) = cond (is_lt (place_cmp u t)) (u ∷ put t us) (t ∷ u ∷ us)

abbrev pub in_order : List Turn → List Turn
in_order [] = []
in_order (t ∷ ts) = put t (in_order ts)

unfoldable pub turns_of : List (List Entry) → List Turn
turns_of kept = in_order (tag 0 kept)

-- the first i runs have their readers
pub record UpTo (runs : List (List ℕ)) (kept : List (List Entry)) (i : ℕ) (rs : List RunReader) : Type 0 where
  pub at : All (Stands runs (turns_of kept)) rs
  pub once : (n : ℕ) → number n rs ≤ 1
  pub none : (n : ℕ) → n < i → number n rs ≡ 0 → of_run n (turns_of kept) ≡ []
  pub later : (n : ℕ) → i ≤ n → number n rs ≡ 0
