-- The lines that say something, and the objects that they put.
use Rattle.std.proofs.Common.{◌≡◌, ℕ, List, [], ◌∷◌, ◌++◌, true, false, not, if◌then◌else◌, refl, ◌∙◌, ap, append-nil}
use Rattle.std.proofs.lemmas.List.Elements.{filter-append}
use Rattle.std.specs.List.{AllByRecursion}
use Rattle.opl_codec.specs.Files.{without_skipped}
use Rattle.opl_codec.specs.LineChanges.{is_skipped, IsSkipped, Spells}
use Rattle.opl_codec.specs.declared.change.Change.{Change}
use Rattle.opl_codec.proofs.LongLines.{empty_is_skipped}
use Rattle.opl_codec.proofs.shared.OneChange.{skipped_says_nothing}

pub unskipped_lines-append : (xs ys : List (List ℕ)) → without_skipped (xs ++ ys) ≡ without_skipped xs ++ without_skipped ys
unskipped_lines-append xs ys = filter-append (λ line. not (is_skipped line)) xs ys

-- a line that isn't skipped comes first
pub unskipped_lines-unskipped : (line : List ℕ) (lines : List (List ℕ)) → (IsSkipped line → ⊥) → without_skipped (line ∷ lines) ≡ line ∷ without_skipped lines
unskipped_lines-unskipped line lines some = elim (is_skipped line) as (λ b. is_skipped line ≡ b → (if not b then line ∷ without_skipped lines else without_skipped lines) ≡ line ∷ without_skipped lines) [
  | true ↦ λ same. absurd (some same)
  | false ↦ λ _. refl
] refl

-- nor is a line that says something
pub unskipped : (line : List ℕ) (change : Change) → Spells line change → IsSkipped line → ⊥
unskipped line change says none = skipped_says_nothing line change none says

unskipped_lines-skipped : (line : List ℕ) (lines : List (List ℕ)) → IsSkipped line → without_skipped (line ∷ lines) ≡ without_skipped lines
unskipped_lines-skipped line lines none = ap (λ b. if not b then line ∷ without_skipped lines else without_skipped lines) none

-- skipped lines alone
pub unskipped_lines-none : (lines : List (List ℕ)) → AllByRecursion IsSkipped lines → without_skipped lines ≡ []
unskipped_lines-none [] none = refl
unskipped_lines-none (line ∷ lines) none = unskipped_lines-skipped line lines none.0 ∙ unskipped_lines-none lines none.1

-- the end of a file whose last line has its LF
pub unskipped_lines-end : without_skipped ([] ∷ []) ≡ []
unskipped_lines-end = unskipped_lines-skipped [] [] empty_is_skipped

-- skipped lines at the end
pub unskipped_lines-with_skipped : (lines more : List (List ℕ)) → AllByRecursion IsSkipped more → without_skipped (lines ++ more) ≡ without_skipped lines
unskipped_lines-with_skipped lines more none = unskipped_lines-append lines more ∙ ap (λ ls. without_skipped lines ++ ls) (unskipped_lines-none more none) ∙ append-nil (without_skipped lines)
