-- Several files as one.
-- Source: this project's packs, docs/FORMATS.md.
use Rattle.std.specs.List.{AllByRecursion}
use Rattle.std.specs.Prelude.{◌≤◌, ◌-◌, ◌^◌, ℕ, List, [], ◌∷◌, ◌++◌, ⊤, length, replicate}

-- a file, and zeros where nothing is up to the beginning of the next one
abbrev pub filled : List ℕ → List ℕ
filled file = file ++ replicate (2 ^ 48 - length file) 0

-- files one after the other, each at the offset of its number times 2^48
abbrev pub joined : List (List ℕ) → List ℕ
joined [] = []
joined (file ∷ files) = filled file ++ joined files

-- each of them has 2^48 bytes at most
abbrev pub AreShort : List (List ℕ) → Type 0
AreShort contents = AllByRecursion (λ (file : List ℕ). length file ≤ 2 ^ 48) contents

-- each file reads its bytes, of which there are 2^48 at most
abbrev pub AllRead : {F : Type 0} → (F → List ℕ → Type 0) → List F → List (List ℕ) → Type 0
AllRead reads [] [] = ⊤
AllRead reads [] (bytes ∷ others) = ⊥
AllRead reads (file ∷ files) [] = ⊥
AllRead reads (file ∷ files) (bytes ∷ others) = reads file bytes × (length bytes ≤ 2 ^ 48) × AllRead reads files others

-- so do the files, and an offset in them fits 64 bits
pub record AreRead {F : Type 0} (reads : F → List ℕ → Type 0) (files : List F) (contents : List (List ℕ)) : Type 0 where
  pub all : AllRead reads files contents
  pub few : length files ≤ 65535
