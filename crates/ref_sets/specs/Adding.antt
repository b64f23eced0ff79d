-- Which elements a loop adds to a list, whatever their order and however often each is added.
use Rattle.std.specs.Prelude.{List, ◌⊎◌, ◌↔◌}
use Rattle.std.specs.List.{Contains}

-- the later list has the elements of the earlier one and those of which P holds, and no others
pub record Adds {A : Type 0} (earlier later : List A) (P : A → Type 0) : Type 0 where
  pub is : (a : A) → Contains later a ↔ (Contains earlier a ⊎ P a)

-- P holds of some element of the list together with b
abbrev pub From : {A B : Type 0} → List A → (A → B → Type 0) → B → Type 0
From {A} xs P b = (a : A) × Contains xs a × P a b
