-- How a line is cut into fields, apart from how it is read.
-- Source: Osmium's OPL manual: fields in any order, each with a letter.
use Rattle.std.specs.Prelude.{◌≡◌, ℕ, ℤ, Bool, ◌==◌, if◌then◌else◌, List, [], ◌∷◌, ◌++◌, Option, Some, None, ⊤}
use Rattle.std.specs.Str.Parse.{digits_value}
use Rattle.osm_model.specs.Degrees.{sign, with_sign, IsDigits}

-- the letter of a field, 0 where there is none
abbrev pub letter_of : List ℕ → ℕ
letter_of [] = 0
letter_of (first ∷ text) = first

-- the value of the first field with this letter
abbrev pub field : ℕ → List (List ℕ) → Option (List ℕ)
field letter [] = None
field letter ([] ∷ fields) = field letter fields
field letter ((first ∷ text) ∷ fields) = if first == letter then Some text else field letter fields

-- each letter comes at most once: no later field has the same letter
abbrev pub IsOnce : List (List ℕ) → Type 0
IsOnce [] = ⊤
IsOnce (f ∷ fields) = (field (letter_of f) fields ≡ None) × IsOnce fields

-- a whole number: an optional minus and digits, leading zeros allowed
pub record IsInteger (text : List ℕ) (z : ℤ) : Type 0 where
  pub negative : Bool
  pub digits : List ℕ
  pub text_is : text ≡ sign negative ++ digits
  pub digits_are : IsDigits digits
  pub value_is : with_sign negative (digits_value 10 digits) ≡ z

-- the lists have one length, and the relation holds of each two in one place
abbrev pub Each : {A B : Type 0} → (A → B → Type 0) → List A → List B → Type 0
Each R [] [] = ⊤
Each R (x ∷ xs) (y ∷ ys) = R x y × Each R xs ys
Each R [] (y ∷ ys) = ⊥
Each R (x ∷ xs) [] = ⊥
