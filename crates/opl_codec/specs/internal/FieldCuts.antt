-- Blanks and what stands between them: words of the reader's own clauses.
-- Source: this project.
use Rattle.std.specs.Prelude.{◌≡◌, ◌≢◌, ℕ, true, false, List, [], ◌∷◌, ◌++◌, length, ⊤}
use Rattle.std.specs.List.{AllByRecursion}
use Rattle.opl_codec.specs.LineFields.{fields, is_blank}

abbrev pub AreBlanks : List ℕ → Type 0
AreBlanks text = AllByRecursion (λ byte. is_blank byte ≡ true) text

abbrev pub HasNoBlank : List ℕ → Type 0
HasNoBlank text = AllByRecursion (λ byte. is_blank byte ≡ false) text

-- nothing, or a blank and more
abbrev pub StartsBlank : List ℕ → Type 0
StartsBlank [] = ⊤
StartsBlank (byte ∷ bytes) = is_blank byte ≡ true

-- nothing, or a byte that is no blank and more
abbrev pub StartsField : List ℕ → Type 0
StartsField [] = ⊤
StartsField (byte ∷ bytes) = is_blank byte ≡ false

-- so many blanks, a field, and what follows it
pub record IsNextField (text : List ℕ) (gap : ℕ) (f rest : List ℕ) : Type 0 where
  pub blanks : List ℕ
  pub text_is : text ≡ blanks ++ (f ++ rest)
  pub gap_is : length blanks ≡ gap
  pub are_blanks : AreBlanks blanks
  pub some : f ≢ []
  pub one : HasNoBlank f
  pub ends : StartsBlank rest

-- so much of a text was read: its first field, further ones, and what is left after them
pub record HasRead (text first : List ℕ) (done : List (List ℕ)) (left : List ℕ) : Type 0 where
  pub front : List ℕ
  pub text_is : text ≡ front ++ left
  pub fields_are : fields front ≡ first ∷ done
  pub starts : StartsBlank left
