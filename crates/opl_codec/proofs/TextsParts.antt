-- A text's characters are told from its bytes alone.
use Rattle.std.proofs.Common.{◌≡◌, ◌≢◌, ℕ, ◌<◌, true, List, [], ◌∷◌, ◌++◌, flat_map, refl, sym, subst, ◌∙◌, ap, arith, append_assoc}
use Rattle.std.specs.Bool.{⊤}
use Rattle.std.specs.Char.{digit_value}
use Rattle.std.specs.List.{AllByRecursion}
use Rattle.std.specs.Str.Parse.{AllDigits}
use Rattle.std.proofs.lemmas.Bool.Decides.{nat_tests}
use Rattle.opl_codec.specs.Texts.{is_free, Character, Itself, Escape, IsCharacter, spelling, meaning, SpellsText, BeginsEscape}

-- no text goes on here
abbrev pub StopsText : List ℕ → Type 0
StopsText [] = ⊤
StopsText (byte ∷ rest) = (is_free byte ≢ true) × (byte ≡ 37 → BeginsEscape rest → ⊥)

pub free_not_percent : (byte : ℕ) → is_free byte ≡ true → byte ≢ 37
free_not_percent byte h e = grind (arith, nat_tests)

digit_not_percent : (byte : ℕ) → digit_value byte < 16 → 37 ≡ byte → ⊥
digit_not_percent byte h e = let same : digit_value 37 ≡ digit_value byte = ap digit_value e in let none : digit_value 37 ≡ 36 = refl in omega arith

-- the digits of an escape go just to its `%`
pub digits_apart : (g h r t : List ℕ) → AllDigits 16 g → AllDigits 16 h → g ++ 37 ∷ r ≡ h ++ 37 ∷ t → (g ≡ h) × (r ≡ t)
digits_apart [] [] r t a b e = (refl, cc)
digits_apart [] (y ∷ h) r t a b e = absurd (digit_not_percent y b.0 (cc))
digits_apart (x ∷ g) [] r t a b e = absurd (digit_not_percent x a.0 (cc))
digits_apart (x ∷ g) (y ∷ h) r t a b e =
    let tails : g ++ 37 ∷ r ≡ h ++ 37 ∷ t = cc in
    let heads : x ≡ y = cc in
    let rest = digits_apart g h r t a.1 b.1 tails in
    let fronts : g ≡ h = rest.0 in
    (cc, rest.1)

starts : (c : Character) (rest : List ℕ) → IsCharacter c → StopsText (spelling c ++ rest) → ⊥
starts (Itself byte) rest is stop = stop.0 is
starts (Escape digits) rest is stop = stop.1 refl (digits, rest, append_assoc digits (37 ∷ []) rest, is)

-- the first character
pub first_same : (c d : Character) (r t : List ℕ) → IsCharacter c → IsCharacter d → spelling c ++ r ≡ spelling d ++ t → (c ≡ d) × (r ≡ t)
first_same (Itself a) (Itself b) r t g h e = let same : a ≡ b = cc in (ap Itself same, cc)
first_same (Itself a) (Escape es) r t g h e = absurd (free_not_percent a g (cc))
first_same (Escape ds) (Itself b) r t g h e = absurd (free_not_percent b h (cc))
first_same (Escape ds) (Escape es) r t g h e =
    let tails : (ds ++ 37 ∷ []) ++ r ≡ (es ++ 37 ∷ []) ++ t = cc in
    let same = digits_apart ds es r t g.hexadecimal h.hexadecimal (sym (append_assoc ds (37 ∷ []) r) ∙ (tails ∙ append_assoc es (37 ∷ []) t)) in
    (ap Escape same.0, same.1)

-- all characters
pub same_characters : (cs ds : List Character) (x y : List ℕ) → AllByRecursion IsCharacter cs → AllByRecursion IsCharacter ds → StopsText x → StopsText y
    → flat_map spelling cs ++ x ≡ flat_map spelling ds ++ y → (cs ≡ ds) × (x ≡ y)
same_characters [] [] x y a b sx sy e = (refl, e)
same_characters [] (d ∷ ds) x y a b sx sy e = absurd (starts d (flat_map spelling ds ++ y) b.0 (subst StopsText (e ∙ append_assoc (spelling d) (flat_map spelling ds) y) sx))
same_characters (c ∷ cs) [] x y a b sx sy e = absurd (starts c (flat_map spelling cs ++ x) a.0 (subst StopsText (sym e ∙ append_assoc (spelling c) (flat_map spelling cs) x) sy))
same_characters (c ∷ cs) (d ∷ ds) x y a b sx sy e =
    let whole : spelling c ++ (flat_map spelling cs ++ x) ≡ spelling d ++ (flat_map spelling ds ++ y)
    = sym (append_assoc (spelling c) (flat_map spelling cs) x) ∙ (e ∙ append_assoc (spelling d) (flat_map spelling ds) y) in
    let first = first_same c d (flat_map spelling cs ++ x) (flat_map spelling ds ++ y) a.0 b.0 whole in
    let rest = same_characters cs ds x y a.1 b.1 sx sy first.1 in
    let head : c ≡ d = first.0 in
    let tail : cs ≡ ds = rest.0 in
    (cc, rest.1)

-- what two texts before a place where no text goes on have in common
pub record SameTexts (a b v w x y : List ℕ) : Type 0 where
  pub spelled : a ≡ b
  pub means : v ≡ w
  pub rest : x ≡ y

pub same_texts : (a b v w x y : List ℕ) → SpellsText a v → SpellsText b w → StopsText x → StopsText y → a ++ x ≡ b ++ y → SameTexts a b v w x y
same_texts a b v w x y h k sx sy e =
    let whole : flat_map spelling h.characters ++ x ≡ flat_map spelling k.characters ++ y = ap (λ s. s ++ x) (sym h.spelled_is) ∙ (e ∙ ap (λ s. s ++ y) k.spelled_is) in
    let same = same_characters h.characters k.characters x y h.are k.are sx sy whole in
    record {
      spelled = h.spelled_is ∙ (ap (flat_map spelling) same.0 ∙ sym k.spelled_is);
      means = h.text_is ∙ (ap (flat_map meaning) same.0 ∙ sym k.text_is);
      rest = same.1;
    }
