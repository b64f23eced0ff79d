-- Words, runs without quotes, and names of sets.
-- Source: the Overpass QL page of the OpenStreetMap wiki: a set's name is a letter or `_` and then
-- letters, digits and `_`; that these are those of ASCII, and that words are spelled so too, is this
-- project's.
use Rattle.std.specs.Prelude.{◌≡◌, ℕ, Bool, true, false, ◌==◌, ◌||◌, List, [], ◌∷◌, ◌++◌, bytes_eq}
use Rattle.osm_model.specs.Bytes.{underscore}
use Rattle.std.specs.Char.{is_ascii_alphabetic, is_ascii_alphanumeric}
use Rattle.std.specs.List.{list_all, list_any}
use Rattle.ql_syntax.specs.declared.cause.QlCause.{QlCause}
use Rattle.ql_syntax.specs.declared.cause.QlCause.TheVariants as causes

-- a letter, a digit or `_`
abbrev pub is_run_byte : ℕ → Bool
is_run_byte b = is_ascii_alphanumeric b || b == underscore

-- a letter or `_`
abbrev pub is_word_start : ℕ → Bool
is_word_start b = is_ascii_alphabetic b || b == underscore

-- the word is one of these
abbrev pub is_one_of : List ℕ → List (List ℕ) → Bool
is_one_of word words = list_any (λ one. bytes_eq one word) words

-- the first byte passes the test, where there is one
abbrev pub begins_with : (ℕ → Bool) → List ℕ → Bool
begins_with test [] = false
begins_with test (b ∷ s) = test b

-- the run is the longest one of letters, digits and `_` at the front of the text, perhaps empty
pub record IsRun (text run rest : List ℕ) : Type 0 where
  pub parts : text ≡ run ++ rest
  pub bytes : list_all is_run_byte run ≡ true
  pub longest : begins_with is_run_byte rest ≡ false

-- a word: a run that doesn't begin with a digit
pub record IsWord (text word rest : List ℕ) : Type 0 where
  pub run : IsRun text word rest
  pub start : begins_with is_word_start word ≡ true

-- the name of a set, after its dot
abbrev pub IsName : List ℕ → List ℕ → List ℕ → Type 0
IsName after name rest = IsWord after name rest

-- the text from dot on begins a token that ends too early: after its dot the text ends, or something else
-- follows, and then it is the dot that fits nothing
abbrev pub IsUnfinished : List ℕ → List ℕ → QlCause → List ℕ → Type 0
IsUnfinished dot [] cause place = (cause ≡ causes.UnexpectedEnd) × (place ≡ [])
IsUnfinished dot (b ∷ after) cause place = (cause ≡ causes.UnexpectedCharacter) × (place ≡ dot)

-- no word after a dot, from which on the text is dot
abbrev pub IsNoName : List ℕ → List ℕ → QlCause → List ℕ → Type 0
IsNoName dot after cause place = (begins_with is_word_start after ≡ false) × IsUnfinished dot after cause place
