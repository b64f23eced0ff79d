-- How text is spelled. A spelling is a relation between a text and what is left of it after what is
-- spelled at its front.
-- Source: this project.
use Prim.Native.String.{String}
use Rattle.std.specs.Prelude.{◌≡◌, ◌≢◌, ◌⊎◌, ℕ, zero, suc, List, [], ◌∷◌, ◌++◌, codes}
use Rattle.osm_model.specs.Degrees.{Decimal}
use Rattle.ql_syntax.specs.Gaps.{gap, Between, After}
use Rattle.ql_syntax.specs.Numbers.{IsNumber}
use Rattle.ql_syntax.specs.QuotedTexts.{IsQuoted}
use Rattle.ql_syntax.specs.Words.{IsRun, IsName}

abbrev pub Spelling : Type 1
Spelling = List ℕ → List ℕ → Type 0

-- one after the other
pub record Both (first second : Spelling) (text rest : List ℕ) : Type 0 where
  pub middle : List ℕ
  pub front : first text middle
  pub back : second middle rest

infixr 10 ◌&◌
abbrev pub ◌&◌ : Spelling → Spelling → Spelling
first & second = Both first second

-- one of two
infixr 5 ◌or◌
abbrev pub ◌or◌ : Spelling → Spelling → Spelling
(first or second) text rest = first text rest ⊎ second text rest

abbrev pub nothing : Spelling
nothing text rest = rest ≡ text

-- nothing, where this holds
abbrev pub when : Type 0 → Spelling
when holds text rest = holds × (rest ≡ text)

abbrev pub never : Spelling
never text rest = ⊥

-- each of a list
abbrev pub each : {A : Type 0} → (A → Spelling) → List A → Spelling
each spelling [] = nothing
each spelling (a ∷ more) = spelling a & each spelling more

-- so often
abbrev pub times : ℕ → Spelling → Spelling
times zero spelling = nothing
times (suc n) spelling = spelling & times n spelling

-- once or more often
abbrev pub some : Spelling → Spelling
some spelling text rest = (n : ℕ) × (spelling & times n spelling) text rest

-- three in any order
abbrev pub in_any_order : Spelling → Spelling → Spelling → Spelling
in_any_order a b c = (a & b & c) or (a & c & b) or (b & a & c) or (b & c & a) or (c & a & b) or (c & b & a)

-- blanks and comments, as far as they go, and then what is spelled so
pub record AfterGap (spelling : Spelling) (text rest : List ℕ) : Type 0 where
  pub place : List ℕ
  pub passed : gap Between text ≡ After place
  pub spelled : spelling place rest

-- the text begins with these bytes
pub record BeginsWith (said text rest : List ℕ) : Type 0 where
  pub parts : text ≡ said ++ rest

-- a gap, and then this text
abbrev pub says : String → Spelling
says said = AfterGap (BeginsWith (codes said))

-- a gap, and then this word, which goes no further
abbrev pub word : String → Spelling
word said = AfterGap (λ place rest. IsRun place (codes said) rest)

-- a gap, and then the end of the text
abbrev pub the_end : Spelling
the_end = AfterGap (λ place rest. (place ≡ []) × (rest ≡ []))

-- a gap, and then a number of this meaning
abbrev pub number : (Decimal → Type 0) → Spelling
number Means = AfterGap (λ place rest. (value : Decimal) × Means value × IsNumber place value rest)

-- a gap, and then a key or a value: between quotes, or one or more letters, digits and `_`
abbrev pub tag_text : List ℕ → Spelling
tag_text value = AfterGap (λ place rest. IsQuoted place value rest ⊎ ((value ≢ []) × IsRun place value rest))

-- a set: its name, right after a dot
abbrev pub named_set : List ℕ → Spelling
named_set name = says "." & (λ place rest. IsName place name rest)

-- the set that a statement starts from: its name, or nothing for the default set
abbrev pub source : List ℕ → Spelling
source set = named_set set or when (set ≡ codes "_")

-- the set that a statement writes to, or nothing for the default set; and the `;`
abbrev pub into : List ℕ → Spelling
into set = (says "->" & named_set set & says ";") or (when (set ≡ codes "_") & says ";")
