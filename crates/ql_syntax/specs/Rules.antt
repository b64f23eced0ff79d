-- Rules of a grammar, and how they are put together. A place in a text is what is left of it there.
-- Source: this project.
use Rattle.std.specs.Prelude.{◌≡◌, ◌⊎◌, ℕ, List, [], ◌∷◌, ◌++◌, Option, None, Some}
use Rattle.ql_syntax.specs.declared.cause.QlCause.{QlCause}

-- a rule: as what it reads the front of a text, and what it leaves; or why it reads none there, and the
-- place at which it stops, the first from the left
pub record Rule (A : Type 0) : Type 1 where
  pub reads : List ℕ → A → List ℕ → Type 0
  pub stops : List ℕ → QlCause → List ℕ → Type 0

-- one rule after the other: the second goes on where the first has read
pub record BothRead {A B : Type 0} (first : Rule A) (second : A → Rule B) (text : List ℕ) (value : B) (rest : List ℕ) : Type 0 where
  pub front : A
  pub middle : List ℕ
  pub front_reads : first.reads text front middle
  pub back_reads : (second front).reads middle value rest

pub data OneStops {A B : Type 0} (first : Rule A) (second : A → Rule B) (text : List ℕ) (cause : QlCause) (place : List ℕ) : Type 0 where
  First : first.stops text cause place → OneStops first second text cause place
  Second : (front : A) (middle : List ℕ) → first.reads text front middle → (second front).stops middle cause place → OneStops first second text cause place

infixl 10 ◌>>=◌
unfoldable pub ◌>>=◌ : {A B : Type 0} → Rule A → (A → Rule B) → Rule B
first >>= second = record { reads = BothRead first second; stops = OneStops first second }

-- nothing more is read
unfoldable pub give : {A : Type 0} → A → Rule A
give value = record { reads = λ text v rest. (v ≡ value) × (rest ≡ text); stops = λ text cause place. ⊥ }

-- no text goes on as a query, for this cause, whose place is this
unfoldable pub refuse : {A : Type 0} → QlCause → List ℕ → Rule A
refuse why at = record { reads = λ text v rest. ⊥; stops = λ text cause place. (cause ≡ why) × (place ≡ at) }

-- the rule goes on at this place
unfoldable pub from : {A : Type 0} → List ℕ → Rule A → Rule A
from start rule = record { reads = λ text v rest. rule.reads start v rest; stops = λ text cause place. rule.stops start cause place }

-- one rule where this holds, else the other
unfoldable pub choose : {A : Type 0} → Type 0 → Rule A → Rule A → Rule A
choose holds first other = record {
  reads = λ text v rest. (holds × first.reads text v rest) ⊎ ((holds → ⊥) × other.reads text v rest);
  stops = λ text cause place. (holds × first.stops text cause place) ⊎ ((holds → ⊥) × other.stops text cause place);
}

-- the rule of this case
unfoldable pub by_case : {K A : Type 0} → K → (K → Rule A) → Rule A
by_case case rule = rule case

-- what one round of a repeated rule gives: a state for one more, or the value of all
pub data Round (S A : Type 0) : Type 0 where
  More : S → Round S A
  Done : A → Round S A

pub data RoundsRead {S A : Type 0} (round : S → Rule (Round S A)) (value : A) (rest : List ℕ) : S → List ℕ → Type 0 where
  Last : (state : S) (text : List ℕ) → (round state).reads text (Done value) rest → RoundsRead round value rest state text
  Next : (state next : S) (text middle : List ℕ) → (round state).reads text (More next) middle → RoundsRead round value rest next middle → RoundsRead round value rest state text

pub data RoundsStop {S A : Type 0} (round : S → Rule (Round S A)) (cause : QlCause) (place : List ℕ) : S → List ℕ → Type 0 where
  Here : (state : S) (text : List ℕ) → (round state).stops text cause place → RoundsStop round cause place state text
  Later : (state next : S) (text middle : List ℕ) → (round state).reads text (More next) middle → RoundsStop round cause place next middle → RoundsStop round cause place state text

-- rounds, from this state on, until one gives the value of all
unfoldable pub repeat : {S A : Type 0} → (S → Rule (Round S A)) → S → Rule A
repeat round state = record { reads = λ text value rest. RoundsRead round value rest state text; stops = λ text cause place. RoundsStop round cause place state text }

-- one more of a list, or its end
abbrev pub gathered : {A : Type 0} → List A → Option A → Round (List A) (List A)
gathered found None = Done found
gathered found (Some one) = More (found ++ one ∷ [])

unfoldable pub gather_round : {A : Type 0} → Rule (Option A) → List A → Rule (Round (List A) (List A))
gather_round item found = do
  next ← item
  give (gathered found next)

-- items one after the other, after those found before, until there is none
unfoldable pub gather : {A : Type 0} → Rule (Option A) → List A → Rule (List A)
gather item found = repeat (gather_round item) found
