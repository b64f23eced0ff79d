-- What of the bytes that a connection gives is taken.
-- Source: this project.
use Rattle.std.specs.Prelude.{◌≡◌, ℕ, List, ◌++◌, Option, length}
use Rattle.http_ranges.specs.Heads.{IsJudged}
use Rattle.http_ranges.specs.declared.byte_range.ByteRange.{ByteRange}
use Rattle.http_ranges.specs.declared.judging.Given.{Given}
use Rattle.http_ranges.specs.declared.judging.Judgement.{Judgement}
use Rattle.http_ranges.specs.declared.judging.Judgement.TheVariants as judgement

-- These bytes were taken, in order: they stand in what the connection gave right before those that aren't taken yet. `heard`
-- and `heard'` say what it gave, before and after; `rest` and `rest'` aren't taken yet.
abbrev pub Passes : List ℕ → (List ℕ → Type 0) → List ℕ → (List ℕ → Type 0) → List ℕ → Type 0
Passes taken heard rest heard' rest' = (front : List ℕ) → heard (front ++ rest) → heard' (front ++ (taken ++ rest'))

-- the head of a response was taken that is worth this
pub record TakesNext (asked : ByteRange) (size : Option ℕ) (heard : List ℕ → Type 0) (rest : List ℕ) (heard' : List ℕ → Type 0) (rest' : List ℕ) (judgement : Judgement) : Type 0 where
  pub head : List ℕ
  pub judged : IsJudged head asked size judgement
  pub passes : Passes head heard rest heard' rest'

-- the head of a response was taken that has what was asked for, after interim ones
pub record TakesHead (asked : ByteRange) (size : Option ℕ) (heard : List ℕ → Type 0) (rest : List ℕ) (heard' : List ℕ → Type 0) (rest' : List ℕ) (given : Given) : Type 0 where
  pub before : List ℕ
  pub head : List ℕ
  pub judged : IsJudged head asked size (judgement.Given given)
  pub passes : Passes (before ++ head) heard rest heard' rest'

-- so many bytes were taken, and appended to others
pub record TakesBody (len : ℕ) (heard : List ℕ → Type 0) (rest : List ℕ) (heard' : List ℕ → Type 0) (rest' old new : List ℕ) : Type 0 where
  pub body : List ℕ
  pub whole : length body ≡ len
  pub appended : new ≡ old ++ body
  pub passes : Passes body heard rest heard' rest'

-- A response was taken, and its body was appended to other bytes: a response that is of exactly the range that was asked for.
pub record TakesResponse (asked : ByteRange) (size : Option ℕ) (heard : List ℕ → Type 0) (rest : List ℕ) (heard' : List ℕ → Type 0) (rest' old new : List ℕ) (given : Given) : Type 0 where
  pub before : List ℕ
  pub head : List ℕ
  pub body : List ℕ
  pub judged : IsJudged head asked size (judgement.Given given)
  pub whole : length body ≡ given.len
  pub appended : new ≡ old ++ body
  pub passes : Passes ((before ++ head) ++ body) heard rest heard' rest'

-- a head says that the response has what was asked for
abbrev pub IsGiven : ByteRange → Option ℕ → Given → Type 0
IsGiven asked size given = (head : List ℕ) × IsJudged head asked size (judgement.Given given)

-- other bytes have gained a body of just as many bytes as such a head says
pub record HasBody (asked : ByteRange) (size : Option ℕ) (old new : List ℕ) (given : Given) : Type 0 where
  pub given_so : IsGiven asked size given
  pub body : List ℕ
  pub whole : length body ≡ given.len
  pub appended : new ≡ old ++ body
