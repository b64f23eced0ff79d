-- What a meter counted between two moments.
use Rattle.std.specs.Prelude.{◌≤◌, ◌+◌, ◌-◌, ◌^◌, ℕ, ◌⊎◌}
use Rattle.osm_keys.specs.Publications.{Publication}
use Rattle.ql_meaning.specs.Meanings.{Telling}
use Rattle.ql_syntax.specs.Statements.{Statement, Statements}
use Rattle.ref_sets.specs.NamedSets.{Env}
use Rattle.ql_eval.specs.Work.{InRow, Steps, WorkOf, WorkOfAll}

-- the greatest count
abbrev pub greatest : ℕ
greatest = 2 ^ 128 - 1

-- the second is not less than the first and this much more, unless it is the greatest
abbrev pub IsReached : ℕ → ℕ → ℕ → Type 0
IsReached old new n = (old + n ≤ new) ⊎ (greatest ≤ new)

-- so much was counted
pub record IsCounted (old new n : ℕ) : Type 0 where
  pub not_more : new ≤ old + n
  pub not_less : IsReached old new n

-- no more was counted than this work, which may not be done yet
abbrev pub IsBounded : (ℕ → Type 0) → ℕ → ℕ → Type 0
IsBounded Work old new = (n : ℕ) → Work n → new ≤ old + n

-- the work of a statement that is the last one of a row, with its set
abbrev pub WorkOfLast : Telling → Publication → Statement → Env → ℕ → Type 0
WorkOfLast tell p statement env n = InRow p.objects statement env (WorkOf tell p statement env) (λ later. Steps 0) n

-- there is such a work, and no less was counted
abbrev pub IsSpent : (ℕ → Type 0) → ℕ → ℕ → Type 0
IsSpent Work old new = (n : ℕ) × Work n × IsReached old new n

-- of a whole count so much is left
pub record IsLeft (old new whole left : ℕ) : Type 0 where
  pub bounded : new + left ≤ old + whole
  pub spent : (old + whole ≤ new + left) ⊎ (greatest ≤ new)

-- of a row some statements are left, which are to be run over the second named sets
pub record IsGoing (tell : Telling) (p : Publication) (statements : Statements) (env : Env) (left : Statements) (now : Env) (old new : ℕ) : Type 0 where
  -- what was counted and what is left are no more than the whole
  pub bounded : (n : ℕ) → WorkOfAll tell p statements env n → (m : ℕ) × WorkOfAll tell p left now m × (new + m ≤ old + n)
  -- and no less
  pub spent : (m : ℕ) → WorkOfAll tell p left now m → (n : ℕ) × WorkOfAll tell p statements env n × IsReached old (new + m) n
