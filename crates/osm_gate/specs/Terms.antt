-- On what terms queries are answered.
-- Source: this project.
use Rattle.std.specs.Prelude.{ℕ, Bool, false, Option}

pub record Terms : Type 0 where
  -- the budget of each query, where there is one
  pub most : Option ℕ
  -- whether the nodes are read from a device, which may fail
  pub may_fail : Bool

abbrev pub terms_of : Option ℕ → Bool → Terms
terms_of most may_fail = record { most = most; may_fail = may_fail }

-- the nodes are held in memory
abbrev pub within : Option ℕ → Terms
within most = terms_of most false
