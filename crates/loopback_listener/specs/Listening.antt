-- What is known of a socket that listens.
-- Source: this project.
use Rattle.std.specs.Prelude.{◌≡◌, ◌+◌, ◌<◌, ◌⊎◌, ℕ, Bool}

pub record Listening : Type 0 where
  -- a connection may wait: taking one hasn't said since that there is none
  pub is_waiting : Bool
  -- the system has said that one waits, and taking one wasn't tried since
  pub is_sure : Bool
  -- how many times in a row taking one has failed in passing
  pub failures : ℕ

-- taking a connection was tried: it went well, or there was none, or it failed in passing, once more but less than a thousand
-- times in a row
abbrev pub IsTried : Listening → Listening → Type 0
IsTried old new = (new.failures ≡ 0) ⊎ ((new.failures ≡ old.failures + 1) × (new.failures < 1000) × (new.is_waiting ≡ old.is_waiting))
