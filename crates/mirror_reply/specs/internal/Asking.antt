-- How far a fetch has come between two of its steps.
use Rattle.std.specs.Prelude.{◌≡◌, ℕ, false, List, [], ◌∷◌, take, Result, Ok, Err}
use Rattle.mirror_reply.specs.Calls.{Call, broken, bytes_received, bytes_sent, ended, opened, received, sent, unsent}
use Rattle.mirror_reply.specs.Fetches.{Fetch, HasAsked, IsBegun, IsOpened, reads}
use Rattle.mirror_reply.specs.Standings.{Stands, waits}
use Rattle.mirror_reply.specs.Taken.{HasTaken}
use Rattle.mirror_reply.specs.declared.fetch_fault.FetchFault.{FetchFault}
use Rattle.mirror_reply.specs.declared.fetch_fault.FetchFault.TheVariants.{Silent}

-- the request is sent, and nothing else happened
pub record IsReady (request : List ℕ) (calls : List Call) : Type 0 where
  pub is_opened : IsOpened calls
  pub all_sent : bytes_sent calls ≡ request
  pub none_received : bytes_received calls ≡ []
  pub none_read : reads calls ≡ 0

-- so many bytes of it are sent
pub record IsSending (request : List ℕ) (done : ℕ) (calls : List Call) : Type 0 where
  pub is_opened : IsOpened calls
  pub front : bytes_sent calls ≡ take done request
  pub none_received : bytes_received calls ≡ []
  pub none_read : reads calls ≡ 0

-- so many reads gave bytes, and these don't decide anything
pub record IsHearing (f : Fetch) (count : ℕ) (calls : List Call) : Type 0 where
  pub asked : HasAsked f calls
  pub counted : reads calls ≡ count
  pub taken : HasTaken f.kept (bytes_received calls)
  pub stands : Stands f.kept.limit false (bytes_received calls) waits

-- the last call sent nothing
abbrev pub HasStuck : List ℕ → List Call → Type 0
HasStuck request [] = ⊥
HasStuck request (opened is ∷ before) = ⊥
HasStuck request (sent bytes ∷ before) = IsBegun request before × (bytes ≡ [])
HasStuck request (unsent ∷ before) = IsBegun request before
HasStuck request (received bytes ∷ before) = ⊥
HasStuck request (ended ∷ before) = ⊥
HasStuck request (broken ∷ before) = ⊥

abbrev pub HasSent : List ℕ → List Call → Result (Unit {0}) FetchFault → Type 0
HasSent request calls (Ok done) = IsReady request calls
HasSent request calls (Err fault) = (fault ≡ Silent) × HasStuck request calls
