-- How a reply is fetched: what was called at the dial, and how that ends.
-- Source: this project.
use Rattle.std.specs.Prelude.{◌≡◌, ◌⊎◌, ℕ, ◌<◌, Bool, true, false, List, [], ◌∷◌, ◌++◌, length, Option, Some, None, Result, Ok, Err, suc}
use Rattle.mirror_reply.specs.Calls.{Call, broken, bytes_received, bytes_sent, ended, opened, received, sent, unsent}
use Rattle.mirror_reply.specs.Standings.{HasFault, Stands, waits}
use Rattle.mirror_reply.specs.Taken.{HasTaken, Kept, Tells}
use Rattle.mirror_reply.specs.declared.fetch_fault.FetchFault.{FetchFault}
use Rattle.mirror_reply.specs.declared.fetch_fault.FetchFault.TheVariants.{Memory, Reply, Silent, Unreached}
use Rattle.mirror_reply.specs.declared.limits.TheConstants.{READ_LIMIT}
use Rattle.mirror_reply.specs.declared.progress.Progress.TheVariants.{Whole}

-- what was asked for, and what is kept of the response
pub record Fetch : Type 0 where
  pub request : List ℕ
  pub kept : Kept

-- how many reads gave bytes
abbrev pub reads : List Call → ℕ
reads [] = 0
reads (opened is ∷ before) = reads before
reads (sent bytes ∷ before) = reads before
reads (unsent ∷ before) = reads before
reads (received bytes ∷ before) = suc (reads before)
reads (ended ∷ before) = reads before
reads (broken ∷ before) = reads before

-- one connection was opened, before anything else
abbrev pub IsOpened : List Call → Type 0
IsOpened [] = ⊥
IsOpened (opened is ∷ before) = (is ≡ true) × (before ≡ [])
IsOpened (sent bytes ∷ before) = IsOpened before
IsOpened (unsent ∷ before) = IsOpened before
IsOpened (received bytes ∷ before) = IsOpened before
IsOpened (ended ∷ before) = IsOpened before
IsOpened (broken ∷ before) = IsOpened before

-- it is sent but for some bytes, and nothing was received
pub record IsBegun (request : List ℕ) (calls : List Call) : Type 0 where
  pub is_opened : IsOpened calls
  pub unsent_bytes : (rest : List ℕ) × (request ≡ bytes_sent calls ++ rest) × (0 < length rest)
  pub none_received : bytes_received calls ≡ []

abbrev pub IsAsking : Fetch → List Call → Type 0
IsAsking f calls = IsBegun f.request calls

-- the request is sent
abbrev pub HasAsked : Fetch → List Call → Type 0
HasAsked f calls = IsOpened calls × (bytes_sent calls ≡ f.request)

-- it is sent, and the bytes received don't decide anything
abbrev pub IsWaiting : Fetch → List Call → Type 0
IsWaiting f calls = HasAsked f calls × Stands f.kept.limit false (bytes_received calls) waits

-- the last call failed, or took nothing
abbrev pub HasStopped : Fetch → List Call → Type 0
HasStopped f [] = ⊥
HasStopped f (opened is ∷ before) = ⊥
HasStopped f (sent bytes ∷ before) = IsAsking f before × (bytes ≡ [])
HasStopped f (unsent ∷ before) = IsAsking f before
HasStopped f (received bytes ∷ before) = ⊥
HasStopped f (ended ∷ before) = ⊥
HasStopped f (broken ∷ before) = IsWaiting f before

-- that, or so many reads were made and there is no end
abbrev pub IsSilent : Fetch → List Call → Type 0
IsSilent f calls = HasStopped f calls ⊎ (IsWaiting f calls × (reads calls ≡ READ_LIMIT))

-- the mirror has closed
abbrev pub is_closed : List Call → Bool
is_closed [] = false
is_closed (opened is ∷ before) = false
is_closed (sent bytes ∷ before) = false
is_closed (unsent ∷ before) = false
is_closed (received bytes ∷ before) = false
is_closed (ended ∷ before) = true
is_closed (broken ∷ before) = false

-- memory ran out before anything was called, or for the last piece, of which nothing is kept
abbrev pub HasStarved : Fetch → List Call → Type 0
HasStarved f [] = f.kept.bytes ≡ []
HasStarved f (opened is ∷ before) = ⊥
HasStarved f (sent bytes ∷ before) = ⊥
HasStarved f (unsent ∷ before) = ⊥
HasStarved f (received bytes ∷ before) = IsWaiting f before × HasTaken f.kept (bytes_received before)
HasStarved f (ended ∷ before) = ⊥
HasStarved f (broken ∷ before) = ⊥

abbrev pub Ends : Fetch → List Call → Result (Unit {0}) FetchFault → Type 0
Ends f calls (Ok done) =
    HasAsked f calls × Tells f.kept.limit false (bytes_received calls) Whole × HasTaken f.kept (bytes_received calls)
Ends f calls (Err Unreached) = (calls ≡ opened false ∷ []) × (f.kept.bytes ≡ [])
Ends f calls (Err Silent) = IsSilent f calls × HasTaken f.kept (bytes_received calls)
Ends f calls (Err (Reply fault)) =
    HasAsked f calls × HasFault f.kept.limit (is_closed calls) (bytes_received calls) fault × HasTaken f.kept (bytes_received calls)
Ends f calls (Err Memory) = HasStarved f calls

-- these calls were made, where the dial tells, and it ends so
abbrev pub HasFetched : Fetch → Option (List Call) → Option (List Call) → Result (Unit {0}) FetchFault → Type 0
HasFetched f None new result = Unit {0}
HasFetched f (Some before) new result = (calls : List Call) × (new ≡ Some (calls ++ before)) × Ends f calls result
