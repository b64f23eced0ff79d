-- What a reader of a response keeps of the bytes received, and what it says of them.
-- Source: this project.
use Rattle.std.specs.Prelude.{◌≡◌, ◌≢◌, ◌⊎◌, ℕ, Bool, false, List, [], ◌++◌}
use Rattle.mirror_reply.specs.Replies.{HasReply}
use Rattle.mirror_reply.specs.Standings.{HasFault, Standing, Stands, waits}
use Rattle.mirror_reply.specs.declared.progress.Progress.{Progress}
use Rattle.mirror_reply.specs.declared.progress.Progress.TheVariants.{Failed, More, Whole}

-- the bytes kept, and how long a body may be
pub record Kept : Type 0 where
  pub limit : ℕ
  pub bytes : List ℕ

-- the bytes decide it: whatever comes after them doesn't matter
abbrev pub IsSettled : ℕ → List ℕ → Type 0
IsSettled limit bytes = (s : Standing) × Stands limit false bytes s × (s ≢ waits)

-- the bytes received, in whatever pieces, are those kept, and others only once the bytes kept decide it
abbrev pub HasTaken : Kept → List ℕ → Type 0
HasTaken kept received = (later : List ℕ) × (received ≡ kept.bytes ++ later) × ((later ≡ []) ⊎ IsSettled kept.limit kept.bytes)

-- this is true of the bytes received
abbrev pub Tells : ℕ → Bool → List ℕ → Progress → Type 0
Tells limit closed received More = Stands limit closed received waits
Tells limit closed received Whole =
    (root : List ℕ) × (answer : List ℕ) × (proof : List ℕ) × HasReply limit received root answer proof
Tells limit closed received (Failed fault) = HasFault limit closed received fault
