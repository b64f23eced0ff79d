-- The hints that are kept.
-- Source: this project.
use Rattle.std.specs.Prelude.{◌≡◌, ◌+◌, ℕ, List, [], ◌∷◌, ◌++◌, length, map, sum_by}
use Rattle.tree_node.specs.declared.digest.Digest.{Digest}
use Rattle.node_pack.specs.Hints.{Announcement, hint_of}
use Rattle.node_pack.specs.declared.announced.Announced.{Announced}
use Rattle.node_pack.specs.declared.announced.TheConstants.{HINT_BYTES, HINT_MORE}
use Rattle.node_pack.specs.declared.hint.Hint.{Hint}

-- what hints say
abbrev pub announcements : List Hint → List Announcement
announcements hints = map hint_of hints

-- the hints that are kept, in their order
abbrev pub hints_in : Announced → List Announcement
hints_in announced = announcements announced.hints.items

-- what is announced with a top and two keys
abbrev pub hint_with : Digest → List ℕ → List ℕ → Announcement
hint_with top lo hi = record { top = top.0; lo = lo; hi = hi }

-- how many bytes a hint counts
abbrev pub hint_cost : Announcement → ℕ
hint_cost announcement = length announcement.lo + length announcement.hi + HINT_MORE

-- one more hint is kept, and its bytes are taken from the room
pub record IsKept (old new : Announced) (announcement : Announcement) : Type 0 where
  pub hints : hints_in new ≡ hints_in old ++ announcement ∷ []
  pub room : new.room + hint_cost announcement ≡ old.room

-- nothing is changed
pub record IsLeft (old new : Announced) : Type 0 where
  pub hints : hints_in new ≡ hints_in old
  pub room : new.room ≡ old.room

-- all kept hints together count no more than the limit
abbrev pub IsBounded : Announced → Type 0
IsBounded announced = sum_by hint_cost (hints_in announced) + announced.room ≡ HINT_BYTES
