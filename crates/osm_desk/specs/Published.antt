-- What change files make of what is in force.
-- Source: this project.
use Rattle.std.specs.Prelude.{◌≡◌, ◌⊎◌, [], ◌∷◌, ◌++◌, ℕ, IfSome, List, Ok, Option, Some}
use Rattle.opl_codec.specs.Files.{HoldsChanges}
use Rattle.opl_codec.specs.declared.change.Change.{Change}
use Rattle.osm_keys.specs.Publications.{Publication}
use Rattle.osm_index.specs.Snapshots.{HoldsPublication}
use Rattle.osm_index.specs.declared.snapshot.Snapshot.{Snapshot}
use Rattle.osm_desk.specs.AnnouncedRoots.{IsAsAnnounced}
use Rattle.osm_desk.specs.Made.{IsMade}

-- ---- one change file

-- the bytes that a reader has to give hold these changes; they are those that it tells, where it tells them
pub record GivesChanges (known : Option (List ℕ)) (changes : List Change) : Type 0 where
  pub text : List ℕ
  pub told : IfSome known (λ all. text ≡ all)
  pub holds : HoldsChanges text changes

-- the changes that the reader gives make the one publication of the other, whose root is the one that its text announces,
-- where it announces one
pub record IsMadeFrom (known : Option (List ℕ)) (p q : Publication) : Type 0 where
  pub changes : List Change
  pub given : GivesChanges known changes
  pub made : IsMade p changes (Ok q)
  pub announced : IsAsAnnounced given.text q

-- changes that a file holds make the one publication of the other, whose root is the one that the file announces, where it
-- announces one
abbrev pub IsPublishedFrom : Publication → Publication → Type 0
IsPublishedFrom p q =
    (file : List ℕ) × (changes : List Change) × HoldsChanges file changes × IsMade p changes (Ok q) × IsAsAnnounced file q

-- what is held now is what was in force, or what a change file makes of it
abbrev pub HasPublished : Publication → (held : Publication → Type 0) → Type 0
HasPublished p held = (q : Publication) × held q × ((q ≡ p) ⊎ IsPublishedFrom p q)

-- ---- one after the other

-- what is said to a question for a change file: a file, with its bytes where its reader tells them; or no file, since
-- there is none, or it can't be had
pub data FoundFile : Type 0 where
  file : Option (List ℕ) → FoundFile
  nothing : FoundFile

-- what was found makes the one publication of the other: a file by its changes; where nothing was found they are the same
abbrev pub IsMadeBy : FoundFile → Publication → Publication → Type 0
IsMadeBy nothing p q = q ≡ p
IsMadeBy (file known) p q = IsMadeFrom known p q

-- the snapshot holds what that makes of what was in force
abbrev pub HasTaken : FoundFile → Publication → Snapshot → Type 0
HasTaken found p snapshot = (q : Publication) × HoldsPublication snapshot q × IsMadeBy found p q

-- all that was found, the last first, makes it, each by its changes; but what is refused changes nothing
abbrev pub IsMadeByAll : List FoundFile → Publication → Publication → Type 0
IsMadeByAll [] p q = q ≡ p
IsMadeByAll (found ∷ before) p q = (m : Publication) × IsMadeByAll before p m × (IsMadeBy found m q ⊎ (q ≡ m))

-- what was found from the old state to the new one, where it is told, makes what is held now of what was held before
abbrev pub TakesFound : (told now : Option (List FoundFile)) (held_before held_now : Publication → Type 0) → Type 0
TakesFound told now held_before held_now = IfSome told (λ before. (more : List FoundFile) × (now ≡ Some (more ++ before))
    × ((p : Publication) → held_before p → (q : Publication) × held_now q × IsMadeByAll more p q))
