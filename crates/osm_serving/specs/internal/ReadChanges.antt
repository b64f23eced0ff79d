-- A change file that was read: what its changes have to give, and how publishing them ends.
use Rattle.std.specs.Global.{Vec}
use Rattle.std.specs.Prelude.{◌≡◌, ◌++◌, ◌⊎◌, [], ℕ, List, Option, Some, Err, option_map, ⊤}
use Rattle.opl_codec.specs.declared.change_file.ChangeFile.{ChangeFile}
use Rattle.osm_keys.specs.Publications.{Publication}
use Rattle.osm_desk.specs.AnnouncedRoots.{GivesOtherRoot, root_digits, root_words}
use Rattle.osm_desk.specs.Made.{IsMade}
use Rattle.osm_serving.specs.declared.changes_fault.ChangesFault.{ChangesFault}
use Rattle.osm_serving.specs.declared.changes_fault.ChangesFault.TheVariants.{Apply, Opl, OtherRoot, Memory, Device}
use Rattle.osm_serving.specs.declared.root_line.RootLine.{RootLine}
use Rattle.osm_serving.specs.declared.root_line.RootLine.TheVariants.{Optional, Required}

-- the comment that the file ends with
abbrev pub comment_of : ChangeFile → Option (List ℕ)
comment_of read = option_map (λ (comment : Vec ℕ). comment.items) read.end_comment

-- the comment announces this text
abbrev pub IsRootComment : Option (List ℕ) → List ℕ → Type 0
IsRootComment comment announced = comment ≡ Some (root_words ++ announced)

-- it announces nothing
abbrev pub IsNoRootComment : Option (List ℕ) → Type 0
IsNoRootComment comment = (announced : List ℕ) → ¬ IsRootComment comment announced

-- the changes may give any root
abbrev pub IsHeldToNone : RootLine → (comment : Option (List ℕ)) → Type 0
IsHeldToNone root_line comment = (root_line ≡ Optional) × IsNoRootComment comment

-- they have to give the root with these digits, as the comment announces it; no root where one has to be announced and isn't
abbrev pub IsHeldTo : RootLine → (comment : Option (List ℕ)) (announced : List ℕ) → Type 0
IsHeldTo root_line comment announced =
    IsRootComment comment announced ⊎ ((root_line ≡ Required) × (announced ≡ []) × IsNoRootComment comment)

-- what is made has the root that the comment announces, and it announces one where it has to
pub record KeepsComment (root_line : RootLine) (comment : Option (List ℕ)) (q : Publication) : Type 0 where
  pub announced : (text : List ℕ) → IsRootComment comment text → text ≡ root_digits q
  pub line : root_line ≡ Required → (text : List ℕ) × IsRootComment comment text

-- how publishing what was read may be refused
abbrev pub RefusesRead : RootLine → ChangeFile → Publication → ChangesFault → Type 0
RefusesRead root_line read p (Opl load) = ⊥
RefusesRead root_line read p (Apply refused) = IsMade p read.changes.items (Err refused)
RefusesRead root_line read p OtherRoot =
    ((announced : List ℕ) × IsRootComment (comment_of read) announced × GivesOtherRoot p read.changes.items announced)
    ⊎ ((root_line ≡ Required) × IsNoRootComment (comment_of read) × GivesOtherRoot p read.changes.items [])
RefusesRead root_line read p Memory = ⊤
RefusesRead root_line read p Device = ⊥
