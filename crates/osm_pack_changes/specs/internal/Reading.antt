-- A change file that was read: what its changes have to give, and why nothing is added.
use Rattle.std.specs.Prelude.{◌≡◌, ◌≤◌, ◌++◌, ℕ, List, Option, Some, ⊤}
use Rattle.hex.specs.Hex.{encode_lower}
use Rattle.opl_codec.specs.declared.change_file.ChangeFile.{ChangeFile}
use Rattle.osm_keys.specs.Publications.{Publication, root_of}
use Rattle.pack_head.specs.Names.{IsHeadName}
use Rattle.pack_head.specs.declared.limits.TheConstants.{FILES_LIMIT}
use Rattle.pack_update.specs.Adding.{IsNextBy}
use Rattle.pack_update.specs.Faults.{IsAddReason}
use Rattle.osm_desk.specs.AnnouncedRoots.{root_words}
use Rattle.osm_serving.specs.internal.ReadChanges.{comment_of}
use Rattle.osm_pack_changes.specs.declared.not_added.NotAdded.{NotAdded}
use Rattle.osm_pack_changes.specs.declared.not_added.NotAdded.TheVariants.{Device, Files, ManyFiles, Memory, Name, Opl, OtherRoot}

-- the root is the one that the comment announces, where it announces one
abbrev pub IsAsCommented : Option (List ℕ) → List ℕ → Type 0
IsAsCommented comment root = (announced : List ℕ) → comment ≡ Some (root_words ++ announced) → announced ≡ encode_lower root

-- the changes that were read make the one publication of the other, whose root is as the file's comment says
abbrev pub IsNextBeside : Publication → ChangeFile → Publication → Type 0
IsNextBeside p read q = IsNextBy p read.changes.items q × IsAsCommented (comment_of read) (root_of q)

-- why nothing is added of what was read, to the files of which there are so many
abbrev pub RefusesRead : Publication → ChangeFile → (number : ℕ) (name : List ℕ) → NotAdded → Type 0
RefusesRead p read number name (Opl load) = ⊥
RefusesRead p read number name ManyFiles = FILES_LIMIT ≤ number
RefusesRead p read number name Name = ¬ IsHeadName name
RefusesRead p read number name (Files fault) = IsAddReason p read.changes.items number fault
RefusesRead p read number name OtherRoot = (q : Publication) × IsNextBy p read.changes.items q × ¬ IsAsCommented (comment_of read) (root_of q)
RefusesRead p read number name Memory = ⊤
RefusesRead p read number name Device = ⊤
