-- What a change file makes of a set whose nodes stand in files.
-- Source: this project.
use Rattle.std.specs.Io.KnownBytes.{Appends}
use Rattle.std.specs.Prelude.{ℕ, List, Option}
use Rattle.opl_codec.specs.declared.change.Change.{Change}
use Rattle.osm_keys.specs.Publications.{Publication}
use Rattle.pack_head.specs.Heads.{IsHead, head_text}
use Rattle.pack_head.specs.declared.head.Head.{Head}
use Rattle.pack_update.specs.Adding.{HasFurther, IsAddedOf, IsNextBy}
use Rattle.pack_update.specs.declared.added.Added.{Added}
use Rattle.osm_commands.specs.Written.{Output}
use Rattle.osm_desk.specs.AnnouncedRoots.{IsAsAnnounced}
use Rattle.osm_desk.specs.Published.{GivesChanges}
use Rattle.osm_pack_changes.specs.Heads.{IsNextHead}

-- the changes that the reader gives make the one publication of the other, whose root is the one that its text announces, where it
-- announces one
pub record IsNextOf (known : Option (List ℕ)) (p q : Publication) : Type 0 where
  pub changes : List Change
  pub given : GivesChanges known changes
  pub next : IsNextBy p changes q
  pub announced : IsAsAnnounced given.text q

-- Files with these contents and the one that was written have the nodes of the publication, and the next head names them all; it can
-- be read again where the one before could.
pub record HasAddedFile (contents : List (List ℕ)) (head : Head) (name : List ℕ) (q : Publication) (further new_head : Output) : Type 0 where
  pub added : Added
  pub is : IsAddedOf q added
  pub file : HasFurther contents q added further.before further.after
  pub next : Head
  pub next_is : IsNextHead head name added next
  pub appended : Appends new_head.before new_head.after (head_text next)
  pub readable : IsHead head → IsHead next
