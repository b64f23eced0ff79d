-- The root that is announced of changes, as by the last comment of a change file.
-- Source: this project.
use Rattle.std.specs.Prelude.{◌≡◌, ◌≢◌, ◌++◌, ℕ, List, Some, codes}
use Rattle.hex.specs.Hex.{encode_lower}
use Rattle.opl_codec.specs.Files.{end_comment}
use Rattle.opl_codec.specs.declared.change.Change.{Change}
use Rattle.tree_node.specs.Outcomes.{Clash}
use Rattle.osm_keys.specs.Publications.{Publication, root_of}
use Rattle.osm_index.specs.Applying.{AreApplicable, IsNodeOfEither}
use Rattle.osm_index.specs.declared.announced_fault.AnnouncedFault.{AnnouncedFault}
use Rattle.osm_index.specs.declared.announced_fault.AnnouncedFault.TheVariants.{Apply, OtherRoot}
use Rattle.osm_index.specs.declared.apply_fault.ApplyFault.TheVariants as faults
use Rattle.osm_desk.specs.Made.{IsChanged, RefusesChanges}

-- ---- a root that is announced

-- the digits of a publication's root, in lower case
abbrev pub root_digits : Publication → List ℕ
root_digits p = encode_lower (root_of p)

-- the changes can be applied, and what they make has another root than the one with these digits
abbrev pub GivesOtherRoot : Publication → List Change → List ℕ → Type 0
GivesOtherRoot p all announced = AreApplicable p.objects p.edition all × ((q : Publication) × IsChanged p all q × (announced ≢ root_digits q))

-- how publishing the changes may be refused where this root is announced: as without it, but that they have another root
-- comes before a clash
abbrev pub RefusesAnnounced : Publication → List Change → List ℕ → AnnouncedFault → Type 0
RefusesAnnounced p all announced (Apply faults.Clash) =
    AreApplicable p.objects p.edition all
    × ((q : Publication) × IsChanged p all q × (announced ≡ root_digits q) × Clash (IsNodeOfEither p q) (IsNodeOfEither p q))
RefusesAnnounced p all announced (Apply fault) = RefusesChanges p all fault
RefusesAnnounced p all announced OtherRoot = GivesOtherRoot p all announced

-- ---- a change file that announces it

-- how a comment begins that announces a root
abbrev pub root_words : List ℕ
root_words = codes "# root "

-- the file's last line that isn't empty is the comment `# root TEXT`
abbrev pub Announces : (file announced : List ℕ) → Type 0
Announces file announced = end_comment file ≡ Some (root_words ++ announced)

abbrev pub AnnouncesSome : List ℕ → Type 0
AnnouncesSome file = (announced : List ℕ) × Announces file announced

-- what the file announces, where it does, are the digits of this publication's root
abbrev pub IsAsAnnounced : List ℕ → Publication → Type 0
IsAsAnnounced file q = (announced : List ℕ) → Announces file announced → announced ≡ root_digits q
