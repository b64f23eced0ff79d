-- What `publish` writes, and when it writes nothing.
-- Source: this project.
use Rattle.std.specs.Prelude.{◌≡◌, ◌≢◌, ◌⊎◌, ℕ, List, Option, ⊤}
use Rattle.std.specs.Io.KnownBytes.{Keeps}
use Rattle.osm_model.specs.Elements.{Element}
use Rattle.opl_codec.specs.Files.{HoldsSet, StopsFile}
use Rattle.opl_codec.specs.declared.cause.OplCause.TheVariants as causes
use Rattle.opl_codec.specs.declared.fault.LoadFault.{LoadFault}
use Rattle.tree_node.specs.Outcomes.{Clash as HasClash}
use Rattle.osm_keys.specs.Publications.{HasTooMany, IsNodeIn, IsPublicationOf, Publication, root_of}
use Rattle.osm_keys.specs.declared.edition.Edition.{Edition}
use Rattle.osm_commands.specs.RootLines.{digest_line}
use Rattle.byte_io.specs.Written.{AppendsFront}
use Rattle.osm_commands.specs.declared.command_fault.CommandFault.{CommandFault}
use Rattle.osm_commands.specs.declared.command_fault.CommandFault.TheVariants.{Opl, Query, Endless, TooLarge, Work, Clash, TooMany, Apply, Memory, Device}

-- a publication in this edition of a set that the file holds
pub record IsPublicationIn (file : List ℕ) (edition : Edition) (p : Publication) : Type 0 where
  pub set : List Element
  pub holds : HoldsSet file set
  pub published : IsPublicationOf set edition p

-- the line of a publication's root
abbrev pub publication_line : Publication → List ℕ
publication_line p = digest_line (root_of p)

-- two different nodes of a publication of the set have one digest
abbrev pub HasClashingNodes : List Element → Edition → Type 0
HasClashingNodes set edition = (p : Publication) × IsPublicationOf set edition p × HasClash (IsNodeIn p) (IsNodeIn p)

-- no set was read of the file, of which this is left: its first line that can't be read is told with the byte
-- in it, or the line within which the reader was found to have no end
pub record IsUnheld (file : List ℕ) (left : Option (List ℕ)) (load : LoadFault) : Type 0 where
  pub stops : StopsFile file left load
  pub unfailed : load.fault.cause ≢ causes.ReaderFailed
  pub real : load.fault.cause ≢ causes.Memory

-- the fault lies outside the file (its reader never ended, or memory or a device failed), or the trees of this set
-- can't be made
abbrev pub IsOutsideOrTrees : List Element → Edition → CommandFault → Type 0
IsOutsideOrTrees set edition (Opl load) = load.fault.cause ≡ causes.Endless
IsOutsideOrTrees set edition (Query refused) = ⊥
IsOutsideOrTrees set edition Endless = ⊥
IsOutsideOrTrees set edition TooLarge = ⊥
IsOutsideOrTrees set edition Work = ⊥
IsOutsideOrTrees set edition Clash = HasClashingNodes set edition
IsOutsideOrTrees set edition TooMany = HasTooMany set
IsOutsideOrTrees set edition (Apply refused) = ⊥
IsOutsideOrTrees set edition Memory = ⊤
IsOutsideOrTrees set edition Device = ⊤

-- why each fault comes: no set is read of the input, of which this is left, or it holds a set whose trees can't be
-- made, or the fault lies outside it
abbrev pub ExplainsTrees : (file : List ℕ) (left : Option (List ℕ)) (edition : Edition) → CommandFault → Type 0
ExplainsTrees file left edition (Opl load) = IsUnheld file left load
ExplainsTrees file left edition (Query refused) = ⊥
ExplainsTrees file left edition Endless = ⊥
ExplainsTrees file left edition TooLarge = ⊥
ExplainsTrees file left edition Work = ⊥
ExplainsTrees file left edition Clash = (set : List Element) × HoldsSet file set × HasClashingNodes set edition
ExplainsTrees file left edition TooMany = (set : List Element) × HoldsSet file set × HasTooMany set
ExplainsTrees file left edition (Apply refused) = ⊥
ExplainsTrees file left edition Memory = ⊤
ExplainsTrees file left edition Device = ⊤

-- the output has gained nothing, or a beginning of the root's line
abbrev pub IsBegunTreeRoot : (file : List ℕ) (edition : Edition) (old new : Option (List ℕ)) → Type 0
IsBegunTreeRoot file edition old new = Keeps old new ⊎ ((p : Publication) × IsPublicationIn file edition p × AppendsFront old new (publication_line p))
