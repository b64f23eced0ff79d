-- What is built of a file, and why nothing is.
-- Source: this project.
use Rattle.std.specs.Prelude.{◌≡◌, ◌≢◌, ⊤, ℕ, List, Option}
use Rattle.osm_model.specs.Elements.{Element}
use Rattle.opl_codec.specs.Files.{HoldsSet, StopsFile}
use Rattle.opl_codec.specs.declared.cause.OplCause.TheVariants as causes
use Rattle.tree_node.specs.Outcomes.{Clash as HasClash}
use Rattle.osm_keys.specs.Publications.{HasTooMany, IsNodeIn, IsPublicationOf, Publication, root_of}
use Rattle.osm_keys.specs.declared.edition.Edition.{Edition}
use Rattle.pack_assembly.specs.Packing.{IsPacked, IsTooLong}
use Rattle.pack_build.specs.declared.fault.BuildFault.{BuildFault}
use Rattle.pack_build.specs.declared.fault.BuildFault.TheVariants.{Load, TooMany, Clash, TooLong, Memory, Device, NotWritten}

-- a publication in this edition of a set that the file holds
pub record IsPublicationIn (file : List ℕ) (edition : Edition) (p : Publication) : Type 0 where
  pub set : List Element
  pub holds : HoldsSet file set
  pub published : IsPublicationOf set edition p

-- the pack of such a publication was written, and this is its root
pub record IsBuilt (file : List ℕ) (edition : Edition) (root : List ℕ) (old new : Option (List ℕ)) : Type 0 where
  pub p : Publication
  pub published : IsPublicationIn file edition p
  pub root_is : root ≡ root_of p
  pub packed : IsPacked p old new

-- Why a fault comes: the file holds no set, and its first line that can't be read is told; or it holds one whose trees
-- can't be made, or are too long for a pack; or the fault lies outside it.
abbrev pub Explains : (file : List ℕ) → Edition → BuildFault → Type 0
Explains file edition (Load load) = (load.fault.cause ≢ causes.Memory) × ((left : Option (List ℕ)) × StopsFile file left load)
Explains file edition TooMany = (set : List Element) × HoldsSet file set × HasTooMany set
Explains file edition Clash = (p : Publication) × IsPublicationIn file edition p × HasClash (IsNodeIn p) (IsNodeIn p)
Explains file edition TooLong = (p : Publication) × IsPublicationIn file edition p × IsTooLong p
Explains file edition Memory = ⊤
Explains file edition Device = ⊤
Explains file edition NotWritten = ⊤
