-- What is packed, and why nothing is.
-- Source: this project.
use Rattle.std.specs.Prelude.{◌≡◌, ◌⊎◌, ℕ, List, Option}
use Rattle.osm_model.specs.Elements.{Element}
use Rattle.osm_keys.specs.Publications.{Publication}
use Rattle.osm_keys.specs.declared.edition.Edition.{Edition}
use Rattle.pack_assembly.specs.Packing.{IsPackOf, IsTooLong}
use Rattle.osm_commands.specs.TreeRoots.{ExplainsTrees, IsOutsideOrTrees, IsPublicationIn, publication_line}
use Rattle.osm_commands.specs.Written.{HasGained, Output}
use Rattle.osm_commands.specs.declared.command_fault.CommandFault.{CommandFault}
use Rattle.osm_commands.specs.declared.command_fault.CommandFault.TheVariants.{TooLarge}

-- the nodes of a publication in this edition of the set that the file holds are too long for a pack
abbrev pub HasLongPack : (file : List ℕ) → Edition → Type 0
HasLongPack file edition = (p : Publication) × IsPublicationIn file edition p × IsTooLong p

-- the fault is that, or one with which `publish` refuses a file that holds this set
abbrev pub IsOutsideOrLong : (file : List ℕ) → List Element → Edition → CommandFault → Type 0
IsOutsideOrLong file set edition fault = ((fault ≡ TooLarge) × HasLongPack file edition) ⊎ IsOutsideOrTrees set edition fault

-- why each fault comes: that, or as of `publish`
abbrev pub Explains : (file : List ℕ) (left : Option (List ℕ)) (edition : Edition) → CommandFault → Type 0
Explains file left edition fault = ((fault ≡ TooLarge) × HasLongPack file edition) ⊎ ExplainsTrees file left edition fault

-- a pack of a publication in this edition of the set that the file holds, and the line of its root
pub record HasPacked (file : List ℕ) (edition : Edition) (pack output : Output) : Type 0 where
  pub p : Publication
  pub published : IsPublicationIn file edition p
  pub bytes : List ℕ
  pub is_pack : IsPackOf p bytes
  pub packed : HasGained pack bytes
  pub told : HasGained output (publication_line p)
