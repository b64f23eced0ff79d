-- What changes add to the files of a publication.
-- Source: this project.
use Rattle.std.specs.Io.KnownBytes.{Appends}
use Rattle.std.specs.Prelude.{◌≡◌, ◌⊎◌, ℕ, List, [], ◌∷◌, ◌++◌, Option, length}
use Rattle.opl_codec.specs.declared.change.Change.{Change}
use Rattle.tree_node.specs.Nodes.{AreBytes}
use Rattle.tree_node.specs.Outcomes.{Clash}
use Rattle.osm_keys.specs.Manifests.{HasSequence, manifest_bytes}
use Rattle.osm_keys.specs.Publications.{IsNodeIn, IsPublication, Publication, manifest_of, root_of}
use Rattle.osm_index.specs.Applying.{AreApplicable, IsApplied, edition_after}
use Rattle.pack_update.specs.Files.{AreFilesOf}
use Rattle.pack_update.specs.declared.added.Added.{Added}

-- the root is that of the publication, whose sequence fits its eight bytes
pub record IsRootOf (p : Publication) (root : List ℕ) : Type 0 where
  pub published : IsPublication p
  pub is : root ≡ root_of p
  pub fits : HasSequence p.edition

-- The changes turn the one publication into the other, at the next sequence, and nothing refuses them.
pub record IsNextBy (p : Publication) (all : List Change) (q : Publication) : Type 0 where
  pub published : IsPublication q
  pub applied : IsApplied p.objects all q.objects
  pub edition : q.edition ≡ edition_after p.edition
  pub applicable : AreApplicable p.objects p.edition all

-- The root and the manifest that are told are those of the publication.
pub record IsAddedOf (q : Publication) (added : Added) : Type 0 where
  pub root : added.header.root.0 ≡ root_of q
  pub manifest : manifest_bytes added.manifest ≡ manifest_of q
  pub edition : added.manifest.edition ≡ q.edition

-- ---- second preimages

-- a byte string: bytes, such as those that were read, or a node of a publication
abbrev pub IsByteString : List ℕ → Type 0
IsByteString text = AreBytes text ⊎ ((p : Publication) × IsPublication p × IsNodeIn p text)

-- One of its nodes has a second preimage of SHA-256: another byte string has its digest.
abbrev pub HasSecondPreimage : Publication → Type 0
HasSecondPreimage p = Clash (IsNodeIn p) IsByteString

-- ---- files

-- A file was appended, of the length that is told, and files with these contents and with it have the nodes of the publication.
pub record HasFurther (contents : List (List ℕ)) (q : Publication) (added : Added) (old new : Option (List ℕ)) : Type 0 where
  pub file : List ℕ
  pub appended : Appends old new file
  pub size : length file ≡ added.header.size
  pub are : AreFilesOf (contents ++ file ∷ []) q added.header.manifest
