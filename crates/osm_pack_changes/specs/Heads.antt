-- The head after changes.
-- Source: this project's heads, docs/FORMATS.md.
use Rattle.std.specs.Prelude.{◌≡◌, ℕ, List, [], ◌∷◌, ◌++◌, map}
use Rattle.osm_keys.specs.declared.edition.Edition.{Edition}
use Rattle.osm_keys.specs.declared.edition.Edition.TheVariants as editions
use Rattle.node_pack.specs.declared.place.Place.{Place}
use Rattle.pack_head.specs.Heads.{file_parts}
use Rattle.pack_head.specs.declared.head.Head.{Head}
use Rattle.pack_update.specs.declared.added.Added.{Added}

-- where the head says that the manifest's record stands
abbrev pub manifest_place : Head → Place
manifest_place head = record { at = head.manifest_at; len = head.manifest_len }

-- the sequence number of an edition; 0 of the first one, which has none
abbrev pub sequence_of : Edition → ℕ
sequence_of editions.One = 0
sequence_of (editions.Two sequence) = sequence

-- the next head says what was added: the new root, its sequence number, where its manifest stands, and one file more, of this name
pub record IsNextHead (head : Head) (name : List ℕ) (added : Added) (next : Head) : Type 0 where
  pub root : next.root ≡ added.header.root
  pub sequence : next.sequence ≡ sequence_of added.manifest.edition
  pub manifest : manifest_place next ≡ added.header.manifest
  pub files : map file_parts next.files.items ≡ map file_parts head.files.items ++ (added.header.size, name) ∷ []
