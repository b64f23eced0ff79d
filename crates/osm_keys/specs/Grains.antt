-- Where the lines of objects are, under the tops of an edition's trees.
-- Source: this project's trees, docs/FORMATS.md.
use Rattle.osm_keys.specs.declared.edition.Edition.{Edition}
use Rattle.osm_keys.specs.declared.edition.Edition.TheVariants as editions

pub data Grain : Type 0 where
  -- the object tree has them as values
  Whole : Grain
  -- each is a node of its own, and each entry that names its object states its digest
  Lines : Grain

-- in the first edition and in the second the object tree has them
abbrev pub grain_of : Edition → Grain
grain_of editions.One = Whole
grain_of (editions.Two sequence) = Whole
