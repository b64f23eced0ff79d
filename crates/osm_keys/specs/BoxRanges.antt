-- The ranges of keys in which the nodes of a box are found, wherever the lines are.
-- Source: this project's trees, docs/FORMATS.md.
use Rattle.std.specs.Prelude.{List}
use Rattle.osm_model.specs.Boxes.{ExactBox}
use Rattle.tree_walk.specs.Ranges.{Range}
use Rattle.osm_keys.specs.FineRanges.{AreFineRanges}
use Rattle.osm_keys.specs.Grains.{Grain, Lines, Whole}
use Rattle.osm_keys.specs.Ranges.{AreCellRanges}

-- the ranges of the cells that a box meets
abbrev pub AreBoxRanges : Grain → ExactBox → List Range → Type 0
AreBoxRanges Whole area ranges = AreCellRanges area ranges
AreBoxRanges Lines area ranges = AreFineRanges area ranges
