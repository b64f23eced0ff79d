-- The lines of objects, as nodes.
-- Source: this project.
use Rattle.std.specs.Prelude.{◌≡◌, List, map}
use Rattle.osm_model.specs.CanonicalLine.{canonical_line}
use Rattle.osm_model.specs.Elements.{Element}
use Rattle.tree_build.specs.Rebuilding.{nodes_of}
use Rattle.tree_node.specs.declared.new_node.NewNode.{NewNode}

-- these nodes are the canonical lines of the objects without their LF, in the order of the objects
abbrev pub AreLinesOf : List Element → List NewNode → Type 0
AreLinesOf objects lines = nodes_of lines ≡ map canonical_line objects
