-- The shapes of trees, as trees are defined by them.
-- Source: this project's trees, docs/FORMATS.md.
use Rattle.tree_build.specs.declared.shape.Shape.{Shape}
use Rattle.tree_build.specs.declared.shape.Shape.TheVariants as shapes
use Rattle.tree_node.specs.Trees as trees

-- how a shape cuts lists
abbrev pub shape_of : Shape → trees.Shape
shape_of shapes.One = trees.One
shape_of shapes.Two = trees.Two
