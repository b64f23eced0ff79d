use Rattle.std.proofs.Common.{◌∙◌, ap}
use Rattle.tree_node.specs.declared.tree.Tree.TheVariants.{Objects, Tags, Cells, Backs}
use Rattle.level_files.specs.Stored.{level_of_tree}
use Rattle.level_files.proofs.trees_builder.TreesBuilder.finish.Goals as goal

pub returns-clause-nodes : goal.returns-clause-nodes
returns-clause-nodes g c = λ shape entries has. elim [
  | Objects ↦ λ level. ap (λ stored. level_of_tree stored Objects level) c.new.ensures ∙ c.in_ok-objects.ensures.nodes shape Objects (entries Objects) (has Objects) level
  | Tags ↦ λ level. ap (λ stored. level_of_tree stored Tags level) c.new.ensures ∙ c.in_ok-tags.ensures.nodes shape Tags (entries Tags) (has Tags) level
  | Cells ↦ λ level. ap (λ stored. level_of_tree stored Cells level) c.new.ensures ∙ c.in_ok-cells.ensures.nodes shape Cells (entries Cells) (has Cells) level
  | Backs ↦ λ level. ap (λ stored. level_of_tree stored Backs level) c.new.ensures ∙ c.in_ok-backs.ensures.nodes shape Backs (entries Backs) (has Backs) level
]

pub returns-clause-tops : goal.returns-clause-tops
returns-clause-tops g c = λ shape entries has. elim [
  | Objects ↦ c.in_ok-objects.ensures.top shape Objects (entries Objects) (has Objects)
  | Tags ↦ c.in_ok-tags.ensures.top shape Tags (entries Tags) (has Tags)
  | Cells ↦ c.in_ok-cells.ensures.top shape Cells (entries Cells) (has Cells)
  | Backs ↦ c.in_ok-backs.ensures.top shape Backs (entries Backs) (has Backs)
]

pub returns-clause-heights : goal.returns-clause-heights
returns-clause-heights g c = λ shape entries has. elim [
  | Objects ↦ c.in_ok-objects.ensures.height shape Objects (entries Objects) (has Objects)
  | Tags ↦ c.in_ok-tags.ensures.height shape Tags (entries Tags) (has Tags)
  | Cells ↦ c.in_ok-cells.ensures.height shape Cells (entries Cells) (has Cells)
  | Backs ↦ c.in_ok-backs.ensures.height shape Backs (entries Backs) (has Backs)
]
