-- Entries that are given tree by tree.
use Rattle.std.proofs.Common.{◌≡◌, ◌≢◌, List, [], sym, subst, ◌∙◌}
use Rattle.osm_keys.specs.Entries.{AreEntriesOf}
use Rattle.osm_keys.specs.Grains.{Whole}
use Rattle.osm_model.specs.Elements.{Element}
use Rattle.tree_node.specs.Nodes.{Binding}
use Rattle.tree_node.specs.declared.tree.Tree.{Tree}
use Rattle.tree_node.specs.declared.tree.Tree.TheVariants.{Objects, Tags, Cells, Backs}

-- what is so of each of the four trees
pub by_tree : (P : Tree → Type 0) → P Objects → P Tags → P Cells → P Backs → (tree : Tree) → P tree
by_tree P o t c b Objects = o
by_tree P o t c b Tags = t
by_tree P o t c b Cells = c
by_tree P o t c b Backs = b

pub tags_objects : Tags ≢ Objects
tags_objects = λ e. cc

pub cells_objects : Cells ≢ Objects
cells_objects = λ e. cc

pub backs_objects : Backs ≢ Objects
backs_objects = λ e. cc

pub cells_tags : Cells ≢ Tags
cells_tags = λ e. cc

pub backs_tags : Backs ≢ Tags
backs_tags = λ e. cc

pub backs_cells : Backs ≢ Cells
backs_cells = λ e. cc

-- another tree was given, and no other
abbrev pub Keeps : Tree → (Tree → List Binding) → (Tree → List Binding) → Type 0
Keeps tree old new = (other : Tree) → other ≢ tree → new other ≡ old other

module _ (a b c d e : Tree → List Binding) (objects : Keeps Objects a b) (tags : Keeps Tags b c) (cells : Keeps Cells c d) (backs : Keeps Backs d e) where
  objects_stay : e Objects ≡ b Objects
  objects_stay = backs Objects (λ x. backs_objects (sym x)) ∙ cells Objects (λ x. cells_objects (sym x)) ∙ tags Objects (λ x. tags_objects (sym x))

  tags_stay : e Tags ≡ c Tags
  tags_stay = backs Tags (λ x. backs_tags (sym x)) ∙ cells Tags (λ x. cells_tags (sym x))

  -- each tree's entries are there at the end
  pub all_given : (set : List Element) → AreEntriesOf Whole set Objects (b Objects) → AreEntriesOf Whole set Tags (c Tags) → AreEntriesOf Whole set Cells (d Cells) → AreEntriesOf Whole set Backs (e Backs) → (tree : Tree) → AreEntriesOf Whole set tree (e tree)
  all_given set o t s k = by_tree (λ tree. AreEntriesOf Whole set tree (e tree))
      (subst (AreEntriesOf Whole set Objects) (sym objects_stay) o)
      (subst (AreEntriesOf Whole set Tags) (sym tags_stay) t)
      (subst (AreEntriesOf Whole set Cells) (sym (backs Cells (λ x. backs_cells (sym x)))) s)
      k
