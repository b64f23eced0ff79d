-- The nodes of different trees differ, and no manifest is one: the first byte of a node is the number of its tree.
use Rattle.std.proofs.Common.{◌≡◌, ◌≢◌, ℕ, List, get_or, refl, sym, ap, ◌∙◌, arith}
use Rattle.std.proofs.lemmas.List.Elements.{All-from_recursion}
use Rattle.tree_node.specs.NodeRefs.{number_of}
use Rattle.tree_node.specs.Nodes.{Binding, Inner, IsTree, Leaf, Node, level_of, spelling, tree_of}
use Rattle.tree_node.specs.Trees.{IsNodeOf, Shape, Two, level_at, levels, no_node}
use Rattle.tree_node.specs.declared.tree.Tree.{Tree}
use Rattle.tree_node.specs.declared.tree.Tree.TheVariants.{Objects, Tags, Cells, Backs}
use Rattle.tree_node.proofs.shared.TreeLaws.{whole}
use Rattle.tree_node.proofs.shared.TreeParts.{kind_at}
use Rattle.osm_index.specs.Applying.{IsSecond, edition_after}
use Rattle.osm_keys.specs.Manifests.{manifest}
use Rattle.osm_keys.specs.Publications.{Publication, shape_in, shape_of, tree_in}
use Rattle.osm_keys.specs.declared.edition.Edition.{Edition}
use Rattle.osm_keys.specs.declared.edition.Edition.TheVariants as editions

-- ---- the shape of a tree

pub second_shape : (edition : Edition) → IsSecond edition → shape_of edition ≡ Two
second_shape editions.One is = absurd is
second_shape (editions.Two sequence) is = refl

pub shape_after : (edition : Edition) → IsSecond edition → shape_of (edition_after edition) ≡ Two
shape_after editions.One is = absurd is
shape_after (editions.Two sequence) is = refl

-- ---- the number of a tree

pub is_tree : (tree : Tree) → IsTree (number_of tree)
is_tree Objects = (omega arith, omega arith)
is_tree Tags = (omega arith, omega arith)
is_tree Cells = (omega arith, omega arith)
is_tree Backs = (omega arith, omega arith)

one_number : (t u : Tree) → number_of t ≡ number_of u → t ≡ u
one_number Objects Objects e = refl
one_number Objects Tags e = absurd (omega arith)
one_number Objects Cells e = absurd (omega arith)
one_number Objects Backs e = absurd (omega arith)
one_number Tags Objects e = absurd (omega arith)
one_number Tags Tags e = refl
one_number Tags Cells e = absurd (omega arith)
one_number Tags Backs e = absurd (omega arith)
one_number Cells Objects e = absurd (omega arith)
one_number Cells Tags e = absurd (omega arith)
one_number Cells Cells e = refl
one_number Cells Backs e = absurd (omega arith)
one_number Backs Objects e = absurd (omega arith)
one_number Backs Tags e = absurd (omega arith)
one_number Backs Cells e = absurd (omega arith)
one_number Backs Backs e = refl

first_byte : (node : Node) → get_or (spelling node) 0 0 ≡ tree_of node
first_byte (Leaf tree entries) = refl
first_byte (Inner tree level links) = refl

first_of : (shape : Shape) (tree : ℕ) (entries : List Binding) (x : List ℕ) → IsNodeOf (levels shape tree entries) x → get_or x 0 0 ≡ tree
unfolding levels
first_of shape tree entries x (level, place, (inside, at, is)) =
    let kind = All-from_recursion (λ (n : Node). (level_of n ≡ level) × (tree_of n ≡ tree)) (level_at (whole shape tree entries) level) (kind_at shape tree entries level inside) place no_node at in
    ap (λ (bytes : List ℕ). get_or bytes 0 0) is ∙ first_byte (get_or (level_at (whole shape tree entries) level) place no_node) ∙ kind.1

-- a node of a tree is of no other
pub one_tree : (p q : Publication) (t u : Tree) (x : List ℕ) → IsNodeOf (tree_in p t) x → IsNodeOf (tree_in q u) x → t ≡ u
one_tree p q t u x is is_too = one_number t u (sym (first_of (shape_in p) (number_of t) (p.entries t) x is) ∙ first_of (shape_in q) (number_of u) (q.entries u) x is_too)

manifest_first : (edition : Edition) (tops : Tree → List ℕ) → get_or (manifest edition tops) 0 0 ≡ 79
unfolding manifest
manifest_first edition tops = refl

-- no manifest is a node of a tree
pub not_manifest : (p : Publication) (tree : Tree) (edition : Edition) (tops : Tree → List ℕ) (x : List ℕ) → IsNodeOf (tree_in p tree) x → x ≢ manifest edition tops
not_manifest p tree edition tops x is e =
    let number = first_of (shape_in p) (number_of tree) (p.entries tree) x is in
    let first = ap (λ (bytes : List ℕ). get_or bytes 0 0) e ∙ manifest_first edition tops in
    let few = (is_tree tree).1 in
    omega (arith, number, first, few)
