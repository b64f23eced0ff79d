-- Lines, nodes of trees and manifests begin with different bytes.
use Rattle.std.proofs.Common.{◌≡◌, ◌≢◌, ℕ, ◌<◌, ◌≤◌, List, get_or, refl, sym, ap, ◌∙◌, arith}
use Rattle.std.proofs.lemmas.List.Elements.{All-from_recursion}
use Rattle.light_keys.specs.LightManifests.{light_manifest}
use Rattle.osm_model.specs.CanonicalLine.{canonical_line, kind_letter}
use Rattle.osm_model.specs.Elements.{Element, reference}
use Rattle.osm_model.specs.declared.kind.Kind.{Kind}
use Rattle.osm_model.specs.declared.kind.Kind.TheVariants as kinds
use Rattle.tree_node.proofs.shared.TreeLaws.{whole}
use Rattle.tree_node.proofs.shared.TreeParts.{kind_at}
use Rattle.tree_node.specs.NodeRefs.{number_of}
use Rattle.tree_node.specs.Nodes.{Binding, Inner, Leaf, Node, level_of, spelling, tree_of}
use Rattle.tree_node.specs.Trees.{IsNodeOf, Shape, level_at, levels, no_node}
use Rattle.tree_node.specs.declared.tree.Tree.{Tree}
use Rattle.tree_node.specs.declared.tree.Tree.TheVariants.{Objects, Tags, Cells, Backs}

-- ---- nodes of trees

number_low : (tree : Tree) → number_of tree ≤ 4
number_low Objects = omega arith
number_low Tags = omega arith
number_low Cells = omega arith
number_low Backs = omega arith

first_byte : (node : Node) → get_or (spelling node) 0 0 ≡ tree_of node
first_byte (Leaf tree entries) = refl
first_byte (Inner tree level links) = refl

first_of_node : (shape : Shape) (tree : ℕ) (entries : List Binding) (x : List ℕ) → IsNodeOf (levels shape tree entries) x → get_or x 0 0 ≡ tree
unfolding levels
first_of_node shape tree entries x (level, place, (inside, at, is)) =
    let kind = All-from_recursion (λ (n : Node). (level_of n ≡ level) × (tree_of n ≡ tree)) (level_at (whole shape tree entries) level) (kind_at shape tree entries level inside) place no_node at in
    ap (λ (bytes : List ℕ). get_or bytes 0 0) is ∙ first_byte (get_or (level_at (whole shape tree entries) level) place no_node) ∙ kind.1

-- ---- lines

letter_high : (kind : Kind) → (109 < kind_letter kind) × (kind_letter kind < 120)
letter_high kinds.Node = (omega arith, omega arith)
letter_high kinds.Way = (omega arith, omega arith)
letter_high kinds.Rel = (omega arith, omega arith)

first_of_line : (o : Element) → get_or (canonical_line o) 0 0 ≡ kind_letter (reference o).kind
unfolding canonical_line
first_of_line o = refl

-- ---- manifests

first_of_manifest : (sequence : ℕ) (tops : Tree → List ℕ) → get_or (light_manifest sequence tops) 0 0 ≡ 79
unfolding light_manifest
first_of_manifest sequence tops = refl

-- ---- no bytes are of two sorts

pub line_no_node : (o : Element) (shape : Shape) (tree : Tree) (entries : List Binding) → IsNodeOf (levels shape (number_of tree) entries) (canonical_line o) → ⊥
line_no_node o shape tree entries is =
    let letter = letter_high (reference o).kind in
    omega (arith, first_of_node shape (number_of tree) entries (canonical_line o) is, first_of_line o, letter.0, number_low tree)

pub line_no_manifest : (o : Element) (sequence : ℕ) (tops : Tree → List ℕ) → canonical_line o ≢ light_manifest sequence tops
line_no_manifest o sequence tops e =
    let letter = letter_high (reference o).kind in
    omega (arith, sym (first_of_line o) ∙ ap (λ (bytes : List ℕ). get_or bytes 0 0) e ∙ first_of_manifest sequence tops, letter.0)

pub manifest_no_node : (shape : Shape) (tree : Tree) (entries : List Binding) (sequence : ℕ) (tops : Tree → List ℕ) → IsNodeOf (levels shape (number_of tree) entries) (light_manifest sequence tops) → ⊥
manifest_no_node shape tree entries sequence tops is =
    omega (arith, sym (first_of_node shape (number_of tree) entries (light_manifest sequence tops) is) ∙ first_of_manifest sequence tops, number_low tree)
