-- How many nodes a publication has.
use Rattle.std.proofs.Common.{◌≡◌, ℕ, zero, suc, ◌+◌, ◌*◌, ◌<◌, ◌≤◌, ◌^◌, List, [], ◌∷◌, ◌++◌, length, get_or, map, inl, inr, sym, subst, arith, length-append}
use Rattle.std.specs.List.{Contains}
use Rattle.std.proofs.lemmas.List.{length-map, map-append}
use Rattle.tree_node.specs.NodeRefs.{number_of}
use Rattle.tree_node.specs.Nodes.{Binding, Node, spelling}
use Rattle.tree_node.specs.Trees.{Shape, Stands, ends_by, is_marked_entry, leaves, levels, levels_over, one_at_least, pieces}
use Rattle.tree_node.specs.Nodes.{Leaf}
use Rattle.tree_node.specs.declared.tree.Tree.{Tree}
use Rattle.tree_node.specs.declared.tree.Tree.TheVariants.{Objects, Tags, Cells, Backs}
use Rattle.tree_node.proofs.shared.PieceLemmas.{join, pieces_half, two_at_least}
use Rattle.tree_node.proofs.shared.TreeLemmas.{AreLevels, level_half, tree_is, tree_levels}
use Rattle.tree_walk.specs.Fetches.{AreDifferent, IsAmong}
use Rattle.tree_walk.proofs.shared.WalkedLaws.{different_fit}
use Rattle.osm_keys.specs.Publications.{IsNodeIn, IsPublication, Publication, manifest_of, shape_in, tree_in}
use Rattle.osm_keys.proofs.shared.Members.{here, in_rest, none}
use Rattle.osm_prove.specs.Proofs.{AreRising}
use Rattle.osm_prove.proofs.shared.NodeOrder.{first_apart, rest_rises}

-- ---- a tree

-- the levels over some nodes have fewer than twice as many
over_few : (shape : Shape) (tree level : ℕ) (nodes : List Node) (above : List (List Node)) → AreLevels shape tree level nodes above → length (join above) + 2 ≤ 2 * length nodes
over_few shape tree level nodes [] one = omega (arith, one)
over_few shape tree level nodes (first ∷ others) are =
    let half : 2 * length first ≤ length nodes + 1 = subst (λ (ns : List Node). 2 * length ns ≤ length nodes + 1) (sym are.1) (level_half shape tree level nodes) in
    let more = over_few shape tree (level + 1) first others are.2 in
    omega (arith, length-append first (join others), half, more, are.0)

-- there are half as many leaves as entries, rounded up, or one
leaves_half : (shape : Shape) (tree : ℕ) (entries : List Binding) → 2 * length (leaves shape tree entries) ≤ length entries + 2
leaves_half shape tree entries =
    let ps = pieces (ends_by shape is_marked_entry) entries in
    let half = pieces_half (ends_by shape is_marked_entry) (two_at_least shape is_marked_entry) [] entries in
    omega (arith, length-map (one_at_least ps) (Leaf tree), least ps (omega (arith, half)))
  where
    least : (ps : List (List Binding)) → 2 * length ps ≤ length entries + 1 → 2 * length (one_at_least ps) ≤ length entries + 2
    least [] half = omega arith
    least (p ∷ ps) half = omega (arith, half)

-- the nodes of a tree
tree_few : (shape : Shape) (tree : ℕ) (entries : List Binding) → length entries ≤ 536870912 → length (join (levels shape tree entries)) ≤ 805306369
tree_few shape tree entries few =
    let above = levels_over (length (leaves shape tree entries)) shape tree 1 (leaves shape tree entries) in
    let over = over_few shape tree 1 (leaves shape tree entries) above (tree_levels shape tree entries) in
    let total : length (join (leaves shape tree entries ∷ above)) ≤ 805306369 = omega (arith, over, leaves_half shape tree entries, length-append (leaves shape tree entries) (join above)) in
    subst (λ (ls : List (List Node)). length (join ls) ≤ 805306369) (sym (tree_is shape tree entries)) total

-- ---- all of a publication

-- the nodes of a tree as bytes
abbrev texts_in : Publication → Tree → List (List ℕ)
texts_in p tree = map spelling (join (tree_in p tree))

-- the manifest, and the nodes of the four trees
abbrev pub all_texts : Publication → List (List ℕ)
all_texts p = manifest_of p ∷ (texts_in p Objects ++ (texts_in p Tags ++ (texts_in p Cells ++ texts_in p Backs)))

texts_few : (p : Publication) → IsPublication p → (tree : Tree) → length (texts_in p tree) ≤ 805306369
texts_few p is tree = let few = tree_few (shape_in p) (number_of tree) (p.entries tree) (is.few tree) in omega (arith, length-map (join (tree_in p tree)) spelling, few)

all_few : (p : Publication) → IsPublication p → length (all_texts p) < 2 ^ 32
all_few p is =
    omega (
      arith,
      length-append (texts_in p Objects) (texts_in p Tags ++ (texts_in p Cells ++ texts_in p Backs)),
      length-append (texts_in p Tags) (texts_in p Cells ++ texts_in p Backs),
      length-append (texts_in p Cells) (texts_in p Backs),
      texts_few p is Objects,
      texts_few p is Tags,
      texts_few p is Cells,
      texts_few p is Backs,
    )

-- ---- each node is among them

among_left : (xs ys : List (List ℕ)) (x : List ℕ) → IsAmong xs x → IsAmong (xs ++ ys) x
among_left [] ys x is = absurd is
among_left (y ∷ xs) ys x (inl e) = inl e
among_left (y ∷ xs) ys x (inr is) = inr (among_left xs ys x is)

among_right : (xs ys : List (List ℕ)) (x : List ℕ) → IsAmong ys x → IsAmong (xs ++ ys) x
among_right [] ys x is = is
among_right (y ∷ xs) ys x is = inr (among_right xs ys x is)

at_among : (nodes : List Node) (place : ℕ) (none : Node) (x : List ℕ) → place < length nodes → x ≡ spelling (get_or nodes place none) → IsAmong (map spelling nodes) x
at_among [] place none x lt is = absurd (omega arith)
at_among (n ∷ nodes) zero none x lt is = inl is
at_among (n ∷ nodes) (suc place) none x lt is = inr (at_among nodes place none x (omega (arith, lt)) is)

stands_among : (tree : List (List Node)) (level place : ℕ) (x : List ℕ) → Stands tree level place x → IsAmong (map spelling (join tree)) x
stands_among [] level place x stands = absurd (omega (arith, stands.0))
stands_among (nodes ∷ tree) zero place x stands =
    subst (λ (ys : List (List ℕ)). IsAmong ys x) (sym (map-append spelling nodes (join tree))) (among_left (map spelling nodes) (map spelling (join tree)) x (at_among nodes place (Leaf 0 []) x stands.1 stands.2))
stands_among (nodes ∷ tree) (suc level) place x stands =
    subst (λ (ys : List (List ℕ)). IsAmong ys x) (sym (map-append spelling nodes (join tree)))
    (among_right (map spelling nodes) (map spelling (join tree)) x (stands_among tree level place x (omega (arith, stands.0), stands.1, stands.2)))

pub node_among : (p : Publication) (x : List ℕ) → IsNodeIn p x → IsAmong (all_texts p) x
node_among p x (inl e) = inl e
node_among p x (inr (tree, at)) = inr (by tree (stands_among (tree_in p tree) at.0 at.1 x at.2))
  where
    by : (tree : Tree) → IsAmong (texts_in p tree) x → IsAmong (texts_in p Objects ++ (texts_in p Tags ++ (texts_in p Cells ++ texts_in p Backs))) x
    by Objects is = among_left (texts_in p Objects) (texts_in p Tags ++ (texts_in p Cells ++ texts_in p Backs)) x is
    by Tags is = among_right (texts_in p Objects) (texts_in p Tags ++ (texts_in p Cells ++ texts_in p Backs)) x (among_left (texts_in p Tags) (texts_in p Cells ++ texts_in p Backs) x is)
    by Cells is = among_right (texts_in p Objects) (texts_in p Tags ++ (texts_in p Cells ++ texts_in p Backs)) x (among_right (texts_in p Tags) (texts_in p Cells ++ texts_in p Backs) x (among_left (texts_in p Cells) (texts_in p Backs) x is))
    by Backs is = among_right (texts_in p Objects) (texts_in p Tags ++ (texts_in p Cells ++ texts_in p Backs)) x (among_right (texts_in p Tags) (texts_in p Cells ++ texts_in p Backs) x (among_right (texts_in p Cells) (texts_in p Backs) x is))

-- ---- nodes whose digests rise are as many as there are different ones

contained : (xs : List (List ℕ)) (x : List ℕ) → IsAmong xs x → Contains xs x
contained [] x is = absurd is
contained (y ∷ xs) x (inl e) = subst (λ (z : List ℕ). Contains (y ∷ xs) z) (sym e) (here y xs)
contained (y ∷ xs) x (inr is) = in_rest y xs x (contained xs x is)

different : (xs : List (List ℕ)) → AreRising xs → AreDifferent xs
different [] rising = tt
different (x ∷ xs) rising = ((λ is. first_apart x xs rising (contained xs x is)), different xs (rest_rises x xs rising))

-- nodes of a publication by rising digest are fewer than 2^32
pub few_nodes : (p : Publication) (nodes : List (List ℕ)) → IsPublication p → AreRising nodes → ((x : List ℕ) → Contains nodes x → IsNodeIn p x) → length nodes < 2 ^ 32
few_nodes p nodes is rising all =
    let fit = different_fit nodes (all_texts p) (different nodes rising) (λ x among. node_among p x (all x (contained nodes x among))) in
    omega (arith, fit, all_few p is)
