-- What is said of parts is said of their nodes.
use Rattle.std.proofs.Common.{◌≡◌, ℕ, zero, suc, ◌<◌, List, [], ◌∷◌, length, get_or, refl, sym, ap, subst, ◌∙◌, arith}
use Rattle.std.specs.List.{Contains}
use Rattle.std.proofs.lemmas.List.{get_or-map, length-map}
use Rattle.tree_node.specs.Digests.{digest}
use Rattle.tree_node.specs.Order.{IsBelow}
use Rattle.tree_node.specs.Parts.{HaveNode, HaveRisingDigests, node_of}
use Rattle.tree_node.specs.declared.part.Part.{Part}
use Rattle.osm_prove.specs.Proofs.{AreRising, nodes_of}

-- the node at a place
node_at : (parts : List Part) (i : ℕ) (p : Part) (x : List ℕ) → i < length parts → get_or (nodes_of parts) i x ≡ node_of (get_or parts i p)
node_at parts i p x lt = get_or-map node_of parts i p x lt

-- parts whose digests rise have nodes whose digests rise
pub nodes_rise : (parts : List Part) → HaveRisingDigests parts → AreRising (nodes_of parts)
nodes_rise [] rising = λ i j d lt fits. absurd (omega arith)
nodes_rise (p ∷ ps) rising = λ i j d lt fits.
    let within : j < length (p ∷ ps) = omega (arith, length-map (p ∷ ps) node_of, fits) in
    let first = node_at (p ∷ ps) i p d (omega arith) in
    let second = node_at (p ∷ ps) j p d within in
    subst (λ (x : List ℕ). IsBelow (digest x) (digest (get_or (nodes_of (p ∷ ps)) j d))) (sym first)
    (subst (λ (y : List ℕ). IsBelow (digest (node_of (get_or (p ∷ ps) i p))) (digest y)) (sym second) (rising i j p lt within))

-- and the other way round
pub parts_rise : (parts : List Part) → AreRising (nodes_of parts) → HaveRisingDigests parts
parts_rise parts rising = λ i j d lt fits.
    let first = node_at parts i d (node_of d) (omega arith) in
    let second = node_at parts j d (node_of d) fits in
    subst (λ (x : List ℕ). IsBelow (digest x) (digest (node_of (get_or parts j d)))) first
    (subst (λ (y : List ℕ). IsBelow (digest (get_or (nodes_of parts) i (node_of d))) (digest y)) second (rising i j (node_of d) lt (omega (arith, length-map parts node_of))))

-- a node of a part is among the nodes
pub node_among : (parts : List Part) (x : List ℕ) → HaveNode parts x → Contains (nodes_of parts) x
node_among parts x (k, p, lt, is, e) = (k, omega (arith, length-map parts node_of), node_at parts k p x lt ∙ ap node_of is ∙ e)

-- a node among the nodes is one of a part
pub among_parts : (parts : List Part) (x : List ℕ) → Contains (nodes_of parts) x → HaveNode parts x
among_parts [] x (k, lt, is) = absurd (omega arith)
among_parts (p ∷ ps) x (zero, lt, is) = (zero, p, omega arith, refl, is)
among_parts (p ∷ ps) x (suc k, lt, is) =
    let more = among_parts ps x (k, omega (arith, lt), is) in
    (suc more.0, more.1, omega (arith, more.2), more.3, more.4)
