-- How many bytes nodes have.
use Rattle.std.proofs.Common.{◌≡◌, ℕ, ◌+◌, ◌<◌, List, [], ◌∷◌, ◌++◌, length, get_or, take, sum_by, refl, ap, ◌∙◌, length-append, arith}
use Rattle.std.specs.List.{flat_map}
use Rattle.std.specs.Int.{w16, w32, to_be_bytes}
use Rattle.std.proofs.lemmas.Grind.{flat_map-append}
use Rattle.std.proofs.lemmas.List.{append-nil, map-append, take_more}
use Rattle.std.proofs.lemmas.List.Sums.{sum_by-append}
use Rattle.tree_node.specs.Nodes.{Binding, Link, entry}
use Rattle.tree_node.specs.NodeRefs.{binding_of, bindings_of, link_of, links_of}
use Rattle.tree_node.specs.declared.child.Child.{Child}
use Rattle.tree_node.specs.declared.item.Item.{Item}

-- an entry has its two lengths, its key and its value
entry_length : (e : Binding) → length (entry e) ≡ 6 + (length e.key + length e.value)
entry_length e =
    let two : length (to_be_bytes w16 (length e.key)) ≡ 2 = refl in
    let four : length (to_be_bytes w32 (length e.value)) ≡ 4 = refl in
    omega (
      arith,
      two,
      four,
      length-append (to_be_bytes w16 (length e.key)) (e.key ++ (to_be_bytes w32 (length e.value) ++ e.value)),
      length-append e.key (to_be_bytes w32 (length e.value) ++ e.value),
      length-append (to_be_bytes w32 (length e.value)) e.value,
    )

-- the bytes of the entries up to one, and with it
pub entries_more : (entries : List Item) (i : ℕ) (d : Item) → i < length entries
    → length (flat_map entry (bindings_of (take (i + 1) entries))) ≡ length (flat_map entry (bindings_of (take i entries))) + (6 + (length (get_or entries i d).key.now + length (get_or entries i d).value.now))
entries_more entries i d lt =
    let one : Binding = binding_of (get_or entries i d) in
    let front : List Binding = bindings_of (take i entries) in
    ap (λ (es : List Item). length (flat_map entry (bindings_of es))) (take_more entries i d lt)
    ∙ ap (λ (bs : List Binding). length (flat_map entry bs)) (map-append binding_of (take i entries) (get_or entries i d ∷ []))
    ∙ ap (length {A = ℕ}) (flat_map-append entry front (one ∷ []))
    ∙ length-append (flat_map entry front) (flat_map entry (one ∷ []))
    ∙ ap (λ (bytes : List ℕ). length (flat_map entry front) + length bytes) (append-nil (entry one))
    ∙ ap (λ (n : ℕ). length (flat_map entry front) + n) (entry_length one)

-- the bytes of a child in an inner node
abbrev pub child_length : Link → ℕ
child_length link = 42 + length link.greatest

-- the bytes of the children up to one, and with it
pub children_more : (children : List Child) (i : ℕ) (d : Child) → i < length children
    → sum_by child_length (links_of (take (i + 1) children)) ≡ sum_by child_length (links_of (take i children)) + (42 + length (get_or children i d).greatest.now)
children_more children i d lt =
    ap (λ (cs : List Child). sum_by child_length (links_of cs)) (take_more children i d lt)
    ∙ ap (sum_by child_length) (map-append link_of (take i children) (get_or children i d ∷ []))
    ∙ sum_by-append child_length (links_of (take i children)) (link_of (get_or children i d) ∷ [])
    ∙ omega arith
