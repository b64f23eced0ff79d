-- The greatest keys below the nodes of a tree.
use Rattle.std.proofs.Common.{◌≡◌, ℕ, zero, suc, ◌<◌, ◌≤◌, List, [], ◌∷◌, ◌++◌, length, get_or, map, take, drop, refl, sym, ap, ◌∙◌, arith, length-append}
use Rattle.std.specs.List.{AllByRecursion}
use Rattle.std.proofs.lemmas.List.{append-nil, drop-map, drop_at, get_or-map, length-map, map-append, take-map, take_at}
use Rattle.tree_node.specs.Nodes.{Binding, Link, Node, Leaf, Inner, keys_of}
use Rattle.tree_node.specs.Trees.{Shape, pieces, one_at_least, ends_by, is_marked_entry, is_marked_link, last_key, greatest_of, link_to, level_at, node_in, no_node, entries_in, below_each, entries_at, entries_below, HasTree}
use Rattle.tree_node.proofs.shared.PieceLemmas.{join, pieces_join}
use Rattle.tree_node.proofs.shared.PieceLaws.{IsSized, pieces_sized}
use Rattle.tree_node.proofs.shared.TreeLaws.{entries_some, links_at, pair_at, whole}
use Rattle.tree_node.proofs.shared.TreeParts.{counts_at, number_in, numbers_linked, parts_at}

-- ---- last keys of lists, one after the other

-- it has an entry
abbrev HasSome : List Binding → Type 0
HasSome part = 1 ≤ length part

-- the last key of some entries
abbrev pub last_of : List Binding → List ℕ
last_of part = last_key (keys_of part)

last_after : (keys : List (List ℕ)) (key : List ℕ) (others : List (List ℕ)) → last_key (keys ++ key ∷ others) ≡ last_key (key ∷ others)
last_after [] key others = refl
last_after (k ∷ []) key others = refl
last_after (k ∷ l ∷ keys) key others = last_after (l ∷ keys) key others

last_append : (xs ys : List Binding) → HasSome ys → last_of (xs ++ ys) ≡ last_of ys
last_append xs [] some = absurd (omega arith)
last_append xs (y ∷ ys) some = ap last_key (map-append (λ (e : Binding). e.key) xs (y ∷ ys)) ∙ last_after (keys_of xs) y.key (keys_of ys)

last_joined : (part : List Binding) (parts : List (List Binding)) → AllByRecursion HasSome (part ∷ parts) → last_of (join (part ∷ parts)) ≡ last_key (map last_of (part ∷ parts))
last_joined part [] some = ap last_of (append-nil part)
last_joined part (next ∷ parts) some =
    last_append part (join (next ∷ parts)) (omega (arith, length-append next (join parts), some.1.0)) ∙ last_joined next parts some.1

last_of_parts : (parts : List (List Binding)) → 1 ≤ length parts → AllByRecursion HasSome parts → last_of (join parts) ≡ last_key (map last_of parts)
last_of_parts [] one some = absurd (omega arith)
last_of_parts (part ∷ parts) one some = last_joined part parts some

-- ---- the greatest key below each node

-- the greatest keys that links state
abbrev greatest_in : Link → List ℕ
greatest_in link = link.greatest

some_taken : (n : ℕ) (parts : List (List Binding)) → AllByRecursion HasSome parts → AllByRecursion HasSome (take n parts)
some_taken zero parts all = tt
some_taken (suc n) [] all = tt
some_taken (suc n) (part ∷ parts) all = (all.0, some_taken n parts all.1)

some_dropped : (n : ℕ) (parts : List (List Binding)) → AllByRecursion HasSome parts → AllByRecursion HasSome (drop n parts)
some_dropped zero parts all = all
some_dropped (suc n) [] all = tt
some_dropped (suc n) (part ∷ parts) all = some_dropped n parts all.1

below_greatests : (tree level : ℕ) (ps : List (List Link)) (parts : List (List Binding)) → AllByRecursion IsSized ps → AllByRecursion HasSome parts → map last_of parts ≡ map greatest_in (join ps)
    → map last_of (below_each (map (Inner tree level) ps) parts) ≡ map greatest_of (map (Inner tree level) ps)
below_greatests tree level [] parts sized some e = refl
below_greatests tree level (p ∷ ps) parts sized some e =
    let all : map last_of parts ≡ map greatest_in p ++ map greatest_in (join ps) = e ∙ map-append greatest_in p (join ps) in
    let size : length (map greatest_in p) ≡ length p = length-map p greatest_in in
    let front : map last_of (take (length p) parts) ≡ map greatest_in p =
    sym (take-map last_of (length p) parts) ∙ ap (λ (ks : List (List ℕ)). take (length p) ks) all ∙ take_at (map greatest_in p) (map greatest_in (join ps)) (length p) size in
    let back : map last_of (drop (length p) parts) ≡ map greatest_in (join ps) =
    sym (drop-map last_of (length p) parts) ∙ ap (λ (ks : List (List ℕ)). drop (length p) ks) all ∙ drop_at (map greatest_in p) (map greatest_in (join ps)) (length p) size in
    let many : 1 ≤ length (take (length p) parts) = omega (arith, sized.0.0, length-map (take (length p) parts) last_of, ap (length {A = List ℕ}) front, size) in
    let first : last_of (join (take (length p) parts)) ≡ last_key (map greatest_in p) = last_of_parts (take (length p) parts) many (some_taken (length p) parts some) ∙ ap last_key front in
    ap (λ (k : List ℕ). k ∷ map last_of (below_each (map (Inner tree level) ps) (drop (length p) parts))) first
    ∙ ap (λ (ks : List (List ℕ)). last_key (map greatest_in p) ∷ ks) (below_greatests tree level ps (drop (length p) parts) sized.1 (some_dropped (length p) parts some) back)

leaf_greatests : (tree : ℕ) (ps : List (List Binding)) → map last_of (map entries_in (map (Leaf tree) ps)) ≡ map greatest_of (map (Leaf tree) ps)
leaf_greatests tree [] = refl
leaf_greatests tree (p ∷ ps) = ap (λ (ks : List (List ℕ)). last_of p ∷ ks) (leaf_greatests tree ps)

greatests_linked : (nodes : List Node) → map greatest_of nodes ≡ map greatest_in (map link_to nodes)
greatests_linked [] = refl
greatests_linked (n ∷ ns) = ap (λ (ks : List (List ℕ)). greatest_of n ∷ ks) (greatests_linked ns)

-- lists with these lengths, each one or more
some_counted : (parts : List (List Binding)) (links : List Link) → map (length {A = Binding}) parts ≡ map number_in links → AllByRecursion (λ (l : Link). 1 ≤ l.number) links → AllByRecursion HasSome parts
some_counted [] links e some = tt
some_counted (part ∷ parts) [] e some = absurd cc
some_counted (part ∷ parts) (l ∷ ls) e some =
    let head : length part ≡ l.number = cc in
    let tail : map (length {A = Binding}) parts ≡ map number_in ls = cc in
    (omega (arith, some.0), some_counted parts ls tail some.1)

module _ (shape : Shape) (tree : ℕ) (entries : List Binding) (has : HasTree entries) where
  abbrev ls : List (List Node)
  ls = whole shape tree entries

  -- entries stand below each node
  pub some_at : 1 ≤ length entries → (level : ℕ) → level < length ls → AllByRecursion HasSome (entries_at ls level)
  some_at some level lt =
      some_counted (entries_at ls level) (map link_to (level_at ls level)) (counts_at shape tree entries level lt ∙ numbers_linked (level_at ls level)) (links_at shape tree entries has some level lt).some

  -- the greatest key of each node is the last one of the entries below it
  pub greatests_at : (level : ℕ) → level < length ls → map last_of (entries_at ls level) ≡ map greatest_of (level_at ls level)
  unfolding entries_at
  greatests_at zero lt = leaf_greatests tree (one_at_least (pieces (ends_by shape is_marked_entry) entries))
  greatests_at (suc level) lt =
      let nodes = level_at ls level in
      let ps = pieces (ends_by shape is_marked_link) (map link_to nodes) in
      let over = (pair_at shape tree entries level lt).1 in
      let below = greatests_at level (omega arith) ∙ greatests_linked nodes ∙ ap (map greatest_in) (sym (pieces_join (ends_by shape is_marked_link) [] (map link_to nodes))) in
      ap (λ (ns : List Node). map last_of (below_each ns (entries_at ls level))) over
      ∙ below_greatests tree (suc level) ps (entries_at ls level) (pieces_sized shape is_marked_link (map link_to nodes)) (some_at (entries_some shape tree entries level lt) level (omega arith)) below
      ∙ ap (map greatest_of) (sym over)

  pub greatest_below : (level place : ℕ) → level < length ls → place < length (level_at ls level) → greatest_of (node_in ls level place) ≡ last_of (entries_below ls level place)
  greatest_below level place lt at =
      sym (get_or-map greatest_of (level_at ls level) place no_node [] at)
      ∙ ap (λ (ks : List (List ℕ)). get_or ks place []) (sym (greatests_at level lt))
      ∙ get_or-map last_of (entries_at ls level) place [] [] (omega (arith, parts_at shape tree entries level lt))
