-- What the tree of a list is like: how its levels stand over one another, its nodes, and the entries below them.
use Rattle.std.proofs.Common.{◌≡◌, ℕ, zero, suc, ◌+◌, ◌-◌, ◌^◌, ◌<◌, ◌≤◌, List, [], ◌∷◌, ◌++◌, length, map, None, refl, sym, ap, subst, ◌∙◌, arith}
use Rattle.std.specs.List.{flat_map, AllByRecursion}
use Rattle.std.proofs.lemmas.List.Sums.{sum_by-cons}
use Rattle.std.proofs.Math.Nat.{pow-suc}
use Rattle.tree_node.specs.Digests.{digest}
use Rattle.tree_node.specs.Nodes.{Binding, Link, Node, Leaf, Inner, spelling, keys_of, greatests_of, AreRisingFrom, FitsEntry, FitsLink, IsNode, IsTree}
use Rattle.tree_node.specs.Trees.{Shape, pieces, one_at_least, ends_by, is_marked_entry, is_marked_link, last_key, link_to, leaves, level_over, levels_over, level_at, links_in, entries_in, FitsTree, HasTree}
use Rattle.tree_node.proofs.DigestLemmas.{length-digest}
use Rattle.tree_node.proofs.shared.PieceLemmas.{join, least_joins, pieces_all, pieces_join, some_pieces}
use Rattle.tree_node.proofs.shared.PieceLaws.{IsSized, lasts, pieces_rise, pieces_sized}
use Rattle.tree_node.proofs.shared.TreeLemmas.{AreLevels, HasShort, leaf_numbers, leaf_short, leaves_few, leaves_some, levels_end, level_half, level_numbers, level_short, level_some, numbers_of, over_some, tree_levels}

-- a digest has 32 bytes
pub digest_len : (bytes : List ℕ) → length (digest bytes) ≡ 32
digest_len = length-digest

-- ---- levels, one over the other

-- A level is the one over that below it, which has two nodes or more.
pub level_pair : (shape : Shape) (tree first : ℕ) (nodes : List Node) (above : List (List Node)) (level : ℕ) → AreLevels shape tree first nodes above → suc level < length (nodes ∷ above)
    → (2 ≤ length (level_at (nodes ∷ above) level)) × (level_at (nodes ∷ above) (suc level) ≡ level_over shape tree (first + level) (level_at (nodes ∷ above) level))
level_pair shape tree first nodes [] level are lt = absurd (omega arith)
level_pair shape tree first nodes (a ∷ others) zero are lt =
    let here : first ≡ first + 0 = omega arith in
    (are.0, are.1 ∙ ap (λ n. level_over shape tree n nodes) here)
level_pair shape tree first nodes (a ∷ others) (suc level) are lt =
    let rest = level_pair shape tree (first + 1) a others level are.2 (omega arith) in
    let here : first + 1 + level ≡ first + suc level = omega arith in
    (rest.0, rest.1 ∙ ap (λ n. level_over shape tree n (level_at (a ∷ others) level)) here)

-- each level has a node
pub level_has : (shape : Shape) (tree first : ℕ) (nodes : List Node) (above : List (List Node)) (level : ℕ) → AreLevels shape tree first nodes above → 1 ≤ length nodes → level < length (nodes ∷ above)
    → 1 ≤ length (level_at (nodes ∷ above) level)
level_has shape tree first nodes above zero are some lt = some
level_has shape tree first nodes [] (suc level) are some lt = absurd (omega arith)
level_has shape tree first nodes (a ∷ others) (suc level) are some lt =
    level_has shape tree (first + 1) a others level are.2
    (subst (λ (ns : List Node). 1 ≤ length ns) (sym are.1) (level_some shape tree first nodes some)) (omega arith)

-- the last level has one
pub last_has_one : (shape : Shape) (tree first : ℕ) (nodes : List Node) (above : List (List Node)) → AreLevels shape tree first nodes above → length (level_at (nodes ∷ above) (length (nodes ∷ above) - 1)) ≡ 1
last_has_one shape tree first nodes [] are = are
last_has_one shape tree first nodes (a ∷ others) are =
    let short : suc (suc (length others)) - 1 ≡ suc (length others) = omega arith in
    let shorter : length (a ∷ others) - 1 ≡ length others = omega arith in
    ap (λ n. length (level_at (nodes ∷ a ∷ others) n)) short
    ∙ ap (λ n. length (level_at (a ∷ others) n)) (sym shorter)
    ∙ last_has_one shape tree (first + 1) a others are.2

-- few levels stand over few nodes
pub few_levels : (shape : Shape) (tree first : ℕ) (nodes : List Node) (above : List (List Node)) (most : ℕ) → AreLevels shape tree first nodes above → length nodes ≤ 2 ^ most → length above ≤ most
few_levels shape tree first nodes [] most are few = omega arith
few_levels shape tree first nodes (a ∷ others) zero are few = absurd (omega (arith, are.0, few))
few_levels shape tree first nodes (a ∷ others) (suc most) are few =
    let half = level_half shape tree first nodes in
    let fewer : length a ≤ 2 ^ most = omega (arith, ap (length {A = Node}) are.1, pow-suc 2 most, few, half) in
    let rest = few_levels shape tree (first + 1) a others most are.2 fewer in
    omega arith

-- ---- what nodes hold, joined

links_joined : (tree level : ℕ) (ps : List (List Link)) → flat_map links_in (map (Inner tree level) ps) ≡ join ps
links_joined tree level [] = refl
links_joined tree level (p ∷ ps) = ap (λ (ls : List Link). p ++ ls) (links_joined tree level ps)

-- the items of a level stand for the nodes below it, in order
pub over_joined : (shape : Shape) (tree level : ℕ) (nodes : List Node) → flat_map links_in (level_over shape tree level nodes) ≡ map link_to nodes
over_joined shape tree level nodes =
    links_joined tree level (pieces (ends_by shape is_marked_link) (map link_to nodes)) ∙ pieces_join (ends_by shape is_marked_link) [] (map link_to nodes)

entries_joined : (tree : ℕ) (ps : List (List Binding)) → flat_map entries_in (map (Leaf tree) ps) ≡ join ps
entries_joined tree [] = refl
entries_joined tree (p ∷ ps) = ap (λ (es : List Binding). p ++ es) (entries_joined tree ps)

-- the entries of the leaves are the list
pub leaves_joined : (shape : Shape) (tree : ℕ) (entries : List Binding) → flat_map entries_in (leaves shape tree entries) ≡ entries
leaves_joined shape tree entries =
    let ps = pieces (ends_by shape is_marked_entry) entries in
    entries_joined tree (one_at_least ps) ∙ least_joins ps ∙ pieces_join (ends_by shape is_marked_entry) [] entries

-- ---- each node is a node

-- What is known of the items that stand for the nodes of a level, where there are entries: they are an inner node's.
pub record AreLinks (links : List Link) : Type 0 where
  pub short : AllByRecursion HasShort links
  pub some : AllByRecursion (λ (l : Link). 1 ≤ l.number) links
  pub total : numbers_of links ≤ 536870912
  pub child : AllByRecursion (λ (l : Link). length l.child ≡ 32) links
  pub rising : AreRisingFrom None (greatests_of links)

children_named : (nodes : List Node) → AllByRecursion (λ (l : Link). length l.child ≡ 32) (map link_to nodes)
children_named [] = tt
children_named (n ∷ ns) = (length-digest (spelling n), children_named ns)

-- a sum over some items of which each is one or more
some_sum : (links : List Link) → 1 ≤ length links → AllByRecursion (λ (l : Link). 1 ≤ l.number) links → 1 ≤ numbers_of links
some_sum [] some all = absurd (omega arith)
some_sum (l ∷ ls) some all = omega (arith, sum_by-cons (λ (m : Link). m.number) l ls, all.0)

some_over : (tree level : ℕ) (ps : List (List Link)) → AllByRecursion IsSized ps → AllByRecursion (AllByRecursion (λ (l : Link). 1 ≤ l.number)) ps
    → AllByRecursion (λ (l : Link). 1 ≤ l.number) (map link_to (map (Inner tree level) ps))
some_over tree level [] sized all = tt
some_over tree level (p ∷ ps) sized all = (some_sum p sized.0.0 all.0, some_over tree level ps sized.1 all.1)

greatests_over : (tree level : ℕ) (ps : List (List Link)) → greatests_of (map link_to (map (Inner tree level) ps)) ≡ lasts (λ (l : Link). l.greatest) ps
greatests_over tree level [] = refl
greatests_over tree level (p ∷ ps) = ap (λ (ks : List (List ℕ)). last_key (greatests_of p) ∷ ks) (greatests_over tree level ps)

-- from level to level
pub links_over : (shape : Shape) (tree level : ℕ) (nodes : List Node) → 1 ≤ length nodes → AreLinks (map link_to nodes) → AreLinks (map link_to (level_over shape tree level nodes))
links_over shape tree level nodes some are =
    let ps = pieces (ends_by shape is_marked_link) (map link_to nodes) in
    let sized = pieces_sized shape is_marked_link (map link_to nodes) in
    let all = λ (P : Link → Type 0) (h : AllByRecursion P (map link_to nodes)). subst (λ (qs : List (List Link)). AllByRecursion (AllByRecursion P) qs) (over_some shape nodes some) (pieces_all P (ends_by shape is_marked_link) (map link_to nodes) h) in
    let rise = pieces_rise (λ (l : Link). l.greatest) None ps sized
    (subst (λ (ls : List Link). AreRisingFrom None (greatests_of ls)) (sym (pieces_join (ends_by shape is_marked_link) [] (map link_to nodes))) are.rising) in
    record {
      short = level_short shape tree level nodes some are.short;
      some = some_over tree level ps sized (all (λ (l : Link). 1 ≤ l.number) are.some);
      total = omega (arith, level_numbers shape tree level nodes, are.total);
      child = children_named (level_over shape tree level nodes);
      rising = subst (λ (ks : List (List ℕ)). AreRisingFrom None ks) (sym (greatests_over tree level ps)) rise.1;
    }

-- the items are an inner node's
fit_all : (links : List Link) → AllByRecursion HasShort links → AllByRecursion (λ (l : Link). 1 ≤ l.number) links → AllByRecursion (λ (l : Link). length l.child ≡ 32) links → numbers_of links ≤ 536870912
    → AllByRecursion FitsLink links
fit_all [] short some child total = tt
fit_all (l ∷ ls) short some child total =
    let sum = sum_by-cons (λ (m : Link). m.number) l ls in
    (record { greatest = omega (arith, short.0); some = some.0; number = omega (arith, sum, total); child = child.0 }, fit_all ls short.1 some.1 child.1 (omega (arith, sum, total)))

nodes_over : (tree level : ℕ) (ps : List (List Link)) → IsTree tree → 1 ≤ level → level ≤ 63 → AllByRecursion IsSized ps → AllByRecursion (AllByRecursion FitsLink) ps
    → AllByRecursion (λ (p : List Link). AreRisingFrom None (greatests_of p)) ps → AllByRecursion IsNode (map (Inner tree level) ps)
nodes_over tree level [] is low high sized fit rise = tt
nodes_over tree level (p ∷ ps) is low high sized fit rise =
    ((is, low, high, sized.0.0, sized.0.1, fit.0, rise.0), nodes_over tree level ps is low high sized.1 fit.1 rise.1)

-- each node of the level over others is a node
pub over_nodes : (shape : Shape) (tree level : ℕ) (nodes : List Node) → IsTree tree → 1 ≤ level → level ≤ 63 → 1 ≤ length nodes → AreLinks (map link_to nodes) → AllByRecursion IsNode (level_over shape tree level nodes)
over_nodes shape tree level nodes is low high some are =
    let ps = pieces (ends_by shape is_marked_link) (map link_to nodes) in
    let sized = pieces_sized shape is_marked_link (map link_to nodes) in
    let fit = subst (λ (qs : List (List Link)). AllByRecursion (AllByRecursion FitsLink) qs) (over_some shape nodes some)
    (pieces_all FitsLink (ends_by shape is_marked_link) (map link_to nodes) (fit_all (map link_to nodes) are.short are.some are.child are.total)) in
    let rise = pieces_rise (λ (l : Link). l.greatest) None ps sized
    (subst (λ (ls : List Link). AreRisingFrom None (greatests_of ls)) (sym (pieces_join (ends_by shape is_marked_link) [] (map link_to nodes))) are.rising) in
    nodes_over tree level ps is low high sized fit rise.0

-- ---- leaves

fits_entry : (entries : List Binding) → AllByRecursion FitsTree entries → AllByRecursion FitsEntry entries
fits_entry [] all = tt
fits_entry (e ∷ es) all = (record { key = omega (arith, all.0.key); value = omega (arith, all.0.value) }, fits_entry es all.1)

leaf_nodes : (tree : ℕ) (ps : List (List Binding)) → IsTree tree → AllByRecursion IsSized ps → AllByRecursion (AllByRecursion FitsEntry) ps → AllByRecursion (λ (p : List Binding). AreRisingFrom None (keys_of p)) ps
    → AllByRecursion IsNode (map (Leaf tree) ps)
leaf_nodes tree [] is sized fit rise = tt
leaf_nodes tree (p ∷ ps) is sized fit rise = ((is, sized.0.1, fit.0, rise.0), leaf_nodes tree ps is sized.1 fit.1 rise.1)

some_leaves : (tree : ℕ) (ps : List (List Binding)) → AllByRecursion IsSized ps → AllByRecursion (λ (l : Link). 1 ≤ l.number) (map link_to (map (Leaf tree) ps))
some_leaves tree [] sized = tt
some_leaves tree (p ∷ ps) sized = (sized.0.0, some_leaves tree ps sized.1)

greatests_leaves : (tree : ℕ) (ps : List (List Binding)) → greatests_of (map link_to (map (Leaf tree) ps)) ≡ lasts (λ (e : Binding). e.key) ps
greatests_leaves tree [] = refl
greatests_leaves tree (p ∷ ps) = ap (λ (ks : List (List ℕ)). last_key (keys_of p) ∷ ks) (greatests_leaves tree ps)

module _ (shape : Shape) (tree : ℕ) (entries : List Binding) (has : HasTree entries) (some : 1 ≤ length entries) where
  abbrev cut : List (List Binding)
  cut = pieces (ends_by shape is_marked_entry) entries

  cut_some : one_at_least cut ≡ cut
  cut_some = some_pieces (ends_by shape is_marked_entry) entries some

  cut_rises : AllByRecursion (λ (p : List Binding). AreRisingFrom None (keys_of p)) cut × AreRisingFrom None (lasts (λ (e : Binding). e.key) cut)
  cut_rises = pieces_rise (λ (e : Binding). e.key) None cut (pieces_sized shape is_marked_entry entries)
      (subst (λ (es : List Binding). AreRisingFrom None (keys_of es)) (sym (pieces_join (ends_by shape is_marked_entry) [] entries)) has.rising)

  -- the items that stand for the leaves are an inner node's
  pub links_leaves : AreLinks (map link_to (leaves shape tree entries))
  links_leaves = record {
    short = leaf_short shape tree entries has.fit;
    some = subst (λ (ps : List (List Binding)). AllByRecursion (λ (l : Link). 1 ≤ l.number) (map link_to (map (Leaf tree) ps))) (sym cut_some) (some_leaves tree cut (pieces_sized shape is_marked_entry entries));
    total = omega (arith, leaf_numbers shape tree entries, has.few);
    child = children_named (leaves shape tree entries);
    rising = subst (λ (ps : List (List Binding)). AreRisingFrom None (greatests_of (map link_to (map (Leaf tree) ps)))) (sym cut_some)
        (subst (λ (ks : List (List ℕ)). AreRisingFrom None ks) (sym (greatests_leaves tree cut)) cut_rises.1);
  }

  -- each leaf is a node
  pub nodes_leaves : IsTree tree → AllByRecursion IsNode (leaves shape tree entries)
  nodes_leaves is =
      let fit = subst (λ (ps : List (List Binding)). AllByRecursion (AllByRecursion FitsEntry) ps) cut_some (pieces_all FitsEntry (ends_by shape is_marked_entry) entries (fits_entry entries has.fit)) in
      subst (λ (ps : List (List Binding)). AllByRecursion IsNode (map (Leaf tree) ps)) (sym cut_some) (leaf_nodes tree cut is (pieces_sized shape is_marked_entry entries) fit cut_rises.0)

-- each leaf is a node, of the empty list too
pub all_leaves : (shape : Shape) (tree : ℕ) (entries : List Binding) → HasTree entries → IsTree tree → AllByRecursion IsNode (leaves shape tree entries)
all_leaves shape tree [] has is = ((is, (omega arith), tt, tt), tt)
all_leaves shape tree (e ∷ es) has is = nodes_leaves shape tree (e ∷ es) has (omega arith) is

-- ---- the tree

module _ (shape : Shape) (tree : ℕ) (entries : List Binding) where
  -- the levels over the leaves
  abbrev pub above : List (List Node)
  above = levels_over (length (leaves shape tree entries)) shape tree 1 (leaves shape tree entries)

  -- the levels, written out
  abbrev pub whole : List (List Node)
  whole = leaves shape tree entries ∷ above

  pub pair_at : (level : ℕ) → suc level < length whole → (2 ≤ length (level_at whole level)) × (level_at whole (suc level) ≡ level_over shape tree (suc level) (level_at whole level))
  pair_at level lt =
      let pair = level_pair shape tree 1 (leaves shape tree entries) above level (tree_levels shape tree entries) lt in
      let here : 1 + level ≡ suc level = omega arith in
      (pair.0, pair.1 ∙ ap (λ n. level_over shape tree n (level_at whole level)) here)

  pub has_at : (level : ℕ) → level < length whole → 1 ≤ length (level_at whole level)
  has_at level lt = level_has shape tree 1 (leaves shape tree entries) above level (tree_levels shape tree entries) (leaves_some shape tree entries) lt

  pub whole_few : HasTree entries → length whole ≤ 30
  whole_few has =
      let few = leaves_few shape tree entries (2 ^ 29) (omega arith) has.few in
      let rest = few_levels shape tree 1 (leaves shape tree entries) above 29 (tree_levels shape tree entries) few in
      omega arith

  -- where there are two levels there are entries
  pub entries_some : (level : ℕ) → suc level < length whole → 1 ≤ length entries
  entries_some level lt = by entries lt
    where
      by : (es : List Binding) → suc level < length (leaves shape tree es ∷ levels_over (length (leaves shape tree es)) shape tree 1 (leaves shape tree es)) → 1 ≤ length es
      by [] two = absurd (omega (arith, two, ap (length {A = List Node}) (levels_end (length (leaves shape tree [])) shape tree 1 (leaves shape tree []) (omega arith))))
      by (e ∷ es) two = omega arith

  pub links_at : HasTree entries → 1 ≤ length entries → (level : ℕ) → level < length whole → AreLinks (map link_to (level_at whole level))
  links_at has some zero lt = links_leaves shape tree entries has some
  links_at has some (suc level) lt =
      subst (λ (ns : List Node). AreLinks (map link_to ns)) (sym (pair_at level lt).1)
      (links_over shape tree (suc level) (level_at whole level) (has_at level (omega arith)) (links_at has some level (omega arith)))

  -- each node is a node
  pub nodes_at : HasTree entries → IsTree tree → (level : ℕ) → level < length whole → AllByRecursion IsNode (level_at whole level)
  nodes_at has is zero lt = all_leaves shape tree entries has is
  nodes_at has is (suc level) lt =
      subst (λ (ns : List Node). AllByRecursion IsNode ns) (sym (pair_at level lt).1)
      (over_nodes shape tree (suc level) (level_at whole level) is (omega arith) (omega (arith, whole_few has)) (has_at level (omega arith)) (links_at has (entries_some level lt) level (omega arith)))
