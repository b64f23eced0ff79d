-- A build that goes up from level to level.
use Rattle.std.proofs.Common.{◌≡◌, ℕ, zero, suc, ◌+◌, ◌-◌, ◌^◌, ◌<◌, ◌≤◌, List, [], ◌∷◌, ◌++◌, length, get_or, map, ◌⊎◌, inl, inr, Result, Err, refl, sym, ap, subst, ◌∙◌, append_assoc, length-append, arith}
use Rattle.std.specs.List.{AllByRecursion}
use Rattle.std.proofs.lemmas.List.{append-nil, length-map}
use Rattle.std.proofs.lemmas.Grind.{flat_map-append}
use Rattle.std.proofs.Math.Nat.{pow-suc}
use Rattle.tree_node.specs.Digests.{digest}
use Rattle.tree_node.specs.Nodes.{Binding, Link, Node, Inner, spelling}
use Rattle.tree_node.specs.NodeRefs.{link_of, links_of}
use Rattle.tree_node.specs.Trees.{Shape, pieces, one_at_least, ends_by, is_marked_link, link_to, leaves, level_over, levels_over, levels, level_at, no_node, top_of, Stands, IsNodeOf, HasTree}
use Rattle.tree_node.specs.Outcomes.{Clash as Clashes, GrownByAll}
use Rattle.tree_node.specs.Shelves.{IsClashFree}
use Rattle.tree_node.specs.declared.child.Child.{Child}
use Rattle.tree_node.proofs.shared.PieceLemmas.{join}
use Rattle.tree_node.proofs.shared.TreeLemmas.{tree_is, leaves_some, leaves_few, level_some, level_half, levels_step, levels_end, over_some, level_numbers, leaf_numbers, level_short, leaf_short, numbers_of, HasShort}
use Rattle.tree_build.specs.declared.fault.BuildFault.{BuildFault}
use Rattle.tree_build.specs.declared.fault.BuildFault.TheVariants.{Clash}
use Rattle.tree_build.specs.internal.Building.{AreWithin, IsOneOf, PutAll}
use Rattle.tree_build.proofs.StockLemmas.{one_of_first, one_of_last, one_of_parts, gained_none, gained_more, put_stopped}

-- ---- the nodes of a tree, by their places or one level after the other

place_of : (nodes : List Node) (bytes : List ℕ) → IsOneOf nodes bytes → (i : ℕ) × (i < length nodes) × (bytes ≡ spelling (get_or nodes i no_node))
place_of [] bytes none = absurd none
place_of (n ∷ ns) bytes is = elim is [
  | inl here ↦ (zero, (omega arith), here)
  | inr there ↦ let at = place_of ns bytes there in (suc at.0, (omega (arith, at.1)), at.2)
]

-- one of the nodes of all levels stands somewhere
pub place_in : (tree : List (List Node)) (bytes : List ℕ) → IsOneOf (join tree) bytes → IsNodeOf tree bytes
place_in [] bytes none = absurd none
place_in (nodes ∷ others) bytes is = elim (one_of_parts nodes (join others) bytes is) [
  | inl here ↦ let at = place_of nodes bytes here in (zero, at.0, (omega arith, at.1, at.2))
  | inr there ↦ let at = place_in others bytes there in (suc at.0, at.1, (omega (arith, at.2.0), at.2.1, at.2.2))
]

one_at : (nodes : List Node) (i : ℕ) (bytes : List ℕ) → i < length nodes → bytes ≡ spelling (get_or nodes i no_node) → IsOneOf nodes bytes
one_at [] i bytes lt is = absurd (omega arith)
one_at (n ∷ ns) zero bytes lt is = inl is
one_at (n ∷ ns) (suc i) bytes lt is = inr (one_at ns i bytes (omega arith) is)

-- what stands somewhere is one of the nodes of all levels
pub one_in : (tree : List (List Node)) (l i : ℕ) (bytes : List ℕ) → Stands tree l i bytes → IsOneOf (join tree) bytes
one_in [] l i bytes at = absurd (omega (arith, at.0))
one_in (nodes ∷ others) zero i bytes at = one_of_first nodes (join others) bytes (one_at nodes i bytes at.1 at.2)
one_in (nodes ∷ others) (suc l) i bytes at = one_of_last nodes (join others) bytes (one_in others l i bytes (omega (arith, at.0), at.1, at.2))

-- what a build promises of the stock, of the tree's nodes by their places
module _ {A : Type 0} (result : Result A BuildFault) (old new : List ℕ → Type 0) (tree : List (List Node)) (put : PutAll result old new (join tree)) where
  pub only_nodes : (bytes : List ℕ) → new bytes → old bytes ⊎ IsNodeOf tree bytes
  only_nodes bytes has = elim (put.only bytes has) [ inl was ↦ inl was | inr one ↦ inr (place_in tree bytes one) ]

  pub clashing_nodes : result ≡ Err Clash → Clashes (λ bytes. old bytes ⊎ IsNodeOf tree bytes) (IsNodeOf tree)
  clashing_nodes e =
      let clash = put.clash e in
      (clash.0, clash.1, elim clash.2 [ inl was ↦ inl was | inr one ↦ inr (place_in tree clash.0 one) ], place_in tree clash.1 clash.3, clash.4, clash.5)

pub gained_nodes : (old new : List ℕ → Type 0) (tree : List (List Node)) → GrownByAll old new (IsOneOf (join tree)) → GrownByAll old new (IsNodeOf tree)
gained_nodes old new tree gained bytes = (
  (λ has. elim ((gained bytes).0 has) [ inl was ↦ inl was | inr one ↦ inr (place_in tree bytes one) ]),
  (λ is. elim is [ inl was ↦ (gained bytes).1 (inl was) | inr at ↦ (gained bytes).1 (inr (one_in tree at.0 at.1 bytes at.2)) ]),
)

-- where all nodes of the tree were put into a set without a clash, none of them clashes
pub none_clash : (old new : List ℕ → Type 0) (tree : List (List Node)) → GrownByAll old new (IsNodeOf tree) → IsClashFree new → Clashes (λ bytes. old bytes ⊎ IsNodeOf tree bytes) (IsNodeOf tree) → ⊥
none_clash old new tree gained free (a, b, is_a, is_b, parent_changes, same) = parent_changes (free a b ((gained a).1 is_a) ((gained b).1 (inr is_b)) same)

-- ---- from level to level

-- The levels up to one of them were put, and what an inner node says of each node of that one is at hand. The next
-- level has this number.
pub record Rising (shape : Shape) (tree : ℕ) (entries : List Binding) (level : ℕ) (links : List Link) (old new : List ℕ → Type 0) : Type 0 where
  pub nodes : List Node
  pub below : List (List Node)
  pub steps : ℕ
  pub left : ℕ
  pub whole : levels shape tree entries ≡ below ++ nodes ∷ levels_over steps shape tree level nodes
  pub enough : length nodes ≤ steps
  pub linked : links ≡ map link_to nodes
  pub some : 1 ≤ length nodes
  pub short : AllByRecursion HasShort (map link_to nodes)
  pub numbers : numbers_of (map link_to nodes) ≤ 536870912
  pub gained : GrownByAll old new (IsOneOf (join (below ++ nodes ∷ [])))
  pub falls : level + left ≡ 30
  pub few : length nodes ≤ 2 ^ left

-- the leaves were put
pub rising_first : (shape : Shape) (tree : ℕ) (entries : List Binding) (links : List Link) (old new : List ℕ → Type 0) → HasTree entries
    → links ≡ map link_to (leaves shape tree entries) → GrownByAll old new (IsOneOf (leaves shape tree entries)) → Rising shape tree entries 1 links old new
rising_first shape tree entries links old new has linked gained = record {
  nodes = leaves shape tree entries;
  below = [];
  steps = length (leaves shape tree entries);
  left = 29;
  whole = tree_is shape tree entries;
  enough = omega arith;
  linked = linked;
  some = leaves_some shape tree entries;
  short = leaf_short shape tree entries has.fit;
  numbers = omega (arith, leaf_numbers shape tree entries, has.few);
  gained = subst (λ (ns : List Node). GrownByAll old new (IsOneOf ns)) (sym (append-nil (leaves shape tree entries))) gained;
  falls = refl;
  few = leaves_few shape tree entries (2 ^ 29) (omega arith) has.few;
}

-- a refused leaf
pub rising_none : {A B : Type 0} (step : Result A BuildFault) (whole : Result B BuildFault) (fault : BuildFault) (shape : Shape) (tree : ℕ) (entries : List Binding) (old new : List ℕ → Type 0)
    → PutAll step old new (leaves shape tree entries) → step ≡ Err fault → whole ≡ Err fault → PutAll whole old new (join (levels shape tree entries))
rising_none step whole fault shape tree entries old new put stopped stops =
    put_stopped step whole fault old old new [] (leaves shape tree entries) (join (levels_over (length (leaves shape tree entries)) shape tree 1 (leaves shape tree entries))) (join (levels shape tree entries))
    (gained_none old) put (ap join (tree_is shape tree entries)) stopped stops

module _ (shape : Shape) (tree : ℕ) (entries : List Binding) (level : ℕ) (links : List Link) (old mid : List ℕ → Type 0) (so : Rising shape tree entries level links old mid) where
  -- the links are within the limits, and the level's number
  pub rising_within : AreWithin links
  rising_within = subst (λ (ls : List Link). AreWithin ls) (sym so.linked) (record { greatest = so.short; few = so.numbers })

  -- the nodes over the links are the next level
  abbrev over : List Node
  over = map (Inner tree level) (one_at_least (pieces (ends_by shape is_marked_link) links))

  over_is : over ≡ level_over shape tree level so.nodes
  over_is = ap (λ (ls : List Link). map (Inner tree level) (one_at_least (pieces (ends_by shape is_marked_link) ls))) so.linked ∙ ap (map (Inner tree level)) (over_some shape so.nodes so.some)

  count_is : length links ≡ length so.nodes
  count_is = ap (length {A = Link}) so.linked ∙ length-map so.nodes link_to

  pub rising_low : 2 ≤ length links → level ≤ 29
  rising_low many = by so.left so.falls (omega (arith, so.few, count_is))
    where
      by : (left : ℕ) → level + left ≡ 30 → 2 ≤ 2 ^ left → level ≤ 29
      by zero falls two = absurd (omega (arith, two))
      by (suc left) falls two = omega arith

  -- the tree goes on with the next level
  rising_split : 2 ≤ length links → (steps : ℕ) × (levels shape tree entries ≡ (so.below ++ so.nodes ∷ []) ++ over ∷ levels_over steps shape tree (level + 1) over) × (length over ≤ steps)
  rising_split many =
      let two : 2 ≤ length so.nodes = omega (arith, count_is) in
      by so.steps so.enough so.whole two
    where
      by : (steps : ℕ) → length so.nodes ≤ steps → levels shape tree entries ≡ so.below ++ so.nodes ∷ levels_over steps shape tree level so.nodes → 2 ≤ length so.nodes
          → (next : ℕ) × (levels shape tree entries ≡ (so.below ++ so.nodes ∷ []) ++ over ∷ levels_over next shape tree (level + 1) over) × (length over ≤ next)
      by zero enough whole two = absurd (omega arith)
      by (suc next) enough whole two = (
        next,
        whole ∙ ap (λ (above : List (List Node)). so.below ++ so.nodes ∷ above) (levels_step next shape tree level so.nodes two)
            ∙ ap (λ (ns : List Node). so.below ++ so.nodes ∷ ns ∷ levels_over next shape tree (level + 1) ns) (sym over_is)
            ∙ sym (append_assoc so.below (so.nodes ∷ []) (over ∷ levels_over next shape tree (level + 1) over)),
        omega (arith, ap (length {A = Node}) over_is, level_half shape tree level so.nodes),
      )

  -- a node of the next level is refused
  pub rising_stopped : {A B : Type 0} (step : Result A BuildFault) (whole : Result B BuildFault) (fault : BuildFault) (new : List ℕ → Type 0) → 2 ≤ length links
      → PutAll step mid new over → step ≡ Err fault → whole ≡ Err fault → PutAll whole old new (join (levels shape tree entries))
  rising_stopped step whole fault new many put stopped stops =
      let split = rising_split many in
      let above = levels_over split.0 shape tree (level + 1) over in
      put_stopped step whole fault old mid new (join (so.below ++ so.nodes ∷ [])) over (join above) (join (levels shape tree entries)) so.gained put
      (ap join split.1 ∙ flat_map-append (λ (ns : List Node). ns) (so.below ++ so.nodes ∷ []) (over ∷ above)) stopped stops

  -- the next level was put
  pub rising_next : (next : List Link) (new : List ℕ → Type 0) → 2 ≤ length links → next ≡ map link_to over → GrownByAll mid new (IsOneOf over) → Rising shape tree entries (level + 1) next old new
  rising_next next new many linked grown =
      let split = rising_split many in
      let left = fewer so.left so.falls so.few (omega (arith, count_is)) in
      record {
        nodes = over;
        below = so.below ++ so.nodes ∷ [];
        steps = split.0;
        left = left.0;
        whole = split.1;
        enough = split.2;
        linked = linked;
        some = omega (arith, ap (length {A = Node}) over_is, level_some shape tree level so.nodes so.some);
        short = subst (λ (ns : List Node). AllByRecursion HasShort (map link_to ns)) (sym over_is) (level_short shape tree level so.nodes so.some so.short);
        numbers = omega (arith, ap (λ (ns : List Node). numbers_of (map link_to ns)) over_is, level_numbers shape tree level so.nodes, so.numbers);
        gained = subst (λ (ns : List Node). GrownByAll old new (IsOneOf ns)) (sym all_is) (gained_more old mid new (join (so.below ++ so.nodes ∷ [])) over so.gained grown);
        falls = left.1;
        few = left.2;
      }
    where
      fewer : (left : ℕ) → level + left ≡ 30 → length so.nodes ≤ 2 ^ left → 2 ≤ length so.nodes → (fewer : ℕ) × (level + 1 + fewer ≡ 30) × (length over ≤ 2 ^ fewer)
      fewer zero falls few two = absurd (omega (arith, few))
      fewer (suc left) falls few two = (left, omega arith, omega (arith, few, pow-suc 2 left, ap (length {A = Node}) over_is, level_half shape tree level so.nodes))

      all_is : join ((so.below ++ so.nodes ∷ []) ++ over ∷ []) ≡ join (so.below ++ so.nodes ∷ []) ++ over
      all_is = flat_map-append (λ (ns : List Node). ns) (so.below ++ so.nodes ∷ []) (over ∷ []) ∙ ap (λ (ns : List Node). join (so.below ++ so.nodes ∷ []) ++ ns) (append-nil over)

  -- there are fewer nodes
  pub rising_fewer : (children next : List Child) → 2 ≤ length links → links_of children ≡ links → links_of next ≡ map link_to over → length next < length children
  rising_fewer children next many are linked =
      omega (
        arith,
        length-map children link_of,
        length-map next link_of,
        ap (length {A = Link}) are,
        ap (length {A = Link}) linked,
        length-map over link_to,
        ap (length {A = Node}) over_is,
        level_half shape tree level so.nodes,
        count_is,
      )

  -- ---- at the top
  module _ (last : length links ≤ 1) where
    pub top_level : levels shape tree entries ≡ so.below ++ so.nodes ∷ []
    top_level = so.whole ∙ ap (λ (above : List (List Node)). so.below ++ so.nodes ∷ above) (levels_end so.steps shape tree level so.nodes (omega (arith, count_is)))

    pub rising_gained : GrownByAll old mid (IsOneOf (join (levels shape tree entries)))
    rising_gained = subst (λ (ls : List (List Node)). GrownByAll old mid (IsOneOf (join ls))) (sym top_level) so.gained

    pub rising_top : (children : List Child) (child : Child) → links_of children ≡ links → child ≡ get_or children 0 child → child.digest.0 ≡ digest (top_of (levels shape tree entries))
    rising_top children child are is =
        key_of_one children so.nodes child (are ∙ so.linked) so.some is
        ∙ ap (λ (ns : List Node). digest (spelling (get_or ns 0 no_node))) (sym (last_of so.below so.nodes))
        ∙ ap (λ (ls : List (List Node)). digest (top_of ls)) (sym top_level)
      where
        key_of_one : (cs : List Child) (ns : List Node) (one : Child) → links_of cs ≡ map link_to ns → 1 ≤ length ns → one ≡ get_or cs 0 one → one.digest.0 ≡ digest (spelling (get_or ns 0 no_node))
        key_of_one cs [] one same one_at_least first = absurd (omega arith)
        key_of_one [] (n ∷ ns) one same one_at_least first = absurd cc
        key_of_one (c ∷ cs) (n ∷ ns) one same one_at_least first =
            let heads : link_of c ≡ link_to n = cc in
            ap (λ (d : Child). d.digest.0) first ∙ ap (λ (l : Link). l.child) heads

        last_of : (below : List (List Node)) (ns : List Node) → level_at (below ++ ns ∷ []) (length (below ++ ns ∷ []) - 1) ≡ ns
        last_of below ns =
            let n : length (below ++ ns ∷ []) - 1 ≡ length below = omega (arith, length-append below (ns ∷ [])) in
            ap (λ i. get_or (below ++ ns ∷ []) i []) n ∙ at_end below ns
          where
            at_end : (ls : List (List Node)) (last : List Node) → get_or (ls ++ last ∷ []) (length ls) [] ≡ last
            at_end [] last = refl
            at_end (l ∷ ls) last = at_end ls last
