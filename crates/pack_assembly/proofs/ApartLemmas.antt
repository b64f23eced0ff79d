-- No two nodes of a publication are the same bytes; so nodes with one digest are a clash.
use Rattle.std.proofs.Common.{◌≡◌, ◌≢◌, ◌⊎◌, ◌<◌, inl, inr, ℕ, zero, suc, List, [], ◌∷◌, ◌++◌, true, false, None, Option, Some, arith, refl, sym, ap, subst, ◌∙◌, length, map}
use Rattle.std.specs.List.{AllByRecursion, Contains, IsDistinct, flat_map}
use Rattle.std.specs.Prelude.{⊤}
use Rattle.std.specs.Str.{bytes_eq}
use Rattle.std.proofs.lemmas.Bool.{cases_Bool}
use Rattle.std.proofs.lemmas.List.{get_or_past}
use Rattle.std.proofs.lemmas.List.Elements.{Contains-append_cases}
use Rattle.std.proofs.lemmas.Slice.Eq.{bytes_eq-Decides}
use Rattle.osm_keys.proofs.shared.Members.{first_or_in_rest, from_all, from_map, here, in_all, in_map, in_rest, none}
use Rattle.osm_keys.proofs.shared.OnePublication.{lists_have_trees}
use Rattle.osm_keys.specs.Publications.{IsNodeIn, IsPublication, Publication, manifest_of, shape_in, top_in, tree_in}
use Rattle.tree_node.specs.Digests.{digest}
use Rattle.tree_node.specs.NodeRefs.{number_of}
use Rattle.tree_node.specs.Nodes.{AreRisingFrom, Binding, IsNode, IsTree, Node, greatests_of, level_of, spelling, tree_of}
use Rattle.tree_node.specs.Order.{IsBelow}
use Rattle.tree_node.specs.Outcomes.{Clash}
use Rattle.tree_node.specs.Trees.{HasTree, Shape, greatest_of, level_at, link_to}
use Rattle.tree_node.specs.declared.tree.Tree.{Tree}
use Rattle.tree_node.specs.internal.OrderLemmas.{not_itself, order_trans}
use Rattle.tree_node.proofs.shared.TreeLaws.{entries_some, links_at, nodes_at, whole, whole_few}
use Rattle.node_pack.specs.Packs.{AreApart, Kept}
use Rattle.pack_assembly.specs.declared.row.Row.{Row}
use Rattle.pack_assembly.specs.internal.Order.{all_kepts, kept_of, kepts_in, kepts_of, manifest_kept, nodes_in, rows_in}
use Rattle.pack_assembly.proofs.PublishedNodes.{IsAt, all_each, at_in, at_spells, levels_in, no_manifest, one_node, one_number, same_levels, tree_number}
use Rattle.pack_assembly.proofs.RowLemmas.{RisesTo, later_rank, less_or_more, rank, row, rows_have, rows_rise}

-- what is so of each that a list contains is so of all
pub all_of : {X : Type 0} (P : X → Type 0) (xs : List X) → ((x : X) → Contains xs x → P x) → AllByRecursion P xs
all_of P [] all = tt
all_of P (x ∷ xs) all = (all x (here x xs), all_of P xs (λ y among. all y (in_rest x xs y among)))

-- ---- nodes of different bytes

-- each node has other bytes than those after it
abbrev pub AreOther : List Kept → Type 0
AreOther [] = ⊤
AreOther (x ∷ xs) = AllByRecursion (λ (y : Kept). y.bytes ≢ x.bytes) xs × AreOther xs

other_append : (xs ys : List Kept) → AreOther xs → AreOther ys → ((x : Kept) → Contains xs x → (y : Kept) → Contains ys y → y.bytes ≢ x.bytes) → AreOther (xs ++ ys)
other_append [] ys first second between = second
other_append (x ∷ xs) ys first second between = (
  all_of (λ (y : Kept). y.bytes ≢ x.bytes) (xs ++ ys) (λ y among. elim (Contains-append_cases xs ys y among) [
    | inl k ↦ all_each (λ (z : Kept). z.bytes ≢ x.bytes) xs first.0 y k
    | inr k ↦ between x (here x xs) y k
  ]),
  other_append xs ys first.1 second (λ z k. between z (in_rest x xs z k)),
)

-- ---- within a level

above_all : (key : List ℕ) (nodes : List Node) → AreRisingFrom (Some key) (greatests_of (map link_to nodes)) → (y : Node) → Contains nodes y → IsBelow key (greatest_of y)
above_all key [] rising y among = absurd (none y among)
above_all key (x ∷ nodes) rising y among =
    elim (first_or_in_rest x nodes y among) [
      | inl e ↦ subst (λ (n : Node). IsBelow key (greatest_of n)) e rising.0
      | inr more ↦ order_trans key (greatest_of x) (greatest_of y) rising.0 (above_all (greatest_of x) nodes rising.1 y more)
    ]

rising_other : (low : Option (List ℕ)) (nodes : List Node) → AllByRecursion IsNode nodes → AreRisingFrom low (greatests_of (map link_to nodes)) → AreOther (kepts_of nodes)
rising_other low [] are rising = tt
rising_other low (x ∷ nodes) are rising = (
  all_of (λ (y : Kept). y.bytes ≢ spelling x) (kepts_of nodes) (λ y among same.
      let (n, is_in, e) = from_map kept_of nodes y among in
      let spelled : spelling n ≡ spelling x = ap (λ (k : Kept). k.bytes) (sym e) ∙ same in
      let one : n ≡ x = one_node (spelling x) n x (all_each IsNode nodes are.1 n is_in, sym spelled) (are.0, refl) in
      let below = above_all (greatest_of x) nodes rising.1 n is_in in
      not_itself (greatest_of x) (greatest_of n) below (ap greatest_of (sym one))),
  rising_other (Some (greatest_of x)) nodes are.1 rising.1,
)

level_other : (shape : Shape) (tree : ℕ) (entries : List Binding) → HasTree entries → IsTree tree → (level : ℕ) → level < length (whole shape tree entries)
    → AreOther (kepts_of (level_at (whole shape tree entries) level))
level_other shape tree [] has is zero lt = (tt, tt)
level_other shape tree [] has is (suc level) lt = absurd (omega (arith, entries_some shape tree [] level lt))
level_other shape tree (e ∷ es) has is level lt =
    rising_other None (level_at (whole shape tree (e ∷ es)) level) (nodes_at shape tree (e ∷ es) has is level lt) (links_at shape tree (e ∷ es) has (omega arith) level lt).rising

-- ---- among levels

module _ (p : Publication) (is : IsPublication p) where
  level_low : (tree : Tree) (level : ℕ) (node : Node) → Contains (level_at (levels_in p is tree) level) node → level < length (levels_in p is tree)
  level_low tree level node among =
      elim (less_or_more (length (levels_in p is tree)) level) [
        | inl past ↦ absurd (none node (subst (λ (ns : List Node). Contains ns node) (get_or_past (levels_in p is tree) level [] past) among))
        | inr low ↦ low
      ]

  -- a node of a row is a node at its level of its tree
  pub in_row : (r : Row) (node : Node) → Contains (nodes_in p r) node → IsAt p is r.tree r.level node
  in_row r node among =
      let there = subst (λ (t : List (List Node)). Contains (level_at t r.level) node) (same_levels p is r.tree) among in
      record { low = level_low r.tree r.level node there; is_in = there }

  pub of_row : (tree : Tree) (level : ℕ) (node : Node) → IsAt p is tree level node → Contains (nodes_in p (row tree level)) node
  of_row tree level node at = subst (λ (t : List (List Node)). Contains (level_at t level) node) (sym (same_levels p is tree)) at.is_in

  -- the rows have it
  pub has_row : (tree : Tree) (level : ℕ) (node : Node) → IsAt p is tree level node → Contains (rows_in p) (row tree level)
  has_row tree level node at =
      let few = whole_few (shape_in p) (number_of tree) (p.entries tree) (lists_have_trees p is tree) in
      let low : level < length (tree_in p tree) = omega (arith, at.low, ap (length {A = List Node}) (same_levels p is tree)) in
      rows_have (λ (t : Tree). length (tree_in p t)) tree level low (omega (arith, at.low, few))

  row_other : (r : Row) → AreOther (kepts_in p r)
  row_other r =
      elim (less_or_more (length (levels_in p is r.tree)) r.level) [
        | inl past ↦ subst (λ (t : List (List Node)). AreOther (kepts_of (level_at t r.level))) (sym (same_levels p is r.tree))
            (subst (λ (ns : List Node). AreOther (kepts_of ns)) (sym (get_or_past (levels_in p is r.tree) r.level [] past)) tt)
        | inr low ↦ subst (λ (t : List (List Node)). AreOther (kepts_of (level_at t r.level))) (sym (same_levels p is r.tree))
            (level_other (shape_in p) (number_of r.tree) (p.entries r.tree) (lists_have_trees p is r.tree) (tree_number r.tree) r.level low)
      ]

  one_row : (r s : Row) (m n : Node) → Contains (nodes_in p r) m → Contains (nodes_in p s) n → spelling n ≡ spelling m → rank s ≡ rank r
  one_row r s m n first second same =
      let (own, own_tree, own_level) = at_spells p is r.tree r.level m (in_row r m first) in
      let (other, other_tree, other_level) = at_spells p is s.tree s.level n (in_row s n second) in
      let one : n ≡ m = one_node (spelling m) n m (other.0, sym same) own in
      let tree : s.tree ≡ r.tree = one_number s.tree r.tree (sym other_tree ∙ ap tree_of one ∙ own_tree) in
      let level : s.level ≡ r.level = sym other_level ∙ ap level_of one ∙ own_level in
      ap (λ (t : Tree). rank (row t s.level)) tree ∙ ap (λ (l : ℕ). rank (row r.tree l)) level

  rows_other : (low : ℕ) (rows : List Row) (high : ℕ) → RisesTo low rows high → AreOther (flat_map (kepts_in p) rows)
  rows_other low [] high rises = tt
  rows_other low (r ∷ rows) high rises =
      other_append (kepts_in p r) (flat_map (kepts_in p) rows) (row_other r) (rows_other (suc (rank r)) rows high rises.1) (λ x among y later same.
      let (m, is_in, e) = from_map kept_of (nodes_in p r) x among in
      let (s, is_row, kept) = from_all (kepts_in p) rows y later in
      let (n, there, f) = from_map kept_of (nodes_in p s) y kept in
      let spelled : spelling n ≡ spelling m = ap (λ (k : Kept). k.bytes) (sym f) ∙ same ∙ ap (λ (k : Kept). k.bytes) e in
      let above = later_rank (suc (rank r)) rows high s rises.1 is_row in
      let equal = one_row r s m n is_in there spelled in
      omega (arith, above, equal))

  -- a node of a row
  pub from_rows : (y : Kept) → Contains (flat_map (kepts_in p) (rows_in p)) y → (r : Row) × (node : Node) × IsAt p is r.tree r.level node × (y ≡ kept_of node)
  from_rows y among =
      let (r, is_row, kept) = from_all (kepts_in p) (rows_in p) y among in
      let (node, is_in, e) = from_map kept_of (nodes_in p r) y kept in
      (r, node, in_row r node is_in, e)

  pub to_rows : (tree : Tree) (level : ℕ) (node : Node) → IsAt p is tree level node → Contains (flat_map (kepts_in p) (rows_in p)) (kept_of node)
  to_rows tree level node at =
      in_all (kepts_in p) (rows_in p) (row tree level) (kept_of node) (has_row tree level node at) (in_map kept_of (nodes_in p (row tree level)) node (of_row tree level node at))

  pub all_other : AreOther (all_kepts p)
  all_other = (
    all_of (λ (y : Kept). y.bytes ≢ manifest_of p) (flat_map (kepts_in p) (rows_in p)) (λ y among same.
        let (r, node, at, e) = from_rows y among in
        let spells = (at_spells p is r.tree r.level node at).0 in
        no_manifest p.edition (top_in p) node spells.0 (sym same ∙ ap (λ (k : Kept). k.bytes) e)),
    rows_other 0 (rows_in p) 30000 (rows_rise (λ (tree : Tree). length (tree_in p tree))),
  )

  pub each_node : (y : Kept) → Contains (all_kepts p) y → IsNodeIn p y.bytes
  each_node y among =
      elim (first_or_in_rest (manifest_kept p) (flat_map (kepts_in p) (rows_in p)) y among) [
        | inl e ↦ inl (ap (λ (k : Kept). k.bytes) (sym e))
        | inr more ↦
            let (r, node, at, e) = from_rows y more in
            subst (λ (k : Kept). IsNodeIn p k.bytes) (sym e) (at_in p is r.tree r.level node at)
      ]

-- ---- digests

abbrev pub keys_of_kepts : List Kept → List (List ℕ)
keys_of_kepts nodes = map (λ (k : Kept). digest k.bytes) nodes

pub same_is : (xs ys : List ℕ) → xs ≡ ys → bytes_eq xs ys ≡ true
same_is xs ys e = (bytes_eq-Decides xs ys).1 e

pub other_is : (xs ys : List ℕ) → xs ≢ ys → bytes_eq xs ys ≡ false
other_is xs ys ne =
    elim (cases_Bool (bytes_eq xs ys)) [
      | inl hit ↦ absurd (ne ((bytes_eq-Decides xs ys).0 hit))
      | inr miss ↦ miss
    ]

pub to_distinct : (nodes : List Kept) → AreApart nodes → IsDistinct bytes_eq (keys_of_kepts nodes)
unfolding IsDistinct
to_distinct [] apart = tt
to_distinct (x ∷ nodes) apart = (one nodes apart.0, to_distinct nodes apart.1)
  where
    one : (others : List Kept) → AllByRecursion (λ (other : Kept). digest other.bytes ≢ digest x.bytes) others → AllByRecursion (λ (key : List ℕ). bytes_eq (digest x.bytes) key ≡ false) (keys_of_kepts others)
    one [] all = tt
    one (y ∷ others) all = (other_is (digest x.bytes) (digest y.bytes) (λ same. all.0 (sym same)), one others all.1)

pub from_distinct : (nodes : List Kept) → IsDistinct bytes_eq (keys_of_kepts nodes) → AreApart nodes
unfolding IsDistinct
from_distinct [] apart = tt
from_distinct (x ∷ nodes) apart = (one nodes apart.0, from_distinct nodes apart.1)
  where
    one : (others : List Kept) → AllByRecursion (λ (key : List ℕ). bytes_eq (digest x.bytes) key ≡ false) (keys_of_kepts others) → AllByRecursion (λ (other : Kept). digest other.bytes ≢ digest x.bytes) others
    one [] all = tt
    one (y ∷ others) all = (λ same. absurd (let miss = all.0 in let hit = same_is (digest x.bytes) (digest y.bytes) (sym same) in Prim.cc), one others all.1)

-- they are apart, or two of them clash
abbrev Clashes : List Kept → Type 0
Clashes nodes = (x y : Kept) × Contains nodes x × Contains nodes y × (x.bytes ≢ y.bytes) × (digest x.bytes ≡ digest y.bytes)

first_clashes : (x : Kept) (others : List Kept) → AllByRecursion (λ (y : Kept). y.bytes ≢ x.bytes) others
    → AllByRecursion (λ (other : Kept). digest other.bytes ≢ digest x.bytes) others ⊎ ((y : Kept) × Contains others y × (y.bytes ≢ x.bytes) × (digest y.bytes ≡ digest x.bytes))
first_clashes x [] other = inl tt
first_clashes x (y ∷ others) other =
    elim (cases_Bool (bytes_eq (digest y.bytes) (digest x.bytes))) [
      | inl hit ↦ inr (y, here y others, other.0, (bytes_eq-Decides (digest y.bytes) (digest x.bytes)).0 hit)
      | inr miss ↦ elim (first_clashes x others other.1) [
        | inl all ↦ inl ((λ same. absurd (let hit = same_is (digest y.bytes) (digest x.bytes) same in Prim.cc)), all)
        | inr found ↦ inr (found.0, in_rest y others found.0 found.1, found.2, found.3)
      ]
    ]

apart_or_clash : (nodes : List Kept) → AreOther nodes → AreApart nodes ⊎ Clashes nodes
apart_or_clash [] other = inl tt
apart_or_clash (x ∷ nodes) other =
    elim (first_clashes x nodes other.0) [
      | inr found ↦ inr (found.0, x, in_rest x nodes found.0 found.1, here x nodes, found.2, found.3)
      | inl apart ↦ elim (apart_or_clash nodes other.1) [
        | inl rest ↦ inl (apart, rest)
        | inr found ↦ inr (found.0, found.1, in_rest x nodes found.0 found.2, in_rest x nodes found.1 found.3, found.4, found.5)
      ]
    ]

-- nodes of a publication whose digests aren't distinct clash
pub clash_of : (p : Publication) → IsPublication p → (IsDistinct bytes_eq (keys_of_kepts (all_kepts p)) → ⊥) → Clash (IsNodeIn p) (IsNodeIn p)
clash_of p is twice =
    elim (apart_or_clash (all_kepts p) (all_other p is)) [
      | inl apart ↦ absurd (twice (to_distinct (all_kepts p) apart))
      | inr found ↦ (found.0.bytes, found.1.bytes, each_node p is found.0 found.2, each_node p is found.1 found.3, found.4, found.5)
    ]
