-- From a node that is sought to the one that is sought a level below.
use Rattle.std.proofs.Common.{◌≡◌, ◌↔◌, IsTrue, ◌≤◌, ◌<◌, ◌-◌, ◌&&◌, ℕ, suc, List, [], ◌∷◌, ◌++◌, length, get_or, map, inl, inr, Bool, true, false, Option, None, Some, refl, sym, ap, subst, ◌∙◌, arith, length-append}
use Rattle.std.specs.List.{flat_map, AllByRecursion}
use Rattle.tree_node.specs.Digests.{digest}
use Rattle.tree_node.specs.Nodes.{AreRisingFrom, Binding, IsNode, Leaf, Inner, Link, Node, greatests_of, level_of, spelling, tree_of}
use Rattle.tree_node.specs.Order.{IsBelow}
use Rattle.tree_node.specs.internal.OrderLemmas.{order_trans}
use Rattle.tree_node.specs.Trees.{Two, greatest_of, last_key, leaves, level_at, levels, links_in, link_to, node_in, no_node}
use Rattle.tree_node.proofs.shared.TreeLaws.{above as over, last_has_one, level_has, nodes_at, over_joined, pair_at, whole}
use Rattle.tree_node.proofs.shared.TreeLemmas.{leaves_some, tree_levels}
use Rattle.tree_node.proofs.shared.TreeParts.{kind_at}
use Rattle.tree_build.specs.internal.RisingChanges.{IsUpTo}
use Rattle.tree_build.specs.internal.Holding.{IsHeld, IsHeldTree, IsSoughtNode}
use Rattle.tree_build.specs.internal.Seeking.{IsSought}
use Rattle.tree_build.proofs.SeekLemmas.{IsBound, map_parts, none_mapped, sought_down, sought_mapped}

-- ---- the last of rising keys

module _ {X : Type 0} (key : X → List ℕ) where
  -- the keys of these rise
  abbrev Rise : Option (List ℕ) → List X → Type 0
  Rise low xs = AreRisingFrom low (map key xs)

  -- the first is up to the last
  first_up_to : (x : X) (xs : List X) → Rise (Some (key x)) xs → IsUpTo (key x) (last_key (map key (x ∷ xs)))
  first_up_to x [] rise = inr refl
  first_up_to x (y ∷ ys) rise = elim (first_up_to y ys rise.1) [
    | inl below ↦ inl (order_trans (key x) (key y) (last_key (map key (y ∷ ys))) rise.0 below)
    | inr same ↦ inl (subst (λ (k : List ℕ). IsBelow (key x) k) same rise.0)
  ]

  -- each is up to the last
  pub all_up_to_last : (low : Option (List ℕ)) (xs : List X) → Rise low xs → AllByRecursion (λ (x : X). IsUpTo (key x) (last_key (map key xs))) xs
  all_up_to_last low [] rise = tt
  all_up_to_last low (x ∷ []) rise = (inr refl, tt)
  all_up_to_last low (x ∷ y ∷ ys) rise = (first_up_to x (y ∷ ys) rise.1, all_up_to_last (Some (key x)) (y ∷ ys) rise.1)

  -- the last of some that end with this one
  pub last_is : (xs : List X) (x : X) → last_key (map key (xs ++ x ∷ [])) ≡ key x
  last_is [] x = refl
  last_is (y ∷ []) x = refl
  last_is (y ∷ z ∷ xs) x = last_is (z ∷ xs) x

-- ---- parts of lists

pub all_parts : {X : Type 0} (P : X → Type 0) (xs ys : List X) → AllByRecursion P (xs ++ ys) → AllByRecursion P xs × AllByRecursion P ys
all_parts P [] ys all = (tt, all)
all_parts P (x ∷ xs) ys all = let rest = all_parts P xs ys all.1 in ((all.0, rest.0), rest.1)

pub at_front : {X : Type 0} (xs : List X) (x : X) (ys : List X) (d : X) → get_or (xs ++ x ∷ ys) (length xs) d ≡ x
at_front [] x ys d = refl
at_front (z ∷ xs) x ys d = at_front xs x ys d

-- the only item of a list of one
pub lone : {X : Type 0} (xs : List X) (d : X) → length xs ≡ 1 → xs ≡ get_or xs 0 d ∷ []
lone [] d e = absurd (omega (arith, e))
lone (x ∷ []) d e = refl
lone (x ∷ y ∷ xs) d e = absurd (omega (arith, e))

-- ---- a node of a level

-- the links of a node that is a node are up to its greatest key
pub links_bound : (node : Node) → IsNode node → IsBound greatest_of (λ (l : Link). l.greatest) links_in [] false node
links_bound (Leaf tree entries) is = tt
links_bound (Inner tree level links) is = all_up_to_last (λ (l : Link). l.greatest) None links is.6

pub all_bound : (nodes : List Node) → AllByRecursion IsNode nodes → AllByRecursion (IsBound greatest_of (λ (l : Link). l.greatest) links_in [] false) nodes
all_bound [] all = tt
all_bound (n ∷ ns) all = (links_bound n all.0, all_bound ns all.1)

-- the last link of a node has its greatest key
pub last_link : (node : Node) (f : List Link) (c : Link) → links_in node ≡ f ++ c ∷ [] → greatest_of node ≡ c.greatest
last_link (Leaf tree entries) [] c e = absurd cc
last_link (Leaf tree entries) (x ∷ f) c e = absurd cc
last_link (Inner tree level links) f c e = ap (λ (ls : List Link). last_key (greatests_of ls)) e ∙ last_is (λ (l : Link). l.greatest) f c

both_last : (last is_last : Bool) (P Q R : Type 0) → (IsTrue last → P) × (P → IsTrue last) → IsTrue is_last ↔ Q → (P → Q → R) → (R → P) → (R → Q) → (IsTrue (last && is_last) → R) × (R → IsTrue (last && is_last))
both_last true is_last P Q R one two join left right = ((λ t. join (one.0 refl) (two.0 t)), (λ r. two.1 (right r)))
both_last false is_last P Q R one two join left right = ((λ t. let u : false ≡ true = t in absurd cc), (λ r. let u : false ≡ true = one.1 (left r) in absurd cc))

nil_parts : {X : Type 0} (xs ys : List X) → xs ++ ys ≡ [] → (xs ≡ []) × (ys ≡ [])
nil_parts [] ys e = (refl, e)
nil_parts (x ∷ xs) ys e = absurd cc

-- each node of these has links
abbrev HasLinks : Node → Type 0
HasLinks node = 1 ≤ length (links_in node)

none_below : (nodes : List Node) → AllByRecursion HasLinks nodes → flat_map links_in nodes ≡ [] → nodes ≡ []
none_below [] all e = refl
none_below (n ∷ ns) all e = let parts = nil_parts (links_in n) (flat_map links_in ns) e in absurd (omega (arith, all.0, ap (length {A = Link}) parts.0))

pub has_links : (level : ℕ) (node : Node) → IsNode node → level_of node ≡ suc level → HasLinks node
has_links level (Leaf tree entries) is e = absurd (omega arith)
has_links level (Inner tree own links) is e = is.3

all_links : (level : ℕ) (nodes : List Node) → AllByRecursion IsNode nodes → AllByRecursion (λ (n : Node). level_of n ≡ suc level) nodes → AllByRecursion HasLinks nodes
all_links level [] all kind = tt
all_links level (n ∷ ns) all kind = (has_links level n all.0 kind.0, all_links level ns all.1 kind.1)

levels_only : (tree level : ℕ) (nodes : List Node) → AllByRecursion (λ (n : Node). (level_of n ≡ level) × (tree_of n ≡ tree)) nodes → AllByRecursion (λ (n : Node). level_of n ≡ level) nodes
levels_only tree level [] all = tt
levels_only tree level (n ∷ ns) all = (all.0.0, levels_only tree level ns all.1)

-- ---- the node of a level that is sought

module _ (held : List ℕ → Type 0) (top : List ℕ) (tree : ℕ) (entries : List Binding) (is : IsHeldTree held top tree entries) where
  -- it is held under this digest
  pub record IsHeldAt (level : ℕ) (wanted : List ℕ) (above : Bool) (key : List ℕ) (last : Bool) : Type 0 where
    pub node : Node
    pub is_held : IsHeld held key node
    pub at : IsSoughtNode (levels Two tree entries) level wanted above node last

  -- each node of a level is held
  held_at : (level : ℕ) → level < length (levels Two tree entries) → (before : List Node) (node : Node) (behind : List Node) → level_at (levels Two tree entries) level ≡ before ++ node ∷ behind
      → (key : List ℕ) → key ≡ digest (spelling node) → IsHeld held key node
  unfolding levels
  held_at level lt before node behind e key same =
      let nodes = nodes_at Two tree entries is.has is.is_tree level lt in
      let parts = all_parts IsNode before (node ∷ behind) (subst (λ (ns : List Node). AllByRecursion IsNode ns) e nodes) in
      let place : length before < length (level_at (whole Two tree entries) level) = omega (arith, ap (length {A = Node}) e, length-append before (node ∷ behind)) in
      let there : node_in (whole Two tree entries) level (length before) ≡ node = ap (λ (ns : List Node). get_or ns (length before) no_node) e ∙ at_front before node behind no_node in
      record {
        is = parts.1.0;
        holds = is.holds (spelling node) (level, length before, (lt, place, ap spelling (sym there)));
        digest_is = same;
      }

  -- The child that is sought among the children of the sought node is the sought node of the level below, and held.
  pub sought_child : (level : ℕ) → suc level < length (levels Two tree entries) → (wanted : List ℕ) (above : Bool) (node : Node) (last : Bool) (f : List Link) (c : Link) (b : List Link) (is_last : Bool)
      → IsSoughtNode (levels Two tree entries) (suc level) wanted above node last → IsSought (λ (l : Link). l.greatest) wanted above (links_in node) f c b → IsTrue is_last ↔ (b ≡ [])
      → IsHeldAt level wanted above c.child (last && is_last)
  unfolding levels
  sought_child level lt wanted above node last f c b is_last up here ends =
      let upper = level_at (whole Two tree entries) (suc level) in
      let lower = level_at (whole Two tree entries) level in
      let linked : flat_map links_in upper ≡ map link_to lower = ap (flat_map links_in) (pair_at Two tree entries level lt).1 ∙ over_joined Two tree (suc level) lower in
      let nodes = subst (λ (ns : List Node). AllByRecursion IsNode ns) up.sought.whole (nodes_at Two tree entries is.has is.is_tree (suc level) lt) in
      let kinds = subst (λ (ns : List Node). AllByRecursion (λ (n : Node). level_of n ≡ suc level) ns) up.sought.whole (levels_only tree (suc level) upper (kind_at Two tree entries (suc level) lt)) in
      let fronts = all_parts IsNode up.front (node ∷ up.back) nodes in
      let backs = (all_parts (λ (n : Node). level_of n ≡ suc level) up.front (node ∷ up.back) kinds).1.1 in
      let down = sought_down greatest_of (λ (l : Link). l.greatest) links_in wanted above upper up.front node up.back f c b up.sought here (all_bound up.front fronts.0)
      (λ none. last_link node f c (here.whole ∙ ap (λ (ys : List Link). f ++ c ∷ ys) none)) in
      let among = subst (λ (ls : List Link). IsSought (λ (l : Link). l.greatest) wanted above ls (flat_map links_in up.front ++ f) c (b ++ flat_map links_in up.back)) linked down in
      let parts = map_parts link_to lower (flat_map links_in up.front ++ f) c (b ++ flat_map links_in up.back) among.whole in
      let found = sought_mapped link_to (λ (l : Link). l.greatest) wanted above lower (flat_map links_in up.front ++ f) c (b ++ flat_map links_in up.back) among parts in
      record {
        node = parts.x;
        is_held = held_at level (omega arith) parts.before parts.x parts.behind parts.whole c.child (ap (λ (l : Link). l.child) (sym parts.at));
        at = record {
          front = parts.before;
          back = parts.behind;
          sought = found;
          is_last = both_last last is_last (up.back ≡ []) (b ≡ []) (parts.behind ≡ []) up.is_last ends
              (λ none end. none_mapped link_to parts.behind (parts.backs ∙ ap (λ (ys : List Link). ys ++ flat_map links_in up.back) end ∙ ap (flat_map links_in) none))
              (λ none. none_below up.back (all_links level up.back fronts.1.1 backs) (nil_parts b (flat_map links_in up.back) (sym parts.backs ∙ ap (map link_to) none)).1)
              (λ none. (nil_parts b (flat_map links_in up.back) (sym parts.backs ∙ ap (map link_to) none)).0);
        };
      }

  -- the top is the sought node of its level
  pub sought_top : (wanted : List ℕ) (above : Bool) → IsHeldAt (length (levels Two tree entries) - 1) wanted above top true
  unfolding levels
  sought_top wanted above =
      let ls = whole Two tree entries in
      let one : length (level_at ls (length ls - 1)) ≡ 1 = last_has_one Two tree 1 (leaves Two tree entries) (over Two tree entries) (tree_levels Two tree entries) in
      let just = lone (level_at ls (length ls - 1)) no_node one in
      record {
        node = node_in ls (length ls - 1) 0;
        is_held = held_at (length ls - 1) (omega arith) [] (node_in ls (length ls - 1) 0) [] just top is.is_top;
        at = record { front = []; back = []; sought = record { whole = just; before = tt; reached = inr refl }; is_last = ((λ _. refl), (λ _. refl)) };
      }

  -- a sought node bears the number of its level
  pub sought_level : (level : ℕ) → level < length (levels Two tree entries) → (wanted : List ℕ) (above : Bool) (node : Node) (last : Bool) → IsSoughtNode (levels Two tree entries) level wanted above node last → level_of node ≡ level
  unfolding levels
  sought_level level lt wanted above node last at =
      (all_parts (λ (n : Node). level_of n ≡ level) at.front (node ∷ at.back)
      (subst (λ (ns : List Node). AllByRecursion (λ (n : Node). level_of n ≡ level) ns) at.sought.whole (levels_only tree level (level_at (whole Two tree entries) level) (kind_at Two tree entries level lt)))).1.0

  -- above the leaves it has children
  pub sought_links : (level : ℕ) → suc level < length (levels Two tree entries) → (wanted : List ℕ) (above : Bool) (node : Node) (last : Bool) → IsSoughtNode (levels Two tree entries) (suc level) wanted above node last → 1 ≤ length (links_in node)
  unfolding levels
  sought_links level lt wanted above node last at =
      let nodes = subst (λ (ns : List Node). AllByRecursion IsNode ns) at.sought.whole (nodes_at Two tree entries is.has is.is_tree (suc level) lt) in
      has_links level node (all_parts IsNode at.front (node ∷ at.back) nodes).1.0 (sought_level (suc level) lt wanted above node last at)

-- each level of a tree has a node
pub level_some_at : (tree : ℕ) (entries : List Binding) (level : ℕ) → level < length (levels Two tree entries) → 1 ≤ length (level_at (levels Two tree entries) level)
unfolding levels
level_some_at tree entries level lt = level_has Two tree 1 (leaves Two tree entries) (over Two tree entries) level (tree_levels Two tree entries) (leaves_some Two tree entries) lt
