-- The nodes that count: those that are sought for a change, and those that are gone. The parent of one counts too.
use Rattle.std.proofs.Common.{◌≡◌, ℕ, zero, suc, ◌+◌, ◌<◌, ◌≤◌, List, [], ◌∷◌, ◌++◌, length, map, ◌⊎◌, inl, inr, Bool, false, refl, sym, ap, subst, ◌∙◌, arith}
use Rattle.std.specs.List.{flat_map, AllByRecursion}
use Rattle.std.proofs.lemmas.List.{map-append}
use Rattle.tree_node.specs.Nodes.{Binding, IsNode, IsTree, Link, Node}
use Rattle.tree_node.specs.Trees.{HasTree, Two, greatest_of, level_at, levels, links_in, link_to, no_node}
use Rattle.tree_build.specs.Rebuilding.{AreClashFree}
use Rattle.tree_build.specs.internal.Seeking.{IsSought, LiesBefore}
use Rattle.tree_build.specs.internal.Steps.{IsSoughtFor}
use Rattle.tree_build.specs.internal.Weaving.{IsIn}
use Rattle.tree_build.proofs.BornLemmas.{one_holder}
use Rattle.tree_build.proofs.DescentLemmas.{all_bound, all_parts, has_links, last_link}
use Rattle.tree_build.proofs.FinishLemmas.{node_of, not_of}
use Rattle.tree_build.proofs.LevelsLemmas.{level_in, some_at}
use Rattle.tree_build.proofs.NextLemmas.{either_way, one_place}
use Rattle.tree_build.proofs.NextSought.{sought_in}
use Rattle.tree_build.proofs.OldLevels.{inner_level, linked, old_nodes}
use Rattle.tree_build.proofs.ParentLemmas.{child_stays}
use Rattle.tree_build.proofs.SeekLemmas.{sought_down}
use Rattle.tree_build.proofs.ShrinkLemmas.{in_place}
use Rattle.tree_build.proofs.WeaveLemmas.{in_back}

-- ---- what is sought is there

pub record HasSought {X : Type 0} (key : X → List ℕ) (wanted : List ℕ) (above : Bool) (xs : List X) : Type 0 where
  pub front : List X
  pub item : X
  pub back : List X
  pub sought : IsSought key wanted above xs front item back

pub seek_one : {X : Type 0} (key : X → List ℕ) (wanted : List ℕ) (above : Bool) (xs : List X) → 1 ≤ length xs → HasSought key wanted above xs
seek_one key wanted above [] some = absurd (omega arith)
seek_one key wanted above (x ∷ []) some = record { front = []; item = x; back = []; sought = record { whole = refl; before = tt; reached = inr refl } }
seek_one {X} key wanted above (x ∷ y ∷ xs) some = elim (either_way key wanted above (key x)) [
  | inr does ↦ record { front = []; item = x; back = y ∷ xs; sought = record { whole = refl; before = tt; reached = inl does } }
  | inl low ↦ more low (seek_one key wanted above (y ∷ xs) (omega arith))
]
  where
    more : LiesBefore wanted above (key x) → HasSought key wanted above (y ∷ xs) → HasSought key wanted above (x ∷ y ∷ xs)
    more low rest = record {
      front = x ∷ rest.front;
      item = rest.item;
      back = rest.back;
      sought = record { whole = ap (λ (zs : List X). x ∷ zs) rest.sought.whole; before = (low, rest.sought.before); reached = rest.sought.reached };
    }

-- and is one
pub same_sought : {X : Type 0} (key : X → List ℕ) (wanted : List ℕ) (above : Bool) (xs f g b c : List X) (x y : X) → IsSought key wanted above xs f x b → IsSought key wanted above xs g y c → x ≡ y
same_sought key wanted above xs f g b c x y one two =
    (one_place key wanted above f g x y b c (sym one.whole ∙ two.whole) one.before one.reached two.before two.reached).at

all_mapped : {X Y : Type 0} (f : X → Y) (P : Y → Type 0) (xs : List X) → AllByRecursion (λ (x : X). P (f x)) xs → AllByRecursion P (map f xs)
all_mapped f P [] all = tt
all_mapped f P (x ∷ xs) all = (all.0, all_mapped f P xs all.1)

map_sought : {X Y : Type 0} (f : X → Y) (key : Y → List ℕ) (wanted : List ℕ) (above : Bool) (xs front : List X) (x : X) (back : List X)
    → IsSought (λ (z : X). key (f z)) wanted above xs front x back → IsSought key wanted above (map f xs) (map f front) (f x) (map f back)
map_sought f key wanted above xs front x back s = record {
  whole = ap (map f) s.whole ∙ map-append f front (x ∷ back);
  before = all_mapped f (λ z. LiesBefore wanted above (key z)) front s.before;
  reached = elim s.reached [ inl does ↦ inl does | inr none ↦ inr (ap (map f) none) ];
}

pub record HasParts {X : Type 0} (x : X) (xs : List X) : Type 0 where
  pub front : List X
  pub back : List X
  pub whole : xs ≡ front ++ x ∷ back

pub part_at : {X : Type 0} (x : X) (xs : List X) → IsIn x xs → HasParts x xs
part_at x [] is = absurd is
part_at {X} x (y ∷ ys) is = elim is [
  | inl here ↦ record { front = []; back = ys; whole = ap (λ (z : X). z ∷ ys) (sym here) }
  | inr there ↦ let rest = part_at x ys there in record { front = y ∷ rest.front; back = rest.back; whole = ap (λ (zs : List X). y ∷ zs) rest.whole }
]

-- ---- parents

module _ (tree : ℕ) (entries : List Binding) (is_tree : IsTree tree) (has : HasTree entries) (level : ℕ) (lt : suc level < length (levels Two tree entries)) where
  -- the node that is sought a level above is the parent of the sought one
  pub sought_link : (wanted : List ℕ) (above : Bool) (f g b c : List Node) (parent child : Node) → IsSought greatest_of wanted above (level_at (levels Two tree entries) (suc level)) f parent b
      → IsSought greatest_of wanted above (level_at (levels Two tree entries) level) g child c → IsIn (link_to child) (links_in parent)
  sought_link wanted above f g b c parent child up here =
      let olds = level_at (levels Two tree entries) (suc level) in
      let nodes = subst (λ (ns : List Node). AllByRecursion IsNode ns) up.whole (old_nodes tree entries has is_tree (suc level) lt) in
      let parts = all_parts IsNode f (parent ∷ b) nodes in
      let among : IsIn parent olds = subst (λ (ns : List Node). IsIn parent ns) (sym up.whole) (in_back parent f (parent ∷ b) (inl refl)) in
      let some : 1 ≤ length (links_in parent) = has_links level parent parts.1.0 (level_in tree entries (suc level) parent among) in
      let s = seek_one (λ (l : Link). l.greatest) wanted above (links_in parent) some in
      let down = sought_down greatest_of (λ (l : Link). l.greatest) links_in wanted above olds f parent b s.front s.item s.back up s.sought (all_bound f parts.0)
      (λ none. last_link parent s.front s.item (s.sought.whole ∙ ap (λ (ys : List Link). s.front ++ s.item ∷ ys) none)) in
      let all = subst (λ (ls : List Link). IsSought (λ (l : Link). l.greatest) wanted above ls (flat_map links_in f ++ s.front) s.item (s.back ++ flat_map links_in b)) (linked tree entries level lt) down in
      let mine = map_sought link_to (λ (l : Link). l.greatest) wanted above (level_at (levels Two tree entries) level) g child c here in
      let equal : s.item ≡ link_to child = same_sought (λ (l : Link). l.greatest) wanted above (map link_to (level_at (levels Two tree entries) level)) (flat_map links_in f ++ s.front) (map link_to g) (s.back ++ flat_map links_in b) (map link_to c) s.item (link_to child) all mine in
      subst (λ (l : Link). IsIn l (links_in parent)) equal (subst (λ (ls : List Link). IsIn s.item ls) (sym s.sought.whole) (in_back s.item s.front (s.item ∷ s.back) (inl refl)))

  -- a node has one parent
  pub one_parent : (p q child : Node) → IsIn p (level_at (levels Two tree entries) (suc level)) → IsIn q (level_at (levels Two tree entries) (suc level)) → IsIn (link_to child) (links_in p) → IsIn (link_to child) (links_in q) → p ≡ q
  one_parent p q child in_p in_q has_p has_q =
      one_holder (λ (l : Link). l.greatest) links_in (level_at (levels Two tree entries) (suc level)) (inner_level tree entries has level lt).rising p q in_p in_q (link_to child) has_p has_q

-- ---- nodes that count

-- the node is sought for one of these keys, or it is gone
abbrev pub IsCounted : List (List Node) → List (List Node) → List (List ℕ) → ℕ → Node → Type 0
IsCounted old new wants level node =
    ((key : List ℕ) × IsIn key wants × IsSoughtFor (level_at old level) key node) ⊎ (IsIn node (level_at old level) × ¬ IsIn node (level_at new level))

pub counted_in : (old new : List (List Node)) (wants : List (List ℕ)) (level : ℕ) (node : Node) → IsCounted old new wants level node → IsIn node (level_at old level)
counted_in old new wants level node (inl (key, is, sought)) = sought_in (level_at old level) key node sought
counted_in old new wants level node (inr both) = both.0

module _ (tree : ℕ) (entries after : List Binding) (is_tree : IsTree tree) (has : HasTree entries) (after_has : HasTree after) (free : AreClashFree (levels Two tree entries) (levels Two tree after)) (wants : List (List ℕ)) where
  abbrev pub Counts : ℕ → Node → Type 0
  Counts = IsCounted (levels Two tree entries) (levels Two tree after) wants

  pub parent_counts : (level : ℕ) → suc level < length (levels Two tree entries) → (parent child : Node) → IsIn parent (level_at (levels Two tree entries) (suc level)) → IsIn (link_to child) (links_in parent) → Counts level child → Counts (suc level) parent
  parent_counts level lt parent child in_parent links (inl (key, is, sought)) =
      let up = seek_one greatest_of key false (level_at (levels Two tree entries) (suc level)) (some_at tree entries (suc level) lt) in
      let so : IsSoughtFor (level_at (levels Two tree entries) (suc level)) key up.item = record { front = up.front; back = up.back; sought = up.sought } in
      let link = sought_link tree entries is_tree has level lt key false up.front sought.front up.back sought.back up.item child up.sought sought.sought in
      let equal = one_parent tree entries is_tree has level lt up.item parent child (sought_in (level_at (levels Two tree entries) (suc level)) key up.item so) in_parent link links in
      inl (key, is, subst (λ (n : Node). IsSoughtFor (level_at (levels Two tree entries) (suc level)) key n) equal so)
  parent_counts level lt parent child in_parent links (inr (in_child, not_new)) =
      let place = in_place parent (level_at (levels Two tree entries) (suc level)) no_node in_parent in
      let parts = part_at (link_to child) (links_in parent) links in
      inr (
        in_parent,
        λ in_new. not_of tree is_tree entries after has after_has child (record { level = level; is = in_child; not_other = not_new })
            (child_stays tree entries after is_tree has after_has free level lt parent place.place place.within (sym place.at) parts.front child parts.back parts.whole
            (node_of tree entries level child in_child) (node_of tree after (suc level) parent in_new)),
      )

  -- what is on the way to a node that counts, counts
  pub way_counts : (steps at level : ℕ) → at ≡ level + steps → at < length (levels Two tree entries) → (wanted : List ℕ) (above : Bool) (f g b c : List Node) (over node : Node)
      → IsSought greatest_of wanted above (level_at (levels Two tree entries) at) f over b → IsSought greatest_of wanted above (level_at (levels Two tree entries) level) g node c → Counts level node → Counts at over
  way_counts zero at level here lt wanted above f g b c over node up is counts =
      let same : level ≡ at = omega (arith, here) in
      let there = subst (λ k. IsSought greatest_of wanted above (level_at (levels Two tree entries) k) g node c) same is in
      let equal = same_sought greatest_of wanted above (level_at (levels Two tree entries) at) g f c b node over there up in
      subst (λ (n : Node). Counts at n) equal (subst (λ k. Counts k node) same counts)
  way_counts (suc steps) zero level here lt wanted above f g b c over node up is counts = absurd (omega (arith, here))
  way_counts (suc steps) (suc at) level here lt wanted above f g b c over node up is counts =
      let mid = seek_one greatest_of wanted above (level_at (levels Two tree entries) at) (some_at tree entries at (omega (arith, lt))) in
      let among : IsIn over (level_at (levels Two tree entries) (suc at)) = subst (λ (ns : List Node). IsIn over ns) (sym up.whole) (in_back over f (over ∷ b) (inl refl)) in
      parent_counts at lt over mid.item among (sought_link tree entries is_tree has at lt wanted above f mid.front b mid.back over mid.item up mid.sought)
      (way_counts steps at level (omega (arith, here)) (omega (arith, lt)) wanted above mid.front g mid.back c mid.item node mid.sought is counts)
