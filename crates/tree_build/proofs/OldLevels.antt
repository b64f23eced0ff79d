-- The levels of a tree as a step takes them: pieces of items whose keys rise.
use Rattle.std.proofs.Common.{◌≡◌, ℕ, zero, suc, ◌<◌, ◌≤◌, List, [], ◌∷◌, length, map, inl, inr, Bool, Option, None, Some, refl, sym, ap, subst, ◌∙◌, arith}
use Rattle.std.specs.List.{flat_map, AllByRecursion}
use Rattle.std.specs.Option.{option_map}
use Rattle.std.specs.Global.{Vec}
use Rattle.std.specs.Prelude.{IfSome}
use Rattle.tree_node.specs.Nodes.{AreRisingFrom, Binding, IsNode, IsTree, Leaf, Inner, Link, Node, greatests_of}
use Rattle.tree_node.specs.Trees.{HasTree, Two, ends_by, entries_in, greatest_of, is_marked_entry, is_marked_link, last_key, leaves, level_at, level_over, levels, link_to, links_in, pieces}
use Rattle.tree_node.proofs.shared.PieceLemmas.{join, pieces_join, some_pieces}
use Rattle.tree_node.proofs.shared.PieceLaws.{IsSized, lasts, pieces_rise, pieces_sized}
use Rattle.tree_node.proofs.shared.TreeLaws.{AreLinks, entries_some, links_at, links_leaves, links_over, nodes_at, nodes_leaves, over_joined, over_nodes, pair_at, whole, whole_few}
use Rattle.tree_node.proofs.shared.TreeLemmas.{leaves_few, level_half}
use Rattle.tree_build.specs.Changing.{Change}
use Rattle.tree_build.specs.Rebuilding.{changes_of, keys_of_changes}
use Rattle.tree_build.specs.declared.change.EntryChange.{EntryChange}
use Rattle.tree_build.specs.internal.Building.{AreWithin}
use Rattle.tree_build.specs.internal.Cutting.{ArePieces}
use Rattle.tree_build.specs.internal.RisingChanges.{AreOwnAndRising}
use Rattle.tree_build.specs.internal.Steps.{IsLevel}
use Rattle.tree_build.specs.internal.Towers.{tower}
use Rattle.tree_build.proofs.RecutLemmas.{pieces_are}
use Rattle.tree_build.proofs.StepItems.{all_above, join_mapped}

module _ {X : Type 0} (key : X → List ℕ) (marked : X → Bool) (items : Node → List X) (over : List X → Node) (back : (p : List X) → items (over p) ≡ p) (last : (p : List X) → greatest_of (over p) ≡ last_key (map key p)) where
  items_over : (ps : List (List X)) → map items (map over ps) ≡ ps
  items_over [] = refl
  items_over (p ∷ ps) = ap (λ (q : List X). q ∷ map items (map over ps)) (back p) ∙ ap (λ (qs : List (List X)). p ∷ qs) (items_over ps)

  all_made : (ps : List (List X)) → AllByRecursion (λ (n : Node). over (items n) ≡ n) (map over ps)
  all_made [] = tt
  all_made (p ∷ ps) = (ap over (back p), all_made ps)

  pub all_last : (ps : List (List X)) → AllByRecursion (λ (n : Node). greatest_of n ≡ last_key (map key (items n))) (map over ps)
  all_last [] = tt
  all_last (p ∷ ps) = (last p ∙ ap (λ (q : List X). last_key (map key q)) (sym (back p)), all_last ps)

  pub all_some : (ps : List (List X)) → AllByRecursion IsSized ps → AllByRecursion (λ (n : Node). 1 ≤ length (items n)) (map over ps)
  all_some [] sized = tt
  all_some (p ∷ ps) sized = (subst (λ (q : List X). 1 ≤ length q) (sym (back p)) sized.0.0, all_some ps sized.1)

  greatests_are : (ps : List (List X)) → map greatest_of (map over ps) ≡ lasts key ps
  greatests_are [] = refl
  greatests_are (p ∷ ps) = ap (λ (k : List ℕ). k ∷ map greatest_of (map over ps)) (last p) ∙ ap (λ (ks : List (List ℕ)). last_key (map key p) ∷ ks) (greatests_are ps)

  -- they have the items of the pieces
  pub flat_over : (ps : List (List X)) → flat_map items (map over ps) ≡ join ps
  flat_over ps = sym (join_mapped items (map over ps)) ∙ ap join (items_over ps)

  pub level_of_pieces : (xs : List X) → AreRisingFrom None (map key xs) → length (map over (pieces (ends_by Two marked) xs)) ≤ 536870912 → IsLevel key (ends_by Two marked) items over (map over (pieces (ends_by Two marked) xs))
  level_of_pieces xs rise few =
      let ps = pieces (ends_by Two marked) xs in
      let sized = pieces_sized Two marked xs in
      let flat : flat_map items (map over ps) ≡ xs = flat_over ps ∙ pieces_join (ends_by Two marked) [] xs in
      let rises = pieces_rise key None ps sized (subst (λ (ys : List X). AreRisingFrom None (map key ys)) (sym (pieces_join (ends_by Two marked) [] xs)) rise) in
      record {
        made = all_made ps;
        rising = subst (λ (ys : List X). AreRisingFrom None (map key ys)) (sym flat) rise;
        greatest = all_last ps;
        nodes_rise = subst (λ (ks : List (List ℕ)). AreRisingFrom None ks) (sym (greatests_are ps)) rises.1;
        cut = inr (record { are = subst (λ (qs : List (List X)). ArePieces (ends_by Two marked) qs) (sym (items_over ps)) (pieces_are (ends_by Two marked) xs); some = all_some ps sized });
        few = few;
      }

-- ---- the old tree

level_few : (tree : ℕ) (entries : List Binding) → HasTree entries → (level : ℕ) → level < length (whole Two tree entries) → length (level_at (whole Two tree entries) level) ≤ 536870912
level_few tree entries has zero lt = leaves_few Two tree entries 536870912 (omega arith) has.few
level_few tree entries has (suc level) lt =
    let rest = level_few tree entries has level (omega arith) in
    let pair = pair_at Two tree entries level lt in
    omega (arith, rest, pair.0, level_half Two tree (suc level) (level_at (whole Two tree entries) level), ap (length {A = Node}) pair.1)

pub leaf_level : (tree : ℕ) (entries : List Binding) → HasTree entries → IsLevel (λ (entry : Binding). entry.key) (ends_by Two is_marked_entry) entries_in (Leaf tree) (leaves Two tree entries)
leaf_level tree [] has = record { made = (refl, tt); rising = tt; greatest = (refl, tt); nodes_rise = (tt, tt); cut = inl refl; few = omega arith }
leaf_level tree (e ∷ es) has =
    let cut = some_pieces (ends_by Two is_marked_entry) (e ∷ es) (omega arith) in
    let few = leaves_few Two tree (e ∷ es) 536870912 (omega arith) has.few in
    subst (λ (ps : List (List Binding)). IsLevel (λ (entry : Binding). entry.key) (ends_by Two is_marked_entry) entries_in (Leaf tree) (map (Leaf tree) ps)) (sym cut)
    (level_of_pieces (λ (entry : Binding). entry.key) is_marked_entry entries_in (Leaf tree) (λ p. refl) (λ p. refl) (e ∷ es) has.rising (subst (λ (ps : List (List Binding)). length (map (Leaf tree) ps) ≤ 536870912) cut few))

pub inner_level : (tree : ℕ) (entries : List Binding) → HasTree entries → (level : ℕ) → suc level < length (levels Two tree entries)
    → IsLevel (λ (link : Link). link.greatest) (ends_by Two is_marked_link) links_in (Inner tree (suc level)) (level_at (levels Two tree entries) (suc level))
unfolding levels
inner_level tree entries has level lt =
    let pair = pair_at Two tree entries level lt in
    let links = links_at Two tree entries has (entries_some Two tree entries level lt) level (omega arith) in
    subst (λ (ns : List Node). IsLevel (λ (link : Link). link.greatest) (ends_by Two is_marked_link) links_in (Inner tree (suc level)) ns) (sym pair.1)
    (level_of_pieces (λ (link : Link). link.greatest) is_marked_link links_in (Inner tree (suc level)) (λ p. refl) (λ p. refl) (map link_to (level_at (whole Two tree entries) level)) links.rising
    (subst (λ (ns : List Node). length ns ≤ 536870912) pair.1 (level_few tree entries has (suc level) lt)))

-- the items of a level stand for the nodes below
pub linked : (tree : ℕ) (entries : List Binding) (level : ℕ) → suc level < length (levels Two tree entries) → flat_map links_in (level_at (levels Two tree entries) (suc level)) ≡ map link_to (level_at (levels Two tree entries) level)
unfolding levels
linked tree entries level lt = ap (flat_map links_in) (pair_at Two tree entries level lt).1 ∙ over_joined Two tree (suc level) (level_at (whole Two tree entries) level)

pub leaves_at : (tree : ℕ) (entries : List Binding) → level_at (levels Two tree entries) 0 ≡ leaves Two tree entries
unfolding levels
leaves_at tree entries = refl

pub old_nodes : (tree : ℕ) (entries : List Binding) → HasTree entries → IsTree tree → (level : ℕ) → level < length (levels Two tree entries) → AllByRecursion IsNode (level_at (levels Two tree entries) level)
unfolding levels
old_nodes tree entries has is level lt = nodes_at Two tree entries has is level lt

greatests_linked : (ns : List Node) → greatests_of (map link_to ns) ≡ map greatest_of ns
greatests_linked [] = refl
greatests_linked (n ∷ ns) = ap (λ (ks : List (List ℕ)). greatest_of n ∷ ks) (greatests_linked ns)

pub old_rises : (tree : ℕ) (entries : List Binding) → HasTree entries → (level : ℕ) → level < length (levels Two tree entries) → AreRisingFrom None (map greatest_of (level_at (levels Two tree entries) level))
unfolding levels
old_rises tree entries has zero lt = (leaf_level tree entries has).nodes_rise
old_rises tree entries has (suc level) lt =
    subst (λ (ks : List (List ℕ)). AreRisingFrom None ks) (greatests_linked (level_at (whole Two tree entries) (suc level))) (links_at Two tree entries has (entries_some Two tree entries level lt) (suc level) lt).rising

pub old_few : (tree : ℕ) (entries : List Binding) → HasTree entries → length (levels Two tree entries) ≤ 30
unfolding levels
old_few tree entries has = whole_few Two tree entries has

-- ---- the new levels

no_links : AreLinks []
no_links = record { short = tt; some = tt; total = omega arith; child = tt; rising = tt }

module _ (tree : ℕ) (entries : List Binding) (has : HasTree entries) where
  over_none : (level : ℕ) (ns : List Node) → length ns ≤ 0 → level_over Two tree level ns ≡ []
  over_none level [] le = refl
  over_none level (n ∷ ns) le = absurd (omega arith)

  tower_zero : (es : List Binding) → HasTree es → AreLinks (map link_to (tower Two tree es 0))
  unfolding tower
  tower_zero [] h = no_links
  tower_zero (e ∷ es) h = subst (λ (ps : List (List Binding)). AreLinks (map link_to (map (Leaf tree) ps))) (some_pieces (ends_by Two is_marked_entry) (e ∷ es) (omega arith)) (links_leaves Two tree (e ∷ es) h (omega arith))

  pub tower_links : (level : ℕ) → AreLinks (map link_to (tower Two tree entries level))
  unfolding tower
  tower_links zero = tower_zero entries has
  tower_links (suc level) = by (tower Two tree entries level) (tower_links level)
    where
      by : (ns : List Node) → AreLinks (map link_to ns) → AreLinks (map link_to (level_over Two tree (suc level) ns))
      by [] are = no_links
      by (n ∷ ns) are = links_over Two tree (suc level) (n ∷ ns) (omega arith) are

  pub tower_rises : (level : ℕ) → AreRisingFrom None (map greatest_of (tower Two tree entries level))
  tower_rises level = subst (λ (ks : List (List ℕ)). AreRisingFrom None ks) (greatests_linked (tower Two tree entries level)) (tower_links level).rising

  nodes_zero : IsTree tree → (es : List Binding) → HasTree es → AllByRecursion IsNode (tower Two tree es 0)
  unfolding tower
  nodes_zero is [] h = tt
  nodes_zero is (e ∷ es) h = subst (λ (ps : List (List Binding)). AllByRecursion IsNode (map (Leaf tree) ps)) (some_pieces (ends_by Two is_marked_entry) (e ∷ es) (omega arith)) (nodes_leaves Two tree (e ∷ es) h (omega arith) is)

  pub tower_nodes : IsTree tree → (level : ℕ) → level ≤ 63 → AllByRecursion IsNode (tower Two tree entries level)
  unfolding tower
  tower_nodes is zero le = nodes_zero is entries has
  tower_nodes is (suc level) le = by (tower Two tree entries level) (tower_links level)
    where
      by : (ns : List Node) → AreLinks (map link_to ns) → AllByRecursion IsNode (level_over Two tree (suc level) ns)
      by [] are = tt
      by (n ∷ ns) are = over_nodes Two tree (suc level) (n ∷ ns) is (omega arith) le (omega arith) are

  -- what stands for the nodes of a level can be written
  pub tower_within : (level : ℕ) → AreWithin (map link_to (tower Two tree entries level))
  tower_within level = record { greatest = (tower_links level).short; few = (tower_links level).total }

pub tower_first : (tree : ℕ) (entries : List Binding) → tower Two tree entries 0 ≡ map (Leaf tree) (pieces (ends_by Two is_marked_entry) entries)
unfolding tower
tower_first tree entries = refl

pub tower_next : (tree : ℕ) (entries : List Binding) (level : ℕ) → tower Two tree entries (suc level) ≡ map (Inner tree (suc level)) (pieces (ends_by Two is_marked_link) (map link_to (tower Two tree entries level)))
unfolding tower
tower_next tree entries level = refl

-- ---- the changes of entries

own_put : (key : List ℕ) (value : Option (Vec ℕ)) → IfSome (option_map (λ (v : Vec ℕ). record { key = key; value = v.items }) value) (λ (entry : Binding). entry.key ≡ key)
own_put key None = tt
own_put key (Some v) = refl

own_changes_from : (low : Option (List ℕ)) (changes : List EntryChange) → AreRisingFrom low (keys_of_changes (changes_of changes)) → AreOwnAndRising (λ (entry : Binding). entry.key) (changes_of changes)
own_changes_from low [] rising = tt
own_changes_from low (c ∷ cs) rising = (own_put c.key.items c.value, all_above (λ (d : Change Binding). d.key) c.key.items (changes_of cs) rising.1, own_changes_from (Some c.key.items) cs rising.1)

pub own_changes : (changes : List EntryChange) → AreRisingFrom None (keys_of_changes (changes_of changes)) → AreOwnAndRising (λ (entry : Binding). entry.key) (changes_of changes)
own_changes = own_changes_from None
