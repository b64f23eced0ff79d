-- The nodes of the levels of a tree that a walk opens, and the entries in the range below them.
use Rattle.std.proofs.Common.{◌≡◌, Bool, ℕ, suc, ◌<◌, List, [], ◌∷◌, length, map, Option, None, ◌↔◌, inl, inr, refl, sym, ap, subst, ◌∙◌, arith}
use Rattle.std.specs.List.{AllByRecursion}
use Rattle.tree_node.specs.Nodes.{AreBytes, AreRisingFrom, Binding, IsTree, Link, Node, keys_of}
use Rattle.tree_node.specs.Trees.{HasTree, Shape, Stands, below_each, ends_by, entries_at, greatest_of, is_marked_link, level_at, levels, link_to, pieces}
use Rattle.tree_node.proofs.shared.PieceLaws.{pieces_sized}
use Rattle.tree_node.proofs.shared.PieceLemmas.{join, join_all, pieces_join}
use Rattle.tree_node.proofs.shared.TreeKeys.{greatests_at, some_at}
use Rattle.tree_node.proofs.shared.TreeLaws.{entries_some, nodes_at, pair_at, whole}
use Rattle.tree_node.proofs.shared.TreeParts.{counts_at, joined_at, kind_at, numbers_linked}
use Rattle.tree_walk.specs.Choices.{AreThose}
use Rattle.tree_walk.specs.internal.Accounts.{Account, AreBelow, AreBelowLevel}
use Rattle.tree_walk.specs.internal.Openings.{IsClosedChild, IsOpenChild, IsOpenNode, OpensAt}
use Rattle.tree_walk.specs.internal.Pendings.{AreStated, IsOneOf}
use Rattle.tree_walk.specs.Given.{entries_of_all}
use Rattle.tree_walk.specs.Spans.{children_of_all, children_placed, placed}
use Rattle.tree_walk.specs.Ranges.{Range}
use Rattle.tree_walk.specs.Walks.{IsEntryIn}
use Rattle.tree_walk.proofs.BelowLemmas.{AreFit, children_account, fit_from, leaves_below, nodes_account}
use Rattle.tree_walk.proofs.OpenChoices.{open_children_from, open_stated_from, open_where}
use Rattle.tree_walk.proofs.LevelLemmas.{inner_rising, start_at}

greatests_linked : (nodes : List Node) → map greatest_of nodes ≡ map (λ (l : Link). l.greatest) (map link_to nodes)
greatests_linked [] = refl
greatests_linked (n ∷ ns) = ap (λ (ks : List (List ℕ)). greatest_of n ∷ ks) (greatests_linked ns)

-- the entries below each node of a level are as the level above it states them
fit_at : (shape : Shape) (tree : ℕ) (entries : List Binding) (level : ℕ) → HasTree entries → AllByRecursion (λ (e : Binding). AreBytes e.key) entries → suc level < length (whole shape tree entries)
    → AreFit None (map link_to (level_at (whole shape tree entries) level)) (entries_at (whole shape tree entries) level)
fit_at shape tree entries level has bytes lt =
    let T = whole shape tree entries in
    let here : level < length T = omega arith in
    let joined : join (entries_at T level) ≡ entries = joined_at shape tree entries level here in
    fit_from None (map link_to (level_at T level)) (entries_at T level)
    (counts_at shape tree entries level here ∙ numbers_linked (level_at T level))
    (greatests_at shape tree entries has level here ∙ greatests_linked (level_at T level))
    (some_at shape tree entries has (entries_some shape tree entries level lt) level here)
    (subst (λ (es : List Binding). AreRisingFrom None (keys_of es)) (sym joined) has.rising)
    (join_all (λ (e : Binding). AreBytes e.key) (entries_at T level) (subst (λ (es : List Binding). AllByRecursion (λ (e : Binding). AreBytes e.key) es) (sym joined) bytes))

module _ (closing : Bool) where
  -- ---- from one level to the next

  -- The pending links are those of the nodes of the level that are opened, and they state these nodes.
  pub open_stated : (shape : Shape) (tree : ℕ) (entries : List Binding) (range : Range) (level : ℕ) (pending : List (Option (List ℕ) × Link))
      → IsTree tree → HasTree entries → suc level < length (levels shape tree entries)
      → AreThose (IsOpenChild closing range) (children_placed None (map link_to (level_at (levels shape tree entries) level))) pending
      → (spots : List (Option (List ℕ) × Node)) × AreThose (IsOpenNode closing range) (placed greatest_of None (level_at (levels shape tree entries) level)) spots × AreStated tree level pending spots
  unfolding levels
  open_stated shape tree entries range level pending is has lt those =
      let here : level < length (whole shape tree entries) = omega (arith, lt) in
      open_stated_from closing range tree level None (level_at (whole shape tree entries) level) pending
      (nodes_at shape tree entries has is level here) (kind_at shape tree entries level here) (start_at shape tree entries level has lt) those

  -- The children that are opened of the nodes of a level that are opened are the pending links of the level below it.
  pub open_below : (shape : Shape) (tree : ℕ) (entries : List Binding) (range : Range) (level : ℕ) (spots : List (Option (List ℕ) × Node)) (pending : List (Option (List ℕ) × Link))
      → HasTree entries → suc level < length (levels shape tree entries)
      → AreThose (IsOpenNode closing range) (placed greatest_of None (level_at (levels shape tree entries) (suc level))) spots → AreThose (IsOpenChild closing range) (children_of_all spots) pending
      → AreThose (IsOpenChild closing range) (children_placed None (map link_to (level_at (levels shape tree entries) level))) pending
  unfolding levels
  open_below shape tree entries range level spots pending has lt those found =
      let links = map link_to (level_at (whole shape tree entries) level) in
      let ps = pieces (ends_by shape is_marked_link) links in
      subst (λ (ls : List Link). AreThose (IsOpenChild closing range) (children_placed None ls) pending) (pieces_join (ends_by shape is_marked_link) [] links)
      (open_children_from closing range tree (suc level) None ps spots pending (pieces_sized shape is_marked_link links) (inner_rising shape tree entries level has lt)
      (subst (λ (ns : List Node). AreThose (IsOpenNode closing range) (placed greatest_of None ns) spots) (pair_at shape tree entries level lt).1 those) found)

  -- The nodes of a level below the top that are opened are those that are at a place.
  pub open_met : (shape : Shape) (tree : ℕ) (entries : List Binding) (range : Range) (level : ℕ) (spots : List (Option (List ℕ) × Node))
      → suc level < length (levels shape tree entries)
      → AreThose (IsOpenNode closing range) (placed greatest_of None (level_at (levels shape tree entries) level)) spots
      → (bytes : List ℕ) → IsOneOf spots bytes ↔ ((place : ℕ) × Stands (levels shape tree entries) level place bytes × OpensAt closing range (levels shape tree entries) level place)
  unfolding levels
  open_met shape tree entries range level spots lt those bytes =
      let where_open = open_where closing range (level_at (whole shape tree entries) level) spots bytes those in (
        (λ one. let at = where_open.0 one in (at.0, ((omega (arith, lt)), at.1, at.2), (inr at.3.0, at.3.1))),
        (λ at. elim at.2.0 [
          | inl top ↦ absurd (omega (arith, lt, top))
          | inr meets ↦ where_open.1 (at.0, at.1.1, at.1.2, (meets, at.2.1))
        ]),
      )

  -- ---- the entries in the range below the nodes that are opened

  -- The children of a level are all those of the top: all entries in the range are below them.
  pub top_account : (shape : Shape) (tree : ℕ) (entries : List Binding) (range : Range) (level : ℕ) (closed : List (Option (List ℕ) × Link)) (found : List Binding)
      → HasTree entries → AllByRecursion (λ (e : Binding). AreBytes e.key) entries → suc level < length (levels shape tree entries)
      → AreThose (IsClosedChild closing range) (children_placed None (map link_to (level_at (levels shape tree entries) level))) closed → AreBelowLevel closing range (levels shape tree entries) level found
      → (all : List Binding) × AreThose (IsEntryIn range) entries all × Account closing closed found all
  unfolding levels
  top_account shape tree entries range level closed found has bytes lt those below =
      let T = whole shape tree entries in
      let is = children_account closing range None (map link_to (level_at T level)) (entries_at T level) closed found (fit_at shape tree entries level has bytes lt) those below in
      (is.0, subst (λ (es : List Binding). AreThose (IsEntryIn range) es is.0) (joined_at shape tree entries level (omega (arith, lt))) is.1, is.2)

  -- one level further down
  pub level_account : (shape : Shape) (tree : ℕ) (entries : List Binding) (range : Range) (level : ℕ) (spots : List (Option (List ℕ) × Node)) (closed : List (Option (List ℕ) × Link)) (found : List Binding)
      → HasTree entries → AllByRecursion (λ (e : Binding). AreBytes e.key) entries → suc level < length (levels shape tree entries)
      → AreThose (IsOpenNode closing range) (placed greatest_of None (level_at (levels shape tree entries) (suc level))) spots → AreThose (IsClosedChild closing range) (children_of_all spots) closed
      → AreBelowLevel closing range (levels shape tree entries) level found → (all : List Binding) × AreBelowLevel closing range (levels shape tree entries) (suc level) all × Account closing closed found all
  unfolding levels entries_at
  level_account shape tree entries range level spots closed found has bytes lt those closes below =
      let T = whole shape tree entries in
      let links = map link_to (level_at T level) in
      let ps = pieces (ends_by shape is_marked_link) links in
      let joined : join ps ≡ links = pieces_join (ends_by shape is_marked_link) [] links in
      let over = (pair_at shape tree entries level lt).1 in
      let is = nodes_account closing range tree (suc level) None ps (entries_at T level) spots closed found (pieces_sized shape is_marked_link links) (inner_rising shape tree entries level has lt)
      (subst (λ (ls : List Link). AreFit None ls (entries_at T level)) (sym joined) (fit_at shape tree entries level has bytes lt))
      (subst (λ (ns : List Node). AreThose (IsOpenNode closing range) (placed greatest_of None ns) spots) over those) closes
      (subst (λ (ls : List Link). AreBelow closing range None ls (entries_at T level) found) (sym joined) below) in
      (is.0, subst (λ (ns : List Node). AreBelow closing range None (map link_to ns) (below_each ns (entries_at T level)) is.0) (sym over) is.1, is.2)

  -- at the leaves
  pub last_below : (shape : Shape) (tree : ℕ) (entries : List Binding) (range : Range) (spots : List (Option (List ℕ) × Node)) (found : List Binding)
      → AreThose (IsOpenNode closing range) (placed greatest_of None (level_at (levels shape tree entries) 0)) spots → AreThose (IsEntryIn range) (entries_of_all spots) found
      → AreBelowLevel closing range (levels shape tree entries) 0 found
  unfolding entries_at
  last_below shape tree entries range spots found those are = leaves_below closing range None (level_at (levels shape tree entries) 0) spots found those are
