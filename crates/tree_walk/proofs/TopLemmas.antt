-- A walk that begins at the top of a tree.
use Rattle.std.proofs.Common.{◌≡◌, Bool, true, false, ℕ, zero, suc, ◌<◌, ◌≤◌, refl, ◌-◌, List, [], ◌∷◌, ◌++◌, length, map, Option, None, ◌⊎◌, inl, inr, Result, Ok, Err, sym, ap, subst, ◌∙◌, arith}
use Rattle.std.specs.List.{AllByRecursion}
use Rattle.std.proofs.lemmas.Bool.{cases_order}
use Rattle.tree_node.specs.Nodes.{AreBytes, Binding, Inner, IsTree, Leaf, Link, Node, level_of}
use Rattle.tree_node.specs.NodeRefs.{number_of}
use Rattle.tree_node.specs.Shelves.{Stays}
use Rattle.tree_node.specs.Outcomes.{Cause, Clash, EndsBy, GrownByAll, Outcome, RefusedFor}
use Rattle.tree_node.specs.Trees.{HasTree, Shape, Stands, entries_in, greatest_of, leaves, left_at, level_at, levels, link_to, links_in, node_in, top_of}
use Rattle.tree_node.proofs.shared.TreeLaws.{above, last_has_one, whole}
use Rattle.tree_node.proofs.shared.TreeLemmas.{tree_levels}
use Rattle.tree_node.specs.declared.tree.Tree.{Tree}
use Rattle.tree_node.specs.declared.tree.Tree.TheVariants.{Objects, Tags, Cells, Backs}
use Rattle.tree_walk.specs.Choices.{AreThose}
use Rattle.tree_walk.specs.internal.Accounts.{Account, AreBelowLevel, Gains, GathersAll}
use Rattle.tree_walk.specs.internal.Openings.{IsClosed, IsClosedChild, IsOpenChild, IsOpened, IsOpenedIn, IsReached}
use Rattle.tree_walk.specs.Fetches.{AreDifferent, Fetches, HasFetched, IsNodeText}
use Rattle.tree_walk.specs.internal.Pendings.{FetchedFew, FetchedNode, FetchesBelow, IsBetweenLevels}
use Rattle.tree_walk.specs.Spans.{children_placed}
use Rattle.tree_walk.specs.Ranges.{Range}
use Rattle.tree_walk.specs.Walks.{IsEntryIn, MeetsAt}
use Rattle.tree_walk.specs.declared.fault.WalkFault.{WalkFault}
use Rattle.tree_walk.proofs.AccountLemmas.{gains_then}
use Rattle.tree_walk.proofs.BelowLemmas.{account_then}
use Rattle.tree_walk.proofs.DescentFetches.{differ_append, levels_apart}
use Rattle.tree_walk.proofs.FetchLemmas.{all_weaker, fetched_one, fetched_then}
use Rattle.tree_walk.proofs.LevelLemmas.{few_levels_here, top_children, top_entries, top_is, top_met}
use Rattle.tree_walk.proofs.OpenLevels.{top_account}
use Rattle.tree_node.proofs.shared.OutcomeLaws.{clash_more, refused_more, uses}

-- the number of a tree is one
pub is_tree : (tree : Tree) → IsTree (number_of tree)
is_tree Objects = (omega arith, omega arith)
is_tree Tags = (omega arith, omega arith)
is_tree Cells = (omega arith, omega arith)
is_tree Backs = (omega arith, omega arith)

-- ---- which nodes were fetched

-- the top was refused
pub top_refused : {A : Type 0} (result : Result A WalkFault) (fault : WalkFault) (held old new : List ℕ → Type 0) (from to : ℕ) → result ≡ Err fault → FetchedFew (uses held old new) from to → Fetches result (uses held old new) from to
top_refused {A} result fault held old new from to is few =
    subst (λ (r : Result A WalkFault). Fetches r (uses held old new) from to) (sym is) ([], few.nodes, few.fetched, tt, tt, few.few)

-- one node alone
pub top_fetched : (node : Node) (held old new : List ℕ → Type 0) (from to : ℕ) → FetchedNode node (uses held old new) from to
    → (nodes : List (List ℕ)) × HasFetched (uses held old new) from to nodes × AreDifferent nodes × AllByRecursion IsNodeText nodes × (1 ≤ length nodes)
top_fetched node held old new from to is =
    (is.bytes ∷ [], rw is.counted (fetched_one held old new from is.bytes is.is_held is.grown), ((λ none. none), tt), ((node, is.spells), tt), omega arith)

-- the top, and then memory was refused
pub top_then_refused : {A : Type 0} (result : Result A WalkFault) (fault : WalkFault) (node : Node) (held old new : List ℕ → Type 0) (from to : ℕ) → result ≡ Err fault → FetchedNode node (uses held old new) from to → Fetches result (uses held old new) from to
top_then_refused {A} result fault node held old new from to is fetched =
    subst (λ (r : Result A WalkFault). Fetches r (uses held old new) from to) (sym is)
    (fetched.bytes ∷ [], [], rw fetched.counted (fetched_one held old new from fetched.bytes fetched.is_held fetched.grown), ((λ none. none), tt), ((node, fetched.spells), tt), omega arith)

pub text_of : (low high : ℕ) (bytes : List ℕ) → IsBetweenLevels low high bytes → IsNodeText bytes
text_of low high bytes is = (is.0, is.1)

-- the top, and what is below it
pub top_then_down : {fixed : Bool} {A : Type 0} (result : Result A WalkFault) (tree level : ℕ) (links : List Link) (held after old mid new : List ℕ → Type 0) (from via to : ℕ) → FetchedNode (Inner tree (suc level) links) (uses held old mid) from via → Stays fixed held after
    → FetchesBelow (suc level) result (uses after mid new) via to → Fetches result (uses after old new) from to
top_then_down (Ok value) tree level links held after old mid new from via to top stays down =
    let node = Inner tree (suc level) links in (
      top.bytes ∷ down.0,
      fetched_then held after old mid new from via to (top.bytes ∷ []) down.0 stays (rw top.counted (fetched_one held old mid from top.bytes top.is_held top.grown)) down.1,
      differ_append (top.bytes ∷ []) down.0 ((λ none. none), tt) down.2
          (levels_apart (suc level) (suc (suc level)) level (top.bytes ∷ []) down.0 (omega arith) ((node, top.spells, omega arith, omega arith), tt) down.3),
      ((node, top.spells), all_weaker (IsBetweenLevels 0 (suc level)) IsNodeText down.0 (text_of 0 (suc level)) down.3),
      omega arith,
    )
top_then_down (Err fault) tree level links held after old mid new from via to top stays down =
    let node = Inner tree (suc level) links in (
      top.bytes ∷ down.0,
      down.1,
      fetched_then held after old mid new from via to (top.bytes ∷ []) (down.0 ++ down.1) stays (rw top.counted (fetched_one held old mid from top.bytes top.is_held top.grown)) down.2,
      differ_append (top.bytes ∷ []) down.0 ((λ none. none), tt) down.3
          (levels_apart (suc level) (suc (suc level)) level (top.bytes ∷ []) down.0 (omega arith) ((node, top.spells, omega arith, omega arith), tt) down.4),
      ((node, top.spells), all_weaker (IsBetweenLevels 0 (suc level)) IsNodeText down.0 (text_of 0 (suc level)) down.4),
      down.5,
    )

-- ---- honest trees

-- without a left bound nothing stays closed
unbounded_open : (closing : Bool) (range : Range) (greatest : List ℕ) → ¬ IsClosed closing range None greatest
unbounded_open true range greatest is = is
unbounded_open false range greatest is = is

-- a node that is alone in its level has none
alone_bare : (closing : Bool) (range : Range) (nodes : List Node) (place : ℕ) (greatest : List ℕ) → length nodes ≡ 1 → place < length nodes → ¬ IsClosed closing range (left_at nodes place) greatest
alone_bare closing range nodes zero greatest one lt = unbounded_open closing range greatest
alone_bare closing range nodes (suc place) greatest one lt = absurd (omega (arith, one, lt))

-- nor is the top
top_bare : (closing : Bool) (shape : Shape) (tree : ℕ) (entries : List Binding) (range : Range) (place : ℕ) (greatest : List ℕ) → place < length (level_at (levels shape tree entries) (length (levels shape tree entries) - 1))
    → ¬ IsClosed closing range (left_at (level_at (levels shape tree entries) (length (levels shape tree entries) - 1)) place) greatest
unfolding levels
top_bare closing shape tree entries range place greatest lt =
    alone_bare closing range (level_at (whole shape tree entries) (length (whole shape tree entries) - 1)) place greatest
    (last_has_one shape tree 1 (leaves shape tree entries) (above shape tree entries) (tree_levels shape tree entries)) lt

module _ (closing : Bool) (shape : Shape) (tree : ℕ) (entries : List Binding) (range : Range) where
  -- the top is opened,
  pub of_top : (bytes : List ℕ) → bytes ≡ top_of (levels shape tree entries) → IsOpened closing range (levels shape tree entries) bytes
  of_top bytes e = let met = (top_met shape tree entries range bytes).0 e in
      (length (levels shape tree entries) - 1, met.0, met.1, (met.2, top_bare closing shape tree entries range met.0 (greatest_of (node_in (levels shape tree entries) (length (levels shape tree entries) - 1) met.0)) met.1.1))

  -- and what is opened lower down
  of_lower : (high : ℕ) (bytes : List ℕ) → IsOpenedIn closing range (levels shape tree entries) 0 high bytes → IsOpened closing range (levels shape tree entries) bytes
  of_lower high bytes met = (met.0, met.1, met.4, met.5)

  -- what is opened is the top, or is lower down
  parts : (high : ℕ) (bytes : List ℕ) → length (levels shape tree entries) ≡ suc (suc high) → IsOpened closing range (levels shape tree entries) bytes
      → (bytes ≡ top_of (levels shape tree entries)) ⊎ IsOpenedIn closing range (levels shape tree entries) 0 high bytes
  parts high bytes e met =
      elim (cases_order met.0 (length (levels shape tree entries) - 1)) [
        | inl same ↦ inl ((top_met shape tree entries range bytes).1
            (met.1, subst (λ (n : ℕ). Stands (levels shape tree entries) n met.1 bytes) same met.2, subst (λ (n : ℕ). MeetsAt range (levels shape tree entries) n met.1) same met.3.0))
        | inr (inl lt) ↦ inr (met.0, met.1, omega arith, omega (arith, lt, e), met.2, met.3)
        | inr (inr gt) ↦ absurd (omega (arith, gt, met.2.0))
      ]

  -- in a tree of one node it is the top
  only_top : (bytes : List ℕ) → length (levels shape tree entries) ≡ 1 → IsOpened closing range (levels shape tree entries) bytes → bytes ≡ top_of (levels shape tree entries)
  only_top bytes e met =
      let same : met.0 ≡ length (levels shape tree entries) - 1 = omega (arith, e, met.2.0) in
      (top_met shape tree entries range bytes).1
      (met.1, subst (λ (n : ℕ). Stands (levels shape tree entries) n met.1 bytes) same met.2, subst (λ (n : ℕ). MeetsAt range (levels shape tree entries) n met.1) same met.3.0)

  -- the top was refused
  pub honest_refused : (cause : Cause) (held new : List ℕ → Type 0) → Clash (λ bytes. bytes ≡ top_of (levels shape tree entries)) new ⊎ RefusedFor (λ bytes. bytes ≡ top_of (levels shape tree entries)) held cause
      → Clash (IsOpened closing range (levels shape tree entries)) new ⊎ RefusedFor (IsOpened closing range (levels shape tree entries)) held cause
  honest_refused cause held new (inl clash) = inl (clash_more (λ bytes. bytes ≡ top_of (levels shape tree entries)) (IsOpened closing range (levels shape tree entries)) new new of_top (λ x is. is) clash)
  honest_refused cause held new (inr refused) = inr (refused_more (λ bytes. bytes ≡ top_of (levels shape tree entries)) (IsOpened closing range (levels shape tree entries)) held cause of_top refused)

  -- the top is a leaf
  pub honest_leaf : (in_tree : ℕ) (items found : List Binding) (old new : List ℕ → Type 0) → IsTree tree → HasTree entries → Leaf in_tree items ≡ node_in (levels shape tree entries) (length (levels shape tree entries) - 1) 0
      → GrownByAll old new (λ bytes. bytes ≡ top_of (levels shape tree entries)) → AreThose (IsEntryIn range) items found
      → AreThose (IsEntryIn range) entries found × GrownByAll old new (IsOpened closing range (levels shape tree entries))
  honest_leaf in_tree items found old new tree_is has read gained those =
      let at_top : 0 ≡ length (levels shape tree entries) - 1 = ap level_of read ∙ (top_is shape tree entries tree_is has).2 in
      let one : length (levels shape tree entries) ≡ 1 = omega (arith, at_top, (few_levels_here shape tree entries has).0) in
      let items_are : items ≡ entries = ap entries_in read ∙ ap (λ (n : ℕ). entries_in (node_in (levels shape tree entries) n 0)) (sym at_top) ∙ top_entries shape tree entries one in (
        subst (λ (es : List Binding). AreThose (IsEntryIn range) es found) items_are those,
        λ bytes. (
          (λ is. elim ((gained bytes).0 is) [ inl was ↦ inl was | inr top ↦ inr (of_top bytes top) ]),
          (λ is. elim is [ inl was ↦ (gained bytes).1 (inl was) | inr met ↦ (gained bytes).1 (inr (only_top bytes one met)) ]),
        ),
      )

  -- the top is an inner node
  pub honest_inner : (in_tree level : ℕ) (links : List Link) (picked closed : List (Option (List ℕ) × Link)) → IsTree tree → HasTree entries → AllByRecursion (λ (entry : Binding). AreBytes entry.key) entries
      → Inner in_tree (suc level) links ≡ node_in (levels shape tree entries) (length (levels shape tree entries) - 1) 0 → AreThose (IsOpenChild closing range) (children_placed None links) picked
      → AreThose (IsClosedChild closing range) (children_placed None links) closed
      → (length (levels shape tree entries) ≡ suc (suc level)) × IsReached closing shape tree entries range level picked
      × AreThose (IsClosedChild closing range) (children_placed None (map link_to (level_at (levels shape tree entries) level))) closed
  honest_inner in_tree level links picked closed tree_is has bytes read those closes =
      let at_top : suc level ≡ length (levels shape tree entries) - 1 = ap level_of read ∙ (top_is shape tree entries tree_is has).2 in
      let many : length (levels shape tree entries) ≡ suc (suc level) = omega (arith, at_top) in
      let links_are : links ≡ map link_to (level_at (levels shape tree entries) level) =
      ap links_in read ∙ ap (λ (n : ℕ). links_in (node_in (levels shape tree entries) n 0)) (sym at_top) ∙ top_children shape tree entries level many in (
        many,
        record {
          is_tree = tree_is;
          has = has;
          bytes = bytes;
          within = omega (arith, many);
          those = subst (λ (ls : List Link). AreThose (IsOpenChild closing range) (children_placed None ls) picked) links_are those;
        },
        subst (λ (ls : List Link). AreThose (IsClosedChild closing range) (children_placed None ls) closed) links_are closes,
      )

  then_ends : {V : Type 0} (cause_of : WalkFault → Cause) (Is Then : V → Type 0) (result : Result V WalkFault) (high : ℕ) (held old mid new : List ℕ → Type 0) → length (levels shape tree entries) ≡ suc (suc high) → ((value : V) → Is value → Then value)
      → GrownByAll old mid (λ bytes. bytes ≡ top_of (levels shape tree entries)) → Clash (IsOpenedIn closing range (levels shape tree entries) 0 high) new ⊎ EndsBy cause_of Is (IsOpenedIn closing range (levels shape tree entries) 0 high) (uses held mid new) result
      → Clash (IsOpened closing range (levels shape tree entries)) new ⊎ EndsBy cause_of Then (IsOpened closing range (levels shape tree entries)) (uses held old new) result
  then_ends cause_of Is Then result high held old mid new many gives gained (inl clash) =
      inl (clash_more (IsOpenedIn closing range (levels shape tree entries) 0 high) (IsOpened closing range (levels shape tree entries)) new new (of_lower high) (λ x is. is) clash)
  then_ends cause_of Is Then (Err fault) high held old mid new many gives gained (inr refused) =
      inr (refused_more (IsOpenedIn closing range (levels shape tree entries) 0 high) (IsOpened closing range (levels shape tree entries)) held (cause_of fault) (of_lower high) refused)
  then_ends cause_of Is Then (Ok value) high held old mid new many gives gained (inr ends) = inr (
    gives value ends.0,
    λ bytes. (
      (λ is. elim ((ends.1 bytes).0 is) [
        | inl before ↦ elim ((gained bytes).0 before) [ inl was ↦ inl was | inr top ↦ inr (of_top bytes top) ]
        | inr met ↦ inr (of_lower high bytes met)
      ]),
      (λ is. elim is [
        | inl was ↦ (ends.1 bytes).1 (inl ((gained bytes).1 (inl was)))
        | inr met ↦ elim (parts high bytes many met) [ inl top ↦ (ends.1 bytes).1 (inl ((gained bytes).1 (inr top))) | inr low ↦ (ends.1 bytes).1 (inr low) ]
      ]),
    ),
  )

  -- the top was used, and then what is below it was read
  pub honest_then : {V : Type 0} (cause_of : WalkFault → Cause) (Is Then : V → Type 0) (result : Result V WalkFault) (high : ℕ) (held old mid new : List ℕ → Type 0) → length (levels shape tree entries) ≡ suc (suc high) → ((value : V) → Is value → Then value)
      → GrownByAll old mid (λ bytes. bytes ≡ top_of (levels shape tree entries)) → Outcome cause_of Is (IsOpenedIn closing range (levels shape tree entries) 0 high) (uses held mid new) result
      → Outcome cause_of Then (IsOpened closing range (levels shape tree entries)) (uses held old new) result
  honest_then cause_of Is Then result high held old mid new many gives gained outcome = record { ends = then_ends cause_of Is Then result high held old mid new many gives gained outcome.ends }

module _ {G : Type 0} (gathers : G → List (Option (List ℕ) × Link) → List Binding → Type 0) (closing : Bool) (range : Range) (entries : List Binding) where
  -- a leaf's entries are all that was gathered
  pub gathers_leaf : (old new : G) (found : List Binding) → Gains gathers old new [] found → AreThose (IsEntryIn range) entries found → GathersAll gathers closing range entries old new
  gathers_leaf old new found gains those = ([], found, found, gains, record { number = omega arith; same = λ all_open. refl }, those)

  -- what stays closed below the top, and what is gathered below the rest, is all
  pub gathers_inner : (shape : Shape) (tree level : ℕ) (old mid new : G) (top : List (Option (List ℕ) × Link)) → HasTree entries → AllByRecursion (λ (entry : Binding). AreBytes entry.key) entries → suc level < length (levels shape tree entries)
      → AreThose (IsClosedChild closing range) (children_placed None (map link_to (level_at (levels shape tree entries) level))) top → Gains gathers old mid top []
      → ((closed : List (Option (List ℕ) × Link)) × (found all : List Binding) × Gains gathers mid new closed found × Account closing closed found all × AreBelowLevel closing range (levels shape tree entries) level all)
      → GathersAll gathers closing range entries old new
  gathers_inner shape tree level old mid new top has bytes within closes gains below =
      let all = top_account closing shape tree entries range level top below.2 has bytes within closes below.5 in (
        top ++ below.0,
        below.1,
        all.0,
        gains_then gathers old mid new top below.0 [] below.1 gains below.3,
        account_then closing top below.0 below.1 below.2 all.0 all.2 below.4,
        all.1,
      )
