-- What the nodes that a walk read give.
use Rattle.std.proofs.Common.{◌≡◌, ◌≤◌, ℕ, suc, List, [], ◌∷◌, ◌++◌, length, map, Option, inl, inr, refl, sym, ap, subst, ◌∙◌, arith}
use Rattle.std.specs.List.{AllByRecursion, Contains}
use Rattle.tree_node.specs.NodeRefs.{number_of}
use Rattle.tree_node.specs.Nodes.{Binding, Inner, Leaf, Link, Node, Spells, spelling}
use Rattle.tree_node.specs.Outcomes.{ShelfUse}
use Rattle.tree_node.specs.Trees.{entries_in, links_in}
use Rattle.tree_node.specs.declared.tree.Tree.{Tree}
use Rattle.tree_node.proofs.shared.OutcomeLaws.{Nodes}
use Rattle.tree_walk.specs.Choices.{AreThose}
use Rattle.tree_walk.specs.Fetches.{IsAmong}
use Rattle.tree_walk.specs.Given.{Answer, AreAccepted, FromInner, FromLeaves, Gives, GivesFrom, IsEntered, IsGivenEntry, IsNever, IsWalk, SoMany, These, entries_of_all, wanted_of}
use Rattle.tree_walk.specs.Ranges.{IsIn, Range}
use Rattle.tree_walk.specs.Reasons.{Child, FromParent, FromTop, IsAccepted, IsOfKind, IsWanted, Top, Wanted, left_wanted}
use Rattle.tree_walk.specs.Spans.{children_of_all, children_placed}
use Rattle.tree_walk.specs.Walks.{IsEntryIn}
use Rattle.tree_walk.proofs.FetchLemmas.{all_append}
use Rattle.tree_walk.proofs.ReasonLemmas.{all_of, all_those}
use Rattle.tree_walk.proofs.shared.FoundLemmas.{contains_parts, none, those_among}
use Rattle.tree_walk.proofs.shared.WantedLaws.{accepted_more}

-- ---- more nodes that were used give the same

-- what was accepted is, where its bytes are used
pub accepted_as : (used : Nodes) (tree : ℕ) (wanted : Wanted) (node : Node) (bytes : List ℕ) (others : List (List ℕ)) → Spells bytes node → IsAccepted used tree wanted node → IsAccepted (IsAmong (bytes ∷ others)) tree wanted node
accepted_as used tree wanted node bytes others spells is = record { read = (is.read.0, (inl (sym spells.1), is.read.1.1)); kind = is.kind; stated = is.stated }

pub accepted_all_more : (used later : Nodes) (tree level : ℕ) (wanted : List Wanted) (nodes : List (Option (List ℕ) × Node)) → ((x : List ℕ) → used x → later x)
    → AreAccepted used tree level wanted nodes → AreAccepted later tree level wanted nodes
accepted_all_more used later tree level [] nodes grows all = all
accepted_all_more used later tree level (w ∷ ws) [] grows all = all
accepted_all_more used later tree level (w ∷ ws) (n ∷ ns) grows all =
    (all.0, all.1, accepted_more used later tree w n.1 grows all.2, accepted_all_more used later tree level ws ns grows all.3)

pub gives_from_more : (Closed : Option (List ℕ) × Link → Type 0) (used later : Nodes) (tree : ℕ) (range : Range) (wanted : List Wanted) (closed : List (Option (List ℕ) × Link)) (found : List Binding) → ((x : List ℕ) → used x → later x)
    → GivesFrom Closed used tree range wanted closed found → GivesFrom Closed later tree range wanted closed found
gives_from_more Closed used later tree range wanted closed found grows (FromLeaves w nodes f accepted those) =
    FromLeaves w nodes f (accepted_all_more used later tree 0 w nodes grows accepted) those
gives_from_more Closed used later tree range wanted closed found grows (FromInner level w nodes entered shut below f accepted enters closes lower) =
    FromInner level w nodes entered shut below f (accepted_all_more used later tree (suc level) w nodes grows accepted) enters closes
    (gives_from_more Closed used later tree range (map (wanted_of level) entered) below f grows lower)

pub gives_more : (used later : Nodes) (tree : Tree) (top : List ℕ) (range : Range) (answer : Answer) → ((x : List ℕ) → used x → later x) → Gives used tree top range answer → Gives later tree top range answer
gives_more used later tree top range (These found) grows gives = gives_from_more IsNever used later (number_of tree) range (Top top ∷ []) [] found grows gives
gives_more used later tree top range (SoMany number) grows gives =
    (gives.0, gives.1, gives_from_more _ used later (number_of tree) range (Top top ∷ []) gives.0 gives.1 grows gives.2, gives.3)

-- ---- the top

-- of nodes that are wanted together there are some that were accepted
accepted_of_from : (Closed : Option (List ℕ) × Link → Type 0) (used : Nodes) (tree : ℕ) (range : Range) (wanted : List Wanted) (closed : List (Option (List ℕ) × Link)) (found : List Binding)
    → GivesFrom Closed used tree range wanted closed found → (level : ℕ) × (nodes : List (Option (List ℕ) × Node)) × AreAccepted used tree level wanted nodes
accepted_of_from Closed used tree range wanted closed found (FromLeaves w nodes f accepted those) = (0, nodes, accepted)
accepted_of_from Closed used tree range wanted closed found (FromInner level w nodes entered shut below f accepted enters closes lower) = (suc level, nodes, accepted)

one_accepted : (used : Nodes) (tree level : ℕ) (wanted : Wanted) (nodes : List (Option (List ℕ) × Node)) → AreAccepted used tree level (wanted ∷ []) nodes → (node : Node) × IsAccepted used tree wanted node
one_accepted used tree level wanted [] none_is = absurd none_is
one_accepted used tree level wanted (n ∷ ns) all = (n.1, all.2)

-- The top was used, and it is a node of the tree.
pub gives_top : (used : Nodes) (tree : Tree) (top : List ℕ) (range : Range) (answer : Answer) → Gives used tree top range answer → (node : Node) × IsAccepted used (number_of tree) (Top top) node
gives_top used tree top range (These found) gives =
    let from = accepted_of_from IsNever used (number_of tree) range (Top top ∷ []) [] found gives in
    one_accepted used (number_of tree) from.0 (Top top) from.1 from.2
gives_top used tree top range (SoMany number) gives =
    let from = accepted_of_from _ used (number_of tree) range (Top top ∷ []) gives.0 gives.1 gives.2 in
    one_accepted used (number_of tree) from.0 (Top top) from.1 from.2

-- a list that has an item isn't empty
among_some : (nodes : List (List ℕ)) (bytes : List ℕ) → IsAmong nodes bytes → 1 ≤ length nodes
among_some [] bytes is = absurd is
among_some (n ∷ ns) bytes is = omega arith

-- So a walk fetched one node at least.
pub gives_some : (nodes : List (List ℕ)) (tree : Tree) (top : List ℕ) (range : Range) (answer : Answer) → Gives (IsAmong nodes) tree top range answer → 1 ≤ length nodes
gives_some nodes tree top range answer gives =
    let node = gives_top (IsAmong nodes) tree top range answer gives in
    among_some nodes (spelling node.0) node.1.read.1.0

pub walk_some : (shelf : ShelfUse) (from to : ℕ) (tree : Tree) (top : List ℕ) (range : Range) (answer : Answer) → (walk : IsWalk shelf from to tree top range answer) → 1 ≤ length walk.nodes
walk_some shelf from to tree top range answer walk = gives_some walk.nodes tree top range answer walk.gives

-- ---- where an entry stands that was given

module _ (used : Nodes) (tree : ℕ) (top : List ℕ) where
  -- a leaf that was accepted is one of the tree
  leaf_accepted : (wanted : Wanted) (in_tree : ℕ) (entries : List Binding) → IsAccepted used tree wanted (Leaf in_tree entries) → IsAccepted used tree wanted (Leaf tree entries)
  leaf_accepted wanted in_tree entries is = subst (λ (t : ℕ). IsAccepted used tree wanted (Leaf t entries)) (kind_is wanted is.kind) is
    where
      kind_is : (w : Wanted) → IsOfKind tree w (Leaf in_tree entries) → in_tree ≡ tree
      kind_is (Top t) kind = kind
      kind_is (Child level left link) kind = kind.0

  -- an entry of one of these nodes, where it is in the range
  entry_of_node : (range : Range) (wanted : Wanted) (node : Node) (entry : Binding) → IsWanted used tree top wanted → IsAccepted used tree wanted node → Contains (entries_in node) entry → IsIn range entry.key
      → IsGivenEntry used tree top range entry
  entry_of_node range wanted (Leaf in_tree entries) entry is accepted among within = record {
    wanted = wanted;
    entries = entries;
    is_wanted = is;
    accepted = leaf_accepted wanted in_tree entries accepted;
    among = among;
    within = within;
  }
  entry_of_node range wanted (Inner in_tree level links) entry is accepted among within = absurd (none entry among)

  entry_of_all : (range : Range) (level : ℕ) (wanted : List Wanted) (nodes : List (Option (List ℕ) × Node)) (entry : Binding) → AllByRecursion (IsWanted used tree top) wanted → AreAccepted used tree level wanted nodes
      → Contains (entries_of_all nodes) entry → IsIn range entry.key → IsGivenEntry used tree top range entry
  entry_of_all range level wanted [] entry all accepted among within = absurd (none entry among)
  entry_of_all range level [] (n ∷ ns) entry all accepted among within =
      absurd (none entry (subst (λ (nodes : List (Option (List ℕ) × Node)). Contains (entries_of_all nodes) entry) accepted among))
  entry_of_all range level (w ∷ ws) (n ∷ ns) entry all accepted among within = elim (contains_parts (entries_in n.1) (entries_of_all ns) entry among) [
    | inl first ↦ entry_of_node range w n.1 entry all.0 accepted.2 first within
    | inr last ↦ entry_of_all range level ws ns entry all.1 accepted.3 last within
  ]

  -- the children of nodes that were wanted and accepted are wanted
  children_of_wanted : (level : ℕ) (wanted : List Wanted) (nodes : List (Option (List ℕ) × Node)) → AllByRecursion (IsWanted used tree top) wanted → AreAccepted used tree (suc level) wanted nodes
      → AllByRecursion (λ (child : Option (List ℕ) × Link). IsWanted used tree top (wanted_of level child)) (children_of_all nodes)
  children_of_wanted level [] nodes all accepted = subst (λ (ns : List (Option (List ℕ) × Node)). AllByRecursion (λ (child : Option (List ℕ) × Link). IsWanted used tree top (wanted_of level child)) (children_of_all ns)) (sym accepted) tt
  children_of_wanted level (w ∷ ws) [] all accepted = tt
  children_of_wanted level (w ∷ ws) (n ∷ ns) all accepted =
      let is = λ (child : Option (List ℕ) × Link). IsWanted used tree top (wanted_of level child) in
      all_append is (children_placed n.0 (links_in n.1)) (children_of_all ns)
      (subst (λ (left : Option (List ℕ)). AllByRecursion is (children_placed left (links_in n.1))) (sym accepted.0)
      (all_of is (children_placed (left_wanted w) (links_in n.1)) (λ child among. FromParent w n.1 level child.0 child.1 all.0 accepted.2 accepted.1 among)))
      (children_of_wanted level ws ns all.1 accepted.3)

  all_wanted_of : (level : ℕ) (children : List (Option (List ℕ) × Link)) → AllByRecursion (λ (child : Option (List ℕ) × Link). IsWanted used tree top (wanted_of level child)) children
      → AllByRecursion (IsWanted used tree top) (map (wanted_of level) children)
  all_wanted_of level [] all = tt
  all_wanted_of level (c ∷ cs) all = (all.0, all_wanted_of level cs all.1)

  pub entry_from : (Closed : Option (List ℕ) × Link → Type 0) (range : Range) (wanted : List Wanted) (closed : List (Option (List ℕ) × Link)) (found : List Binding) (entry : Binding) → AllByRecursion (IsWanted used tree top) wanted
      → GivesFrom Closed used tree range wanted closed found → Contains found entry → IsGivenEntry used tree top range entry
  entry_from Closed range wanted closed found entry all (FromLeaves w nodes f accepted those) among =
      let is = those_among (IsEntryIn range) (entries_of_all nodes) f those entry among in
      entry_of_all range 0 w nodes entry all accepted is.0 is.1
  entry_from Closed range wanted closed found entry all (FromInner level w nodes entered shut below f accepted enters closes lower) among =
      let children = children_of_wanted level w nodes all accepted in
      let those = all_those (IsEntered Closed range) (λ (child : Option (List ℕ) × Link). IsWanted used tree top (wanted_of level child)) (children_of_all nodes) entered children enters in
      entry_from Closed range (map (wanted_of level) entered) below f entry (all_wanted_of level entered those) lower among

-- Each entry that was given stands in a leaf that was wanted and accepted, and its key is in the range.
pub given_entry : (used : Nodes) (tree : Tree) (top : List ℕ) (range : Range) (found : List Binding) (entry : Binding) → Gives used tree top range (These found) → Contains found entry
    → IsGivenEntry used (number_of tree) top range entry
given_entry used tree top range found entry gives among = entry_from used (number_of tree) top IsNever range (Top top ∷ []) [] found entry (FromTop, tt) gives among

-- ---- where nothing stays closed

those_never : (xs found : List (Option (List ℕ) × Link)) → AreThose IsNever xs found → found ≡ []
those_never [] found is = is
those_never (x ∷ xs) found (inl is) = absurd is.0
those_never (x ∷ xs) found (inr is) = those_never xs found is.1

pub never_closed : (used : Nodes) (tree : ℕ) (range : Range) (wanted : List Wanted) (closed : List (Option (List ℕ) × Link)) (found : List Binding) → GivesFrom IsNever used tree range wanted closed found → closed ≡ []
never_closed used tree range wanted closed found (FromLeaves w nodes f accepted those) = refl
never_closed used tree range wanted closed found (FromInner level w nodes entered shut below f accepted enters closes lower) =
    ap (λ (cs : List (Option (List ℕ) × Link)). cs ++ below) (those_never (children_of_all nodes) shut closes)
    ∙ never_closed used tree range (map (wanted_of level) entered) below f lower
