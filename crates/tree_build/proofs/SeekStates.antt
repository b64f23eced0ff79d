-- How far a search has come: the node in hand is the sought one of a level, and just the nodes on the way were used.
use Rattle.std.proofs.Common.{◌≡◌, ◌↔◌, IsTrue, ◌≤◌, ◌<◌, ◌-◌, ◌&&◌, ℕ, suc, List, [], ◌∷◌, length, get_or, length-append, ◌⊎◌, inl, inr, Bool, true, refl, sym, ap, subst, ◌∙◌, arith}
use Rattle.tree_node.specs.Nodes.{Binding, Link, Node, level_of, spelling}
use Rattle.tree_node.specs.Shelves.{Stays}
use Rattle.tree_node.specs.Trees.{IsNodeOf, Two, level_at, levels, links_in, no_node}
use Rattle.tree_build.specs.StrangeShelves.{HasNoTwin}
use Rattle.tree_build.specs.internal.Holding.{IsHeld, IsHeldLevel, IsHeldTree, IsOnWay, IsSoughtNode}
use Rattle.tree_build.specs.internal.Seeking.{IsSought}
use Rattle.tree_build.proofs.DescentLemmas.{IsHeldAt, at_front, sought_child, sought_level, sought_links, sought_top}

pub held_then : (old new : List ℕ → Type 0) (top : List ℕ) (tree : ℕ) (entries : List Binding) → ((x : List ℕ) → old x → new x) → IsHeldTree old top tree entries → IsHeldTree new top tree entries
held_then old new top tree entries more is = record { is_tree = is.is_tree; has = is.has; is_top = is.is_top; holds = λ x of. more x (is.holds x of) }

-- what has no twin among more nodes has none among fewer
pub twin_less : (few many : List ℕ → Type 0) → ((x : List ℕ) → few x → many x) → (x : List ℕ) → HasNoTwin many x → HasNoTwin few x
twin_less few many more x alone other has same = alone other (more other has) same

pub later_held : (few many : List ℕ → Type 0) → ((x : List ℕ) → few x → many x) → (key : List ℕ) (node : Node) → IsHeld (HasNoTwin many) key node → IsHeld (HasNoTwin few) key node
later_held few many more key node is = record { is = is.is; holds = twin_less few many more (spelling node) is.holds; digest_is = is.digest_is }

-- a node of the tree that is held
pub record IsHeldNode (held : List ℕ → Type 0) (key : List ℕ) (tree : List (List Node)) : Type 0 where
  pub node : Node
  pub is_held : IsHeld held key node
  pub among : IsNodeOf tree (spelling node)

pub sought_among : (tree : List (List Node)) (level : ℕ) (wanted : List ℕ) (above : Bool) (node : Node) (last : Bool) → level < length tree → IsSoughtNode tree level wanted above node last → IsNodeOf tree (spelling node)
sought_among tree level wanted above node last lt is =
    let nodes = level_at tree level in
    let at : get_or nodes (length is.front) no_node ≡ node = ap (λ (ns : List Node). get_or ns (length is.front) no_node) is.sought.whole ∙ at_front is.front node is.back no_node in
    (level, length is.front, (lt, omega (arith, ap (length {A = Node}) is.sought.whole, length-append is.front (node ∷ is.back)), ap spelling (sym at)))

pub top_node : (held : List ℕ → Type 0) (top : List ℕ) (tree : ℕ) (entries : List Binding) → IsHeldTree held top tree entries → 1 ≤ length (levels Two tree entries) → (wanted : List ℕ) (above : Bool) → IsHeldNode held top (levels Two tree entries)
top_node held top tree entries is some wanted above =
    let here = sought_top held top tree entries is wanted above in
    record { node = here.node; is_held = here.is_held; among = sought_among (levels Two tree entries) (length (levels Two tree entries) - 1) wanted above here.node true (omega (arith, some)) here.at }

-- what is known once a node was opened
pub record HasOpened (used later_used : List ℕ → Type 0) (key : List ℕ) (found : Node) : Type 0 where
  pub grows : (x : List ℕ) → used x → later_used x
  pub found_is : (node : Node) → IsHeld (HasNoTwin later_used) key node → found ≡ node
  pub only : (node : Node) → IsHeld (HasNoTwin later_used) key node → (x : List ℕ) → later_used x → used x ⊎ (x ≡ spelling node)

module _ (used0 : List ℕ → Type 0) (top : List ℕ) (level : ℕ) (wanted : List ℕ) (above : Bool) where
  pub record IsAt (tree : ℕ) (entries : List Binding) (node : Node) (last : Bool) : Type 0 where
    pub at : ℕ
    pub over : level ≤ at
    pub within : at < length (levels Two tree entries)
    pub sought : IsSoughtNode (levels Two tree entries) at wanted above node last

  pub record SeekState (used : List ℕ → Type 0) (node : Node) (last : Bool) : Type 0 where
    pub grows : (x : List ℕ) → used0 x → used x
    pub at : (tree : ℕ) (entries : List Binding) → IsHeldTree (HasNoTwin used) top tree entries → level < length (levels Two tree entries) → IsAt tree entries node last
    pub only : (tree : ℕ) (entries : List Binding) → IsHeldTree (HasNoTwin used) top tree entries → level < length (levels Two tree entries) → (x : List ℕ) → used x → used0 x ⊎ IsOnWay (levels Two tree entries) level wanted above x

  -- the top was opened
  pub seek_start : (used : List ℕ → Type 0) (found : Node) → HasOpened used0 used top found → SeekState used found true
  seek_start used found opened = record {
    grows = opened.grows;
    at = λ tree entries is lt.
        let here = sought_top (HasNoTwin used) top tree entries is wanted above in
        let same = opened.found_is here.node here.is_held in
        record {
          at = length (levels Two tree entries) - 1;
          over = omega arith;
          within = omega arith;
          sought = subst (λ (n : Node). IsSoughtNode (levels Two tree entries) (length (levels Two tree entries) - 1) wanted above n true) (sym same) here.at;
        };
    only = λ tree entries is lt x has.
        let here = sought_top (HasNoTwin used) top tree entries is wanted above in
        elim (opened.only here.node here.is_held x has) [
          | inl before ↦ inl before
          | inr this ↦ inr (record { at = length (levels Two tree entries) - 1; over = omega arith; within = omega arith; node = here.node; last = true; sought = here.at; spelled = this })
        ];
  }

  module _ (used : List ℕ → Type 0) (node : Node) (last : Bool) (so : SeekState used node last) (higher : level < level_of node) where
    -- it stands above the level that is sought
    below : (tree : ℕ) (entries : List Binding) → IsHeldTree (HasNoTwin used) top tree entries → level < length (levels Two tree entries)
        → (k : ℕ) × (level ≤ k) × (suc k < length (levels Two tree entries)) × IsSoughtNode (levels Two tree entries) (suc k) wanted above node last
    below tree entries is lt =
        let here = so.at tree entries is lt in
        let own = sought_level (HasNoTwin used) top tree entries is here.at here.within wanted above node last here.sought in
        let same : suc (here.at - 1) ≡ here.at = omega arith in
        (here.at - 1, omega arith, omega arith, subst (λ n. IsSoughtNode (levels Two tree entries) n wanted above node last) (sym same) here.sought)

    -- it has children
    pub seek_links : (tree : ℕ) (entries : List Binding) → IsHeldTree (HasNoTwin used) top tree entries → level < length (levels Two tree entries) → 1 ≤ length (links_in node)
    seek_links tree entries is lt = let here = below tree entries is lt in sought_links (HasNoTwin used) top tree entries is here.0 here.2 wanted above node last here.3

    module _ (f : List Link) (c : Link) (b : List Link) (is_last : Bool) (picked : IsSought (λ (l : Link). l.greatest) wanted above (links_in node) f c b) (ends : IsTrue is_last ↔ (b ≡ [])) where
      child_at : (held : List ℕ → Type 0) (tree : ℕ) (entries : List Binding) → IsHeldTree (HasNoTwin used) top tree entries → (is : IsHeldTree held top tree entries) → level < length (levels Two tree entries)
          → (k : ℕ) × (level ≤ k) × (suc k < length (levels Two tree entries)) × IsHeldAt held top tree entries is k wanted above c.child (last && is_last)
      child_at held tree entries alone is lt =
          let here = below tree entries alone lt in
          (here.0, here.1, here.2, sought_child held top tree entries is here.0 here.2 wanted above node last f c b is_last here.3 picked ends)

      -- the child is a node of the tree
      pub seek_child : (fewer : List ℕ → Type 0) → ((x : List ℕ) → used x → fewer x) → (tree : ℕ) (entries : List Binding) → IsHeldTree (HasNoTwin fewer) top tree entries → level < length (levels Two tree entries) → IsHeldNode (HasNoTwin fewer) c.child (levels Two tree entries)
      seek_child fewer more tree entries is lt =
          let alone = held_then (HasNoTwin fewer) (HasNoTwin used) top tree entries (twin_less used fewer more) is in
          let here = child_at (HasNoTwin fewer) tree entries alone is lt in
          record { node = here.3.node; is_held = here.3.is_held; among = sought_among (levels Two tree entries) here.0 wanted above here.3.node (last && is_last) (omega (arith, here.2)) here.3.at }

      -- the child was opened
      pub seek_next : (later_used : List ℕ → Type 0) (found : Node) → HasOpened used later_used c.child found → SeekState later_used found (last && is_last)
      seek_next later_used found opened = record {
        grows = λ x h. opened.grows x (so.grows x h);
        at = λ tree entries is lt.
            let alone = held_then (HasNoTwin later_used) (HasNoTwin used) top tree entries (twin_less used later_used opened.grows) is in
            let here = child_at (HasNoTwin later_used) tree entries alone is lt in
            let same = opened.found_is here.3.node here.3.is_held in
            record {
              at = here.0;
              over = here.1;
              within = omega arith;
              sought = subst (λ (n : Node). IsSoughtNode (levels Two tree entries) here.0 wanted above n (last && is_last)) (sym same) here.3.at;
            };
        only = λ tree entries is lt x h.
            let alone = held_then (HasNoTwin later_used) (HasNoTwin used) top tree entries (twin_less used later_used opened.grows) is in
            let here = child_at (HasNoTwin later_used) tree entries alone is lt in
            elim (opened.only here.3.node here.3.is_held x h) [
              | inl before ↦ so.only tree entries alone lt x before
              | inr this ↦ inr (record { at = here.0; over = here.1; within = omega arith; node = here.3.node; last = last && is_last; sought = here.3.at; spelled = this })
            ];
      }

      -- it stands lower
      pub seek_smaller : (later_used : List ℕ → Type 0) (found : Node) → HasOpened used later_used c.child found → (tree : ℕ) (entries : List Binding) → IsHeldTree (HasNoTwin later_used) top tree entries → level < length (levels Two tree entries) → level_of found < level_of node
      unfolding below child_at
      seek_smaller later_used found opened tree entries is lt =
          let alone = held_then (HasNoTwin later_used) (HasNoTwin used) top tree entries (twin_less used later_used opened.grows) is in
          let upper = below tree entries alone lt in
          let here = child_at (HasNoTwin later_used) tree entries alone is lt in
          let same = opened.found_is here.3.node here.3.is_held in
          let low : level_of found ≡ here.0 = ap level_of same ∙ sought_level (HasNoTwin later_used) top tree entries is here.0 (omega arith) wanted above here.3.node (last && is_last) here.3.at in
          let high : level_of node ≡ suc upper.0 = sought_level (HasNoTwin used) top tree entries alone (suc upper.0) upper.2 wanted above node last upper.3 in
          let one : here.0 ≡ upper.0 = refl in
          omega arith

  -- the search has come to its level
  pub seek_done : (used : List ℕ → Type 0) (node : Node) (last : Bool) → SeekState used node last → level_of node ≤ level
      → (tree : ℕ) (entries : List Binding) → IsHeldTree (HasNoTwin used) top tree entries → level < length (levels Two tree entries) → IsSoughtNode (levels Two tree entries) level wanted above node last
  seek_done used node last so down tree entries is lt =
      let here = so.at tree entries is lt in
      let own = sought_level (HasNoTwin used) top tree entries is here.at here.within wanted above node last here.sought in
      let same : here.at ≡ level = omega (arith, here.over) in
      subst (λ n. IsSoughtNode (levels Two tree entries) n wanted above node last) same here.sought

pub level_then : (old new : List ℕ → Type 0) (top : List ℕ) (tree level : ℕ) (entries : List Binding) → ((x : List ℕ) → old x → new x) → IsHeldLevel old top tree level entries → IsHeldLevel new top tree level entries
level_then old new top tree level entries more has = record { is = held_then old new top tree entries more has.is; within = has.within }

pub stays_then : (fixed : Bool) (a b c : List ℕ → Type 0) → Stays fixed a b → Stays fixed b c → Stays fixed a c
stays_then fixed a b c one two = λ x. ((λ same h. (one x).0 same ((two x).0 same h)), (λ h. (two x).1 ((one x).1 h)))
