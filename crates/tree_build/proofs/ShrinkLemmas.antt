-- Coming down from the last level to the first whose one node is a leaf or has two children.
use Rattle.std.proofs.Common.{◌≡◌, ℕ, zero, suc, ◌+◌, ◌-◌, ◌<◌, ◌≤◌, List, [], ◌∷◌, ◌++◌, length, get_or, map, ◌⊎◌, inl, inr, Bool, true, false, cond, eqb, None, Some, refl, sym, ap, subst, ◌∙◌, append_assoc, arith}
use Rattle.std.specs.List.{flat_map, AllByRecursion}
use Rattle.std.proofs.lemmas.List.{append-nil, map-append, length-map}
use Rattle.tree_node.specs.Nodes.{Binding, IsNode, Leaf, Link, Node, spelling}
use Rattle.tree_node.specs.Trees.{IsNodeOf, Two, ends_by, is_marked_entry, pieces, level_at, level_over, levels, link_to, links_in, no_node}
use Rattle.tree_node.specs.declared.digest.Digest.{Digest}
use Rattle.tree_node.proofs.shared.TreeLaws.{over_joined}
use Rattle.tree_build.specs.Changing.{Change}
use Rattle.tree_build.specs.Rebuilding.{IsOldTree, changed_entries}
use Rattle.tree_build.specs.internal.Edits.{Each, IsNewNode}
use Rattle.tree_build.specs.internal.Holding.{IsHeld}
use Rattle.tree_build.specs.internal.Shrinking.{CanShrink, HasShrunk, IsOnlyChild, passed, stayed, stayed_at}
use Rattle.tree_build.specs.internal.Steps.{IsEdit}
use Rattle.tree_build.specs.internal.Telling.{node_digest}
use Rattle.tree_build.specs.internal.Towers.{tower}
use Rattle.tree_build.specs.internal.TreeEdits.{AreEdits}
use Rattle.tree_build.specs.internal.Weaving.{IsIn, Woven}
use Rattle.tree_build.specs.declared.piece.NewPiece.{NewPiece}
use Rattle.tree_build.specs.declared.step.LevelEdit.{LevelEdit}
use Rattle.tree_build.proofs.DescentLemmas.{lone}
use Rattle.tree_build.proofs.OldLevels.{old_few, tower_first, tower_nodes}
use Rattle.tree_build.proofs.TreeEdits.{old_then}
use Rattle.tree_build.proofs.WeaveLemmas.{in_woven, woven_first, woven_second}

-- ---- lists

pub record HasPlace {X : Type 0} (n : X) (ns : List X) (d : X) : Type 0 where
  pub place : ℕ
  pub within : place < length ns
  pub at : get_or ns place d ≡ n

pub in_place : {X : Type 0} (n : X) (ns : List X) (d : X) → IsIn n ns → HasPlace n ns d
in_place n [] d is = absurd is
in_place n (m ∷ ms) d is = elim is [
  | inl here ↦ record { place = 0; within = omega arith; at = sym here }
  | inr there ↦ let found = in_place n ms d there in record { place = suc found.place; within = omega (arith, found.within); at = found.at }
]

pub edit_at : (old : List (List Node)) (new : ℕ → List Node) (first level : ℕ) (edits : List LevelEdit) (edit : LevelEdit) → AreEdits old new first edits → level < length edits → edit ≡ get_or edits level edit → IsEdit (level_at old (first + level)) (new (first + level)) edit
edit_at old new first level [] edit are lt is = absurd (omega (arith, lt))
edit_at old new first zero (e ∷ es) edit are lt is = let n : first ≡ first + 0 = omega arith in subst (λ k. IsEdit (level_at old k) (new k) edit) n (subst (λ (x : LevelEdit). IsEdit (level_at old first) (new first) x) (sym is) are.0)
edit_at old new first (suc level) (e ∷ es) edit are lt is =
    let n : suc first + level ≡ first + suc level = omega arith in
    subst (λ k. IsEdit (level_at old k) (new k) edit) n (edit_at old new (suc first) level es edit are.1 (omega (arith, lt)) is)

stayed_is : (new : ℕ → List Node) (first level : ℕ) (edits : List LevelEdit) (edit : LevelEdit) → level < length edits → edit ≡ get_or edits level edit → stayed_at new first edits level ≡ stayed (new (first + level)) edit
stayed_is new first level [] edit lt is = absurd (omega (arith, lt))
stayed_is new first zero (e ∷ es) edit lt is = let n : first ≡ first + 0 = omega arith in ap (λ (x : LevelEdit). stayed (new first) x) (sym is) ∙ ap (λ k. stayed (new k) edit) n
stayed_is new first (suc level) (e ∷ es) edit lt is = let n : suc first + level ≡ first + suc level = omega arith in stayed_is new (suc first) level es edit (omega (arith, lt)) is ∙ ap (λ k. stayed (new k) edit) n

module _ (tree : ℕ) (entries : List Binding) where
  abbrev at_level : ℕ → List Node
  at_level = tower Two tree entries

  -- a leaf has no children
  no_child : (node : Node) (link : Link) → at_level 0 ≡ node ∷ [] → links_in node ≡ link ∷ [] → ⊥
  no_child node link e has =
      let empty = leaf (pieces (ends_by Two is_marked_entry) entries) (sym (tower_first tree entries) ∙ e) in
      let t : [] ≡ link ∷ [] = sym empty ∙ has in
      absurd cc
    where
      leaf : (ps : List (List Binding)) → map (Leaf tree) ps ≡ node ∷ [] → links_in node ≡ []
      leaf [] f = absurd cc
      leaf (p ∷ ps) f = let head : Leaf tree p ≡ node = cc in ap links_in (sym head)

  -- the links of the one node of a level stand for the nodes below
  links_of_one : (level : ℕ) (node : Node) → at_level (suc level) ≡ node ∷ [] → links_in node ≡ map link_to (at_level level)
  unfolding tower
  links_of_one level node e = sym (append-nil (links_in node)) ∙ ap (flat_map links_in) (sym e) ∙ over_joined Two tree (suc level) (at_level level)

  none_over : (level : ℕ) → at_level level ≡ [] → at_level (suc level) ≡ []
  unfolding tower
  none_over level e = ap (λ (ns : List Node). level_over Two tree (suc level) ns) e

  pub record IsSettling (edits : List LevelEdit) (gone later : List (List ℕ)) (top : List ℕ) (level : ℕ) : Type 0 where
    pub steps : ℕ
    pub at : level + steps + 1 ≡ length edits
    pub one : (n : ℕ) → n ≤ steps → length (at_level (level + n)) ≡ 1
    pub top_is : top ≡ node_digest (get_or (at_level level) 0 no_node)
    pub gone_are : later ≡ gone ++ map node_digest (passed (stayed_at at_level 0 edits) (length edits - 1) steps)

  pub settling_start : (edits : List LevelEdit) (gone : List (List ℕ)) (top : List ℕ) → 1 ≤ length edits → length (at_level (length edits - 1)) ≡ 1 → top ≡ node_digest (get_or (at_level (length edits - 1)) 0 no_node) → IsSettling edits gone gone top (length edits - 1)
  settling_start edits gone top some one top_is = record {
    steps = 0;
    at = omega arith;
    one = λ n le. let k : length edits - 1 ≡ length edits - 1 + n = omega arith in subst (λ m. length (at_level m) ≡ 1) k one;
    top_is = top_is;
    gone_are = sym (append-nil gone);
  }

  module _ (edits : List LevelEdit) (gone later : List (List ℕ)) (top : List ℕ) (level : ℕ) (so : IsSettling edits gone later top level) where
    abbrev pub settling_node : Node
    settling_node = get_or (at_level level) 0 no_node

    pub settling_lone : at_level level ≡ settling_node ∷ []
    settling_lone = let n : level + 0 ≡ level = omega arith in lone (at_level level) no_node (subst (λ k. length (at_level k) ≡ 1) n (so.one 0 (omega arith)))

    -- below a node with one child there is a level with one node
    pub settling_low : (below : Digest) → IsOnlyChild settling_node (Some below) → 1 ≤ level
    settling_low below (link, has, is) = by level settling_lone has
      where
        by : (l : ℕ) → at_level l ≡ settling_node ∷ [] → links_in settling_node ≡ link ∷ [] → 1 ≤ l
        by zero e f = absurd (no_child settling_node link e f)
        by (suc l) e f = omega arith

    pub settling_next : (edit : LevelEdit) → edit ≡ get_or edits level edit → (below : Digest) → IsOnlyChild settling_node (Some below) → (after : List (List ℕ)) → after ≡ later ++ cond (eqb (length edit.news.items) 0) (top ∷ []) [] → IsSettling edits gone after below.0 (level - 1)
    settling_next edit edit_is below (link, has, is) after pushed = by (level - 1) refl
      where
        chosen_one : (b : Bool) → map node_digest (cond b (settling_node ∷ []) []) ≡ cond b (top ∷ []) []
        chosen_one true = ap (λ (d : List ℕ). d ∷ []) (sym so.top_is)
        chosen_one false = refl

        stays_here : (x : LevelEdit) → x ≡ get_or edits level x → map node_digest (stayed_at at_level 0 edits (length edits - 1 - so.steps)) ≡ cond (eqb (length x.news.items) 0) (top ∷ []) []
        stays_here x x_is =
            let here : length edits - 1 - so.steps ≡ level = omega (arith, so.at) in
            let zero_level : 0 + level ≡ level = omega arith in
            ap (λ k. map node_digest (stayed_at at_level 0 edits k)) here
            ∙ ap (map node_digest) (stayed_is at_level 0 level edits x (omega (arith, so.at)) x_is ∙ ap (λ k. stayed (at_level k) x) zero_level)
            ∙ ap (λ (ns : List Node). map node_digest (stayed ns x)) settling_lone
            ∙ chosen_one (eqb (length x.news.items) 0)

        by : (l : ℕ) → l ≡ level - 1 → IsSettling edits gone after below.0 (level - 1)
        by l e =
            let low : 1 ≤ level = settling_low below (link, has, is) in
            let next : level ≡ suc l = omega (arith, e, low) in
            let links : links_in settling_node ≡ map link_to (at_level l) = links_of_one l settling_node (ap at_level (sym next) ∙ settling_lone) in
            let count : length (at_level l) ≡ 1 = sym (length-map (at_level l) link_to) ∙ ap (length {A = Link}) (sym links ∙ has) in
            let child = lone (at_level l) no_node count in
            let head : link ∷ [] ≡ link_to (get_or (at_level l) 0 no_node) ∷ [] = sym has ∙ links ∙ ap (map link_to) child in
            let link_is : link ≡ link_to (get_or (at_level l) 0 no_node) = cc in
            let stay : map node_digest (stayed_at at_level 0 edits (length edits - 1 - so.steps)) ≡ cond (eqb (length edit.news.items) 0) (top ∷ []) [] = stays_here edit edit_is in
            subst (λ k. IsSettling edits gone after below.0 k) e (record {
              steps = suc so.steps;
              at = omega (arith, so.at, next);
              one = λ n le. below_one l next count n le;
              top_is = is ∙ ap (λ (k : Link). k.child) link_is;
              gone_are = pushed ∙ ap (λ (ds : List (List ℕ)). ds ++ cond (eqb (length edit.news.items) 0) (top ∷ []) []) so.gone_are
                  ∙ append_assoc gone (map node_digest (passed (stayed_at at_level 0 edits) (length edits - 1) so.steps)) (cond (eqb (length edit.news.items) 0) (top ∷ []) [])
                  ∙ ap (λ (ds : List (List ℕ)). gone ++ (map node_digest (passed (stayed_at at_level 0 edits) (length edits - 1) so.steps) ++ ds)) (sym stay)
                  ∙ ap (λ (ds : List (List ℕ)). gone ++ ds) (sym (map-append node_digest (passed (stayed_at at_level 0 edits) (length edits - 1) so.steps) (stayed_at at_level 0 edits (length edits - 1 - so.steps))));
            })
          where
            below_one : (k : ℕ) → level ≡ suc k → length (at_level k) ≡ 1 → (n : ℕ) → n ≤ suc so.steps → length (at_level (k + n)) ≡ 1
            below_one k is_next is_one zero le = let m : k ≡ k + 0 = omega arith in subst (λ j. length (at_level j) ≡ 1) m is_one
            below_one k is_next is_one (suc n) le = let m : level + n ≡ k + suc n = omega (arith, is_next) in subst (λ j. length (at_level j) ≡ 1) m (so.one n (omega (arith, le)))

    -- it is the top
    pub settling_done : IsOnlyChild settling_node None → HasShrunk at_level edits gone later top level
    settling_done many = record { steps = so.steps; at = so.at; one = so.one; first = by level settling_lone; top_is = so.top_is; gone_are = so.gone_are }
      where
        by : (l : ℕ) → at_level l ≡ settling_node ∷ [] → (l ≡ 0) ⊎ (2 ≤ length (at_level (l - 1)))
        by zero e = inl refl
        by (suc l) e =
            let links : length (links_in settling_node) ≡ length (at_level l) = ap (length {A = Link}) (links_of_one l settling_node e) ∙ length-map (at_level l) link_to in
            let same : suc l - 1 ≡ l = omega arith in
            inr (subst (λ k. 2 ≤ length (at_level k)) (sym same) (two (at_level l) refl links))
          where
            two : (ns : List Node) → at_level l ≡ ns → length (links_in settling_node) ≡ length (at_level l) → 2 ≤ length (at_level l)
            two [] f links = let t : [] ≡ settling_node ∷ [] = sym (none_over l f) ∙ e in absurd cc
            two (m ∷ []) f links = absurd (many (links ∙ ap (length {A = Node}) f))
            two (m ∷ k ∷ ns) f links = omega (arith, ap (length {A = Node}) f)

-- ---- the node of a level that has one

module _ (held : List ℕ → Type 0) (top : List ℕ) (changes : List (Change Binding)) (tree : ℕ) (entries : List Binding) (is : IsOldTree held top changes tree entries) (level : ℕ) (lt : level < length (levels Two tree entries)) (edit : LevelEdit)
    (edits : IsEdit (level_at (levels Two tree entries) level) (tower Two tree (changed_entries entries changes) level) edit) (node : Node) (alone : tower Two tree (changed_entries entries changes) level ≡ node ∷ []) where
  in_old : edit.news.items ≡ [] → IsIn node (level_at (levels Two tree entries) level)
  in_old none_new = elim (in_woven node edits.kept edits.came (tower Two tree (changed_entries entries changes) level) edits.is (subst (λ (ns : List Node). IsIn node ns) (sym alone) (inl refl))) [
    | inl keeps ↦ woven_first node edits.kept edits.opened (level_at (levels Two tree entries) level) edits.was keeps
    | inr newly ↦ absurd (empty edits.came (subst (λ (ns : List NewPiece). Each IsNewNode ns edits.came) none_new edits.news_stand) newly)
  ]
    where
      empty : (ns : List Node) → Each IsNewNode [] ns → IsIn node ns → ⊥
      empty [] all here = here
      empty (n ∷ ns) all here = all

  pub lone_is : level ≤ 63 → IsNode node
  lone_is le = (subst (λ (ns : List Node). AllByRecursion IsNode ns) alone (tower_nodes tree (changed_entries entries changes) is.changed_has is.is_tree level le)).0

  -- it is a node of the old tree, if it isn't new
  pub lone_among : edit.news.items ≡ [] → IsNodeOf (levels Two tree entries) (spelling node)
  lone_among none_new =
      let found = in_place node (level_at (levels Two tree entries) level) no_node (in_old none_new) in (level, found.place, (lt, found.within, ap spelling (sym found.at)))

  pub lone_held : level ≤ 63 → edit.news.items ≡ [] → (key : List ℕ) → key ≡ node_digest node → IsHeld held key node
  lone_held le none_new key same =
      record { is = lone_is le; holds = is.holds (spelling node) (lone_among none_new); digest_is = same }

  pub lone_new : (new : NewPiece) (others : List NewPiece) → edit.news.items ≡ new ∷ others → IsNewNode new node
  lone_new new others e = by edits.came (subst (λ (ns : List NewPiece). Each IsNewNode ns edits.came) e edits.news_stand) edits.is
    where
      by : (ns : List Node) → Each IsNewNode (new ∷ others) ns → Woven edits.kept ns (tower Two tree (changed_entries entries changes) level) → IsNewNode new node
      by [] all w = absurd all
      by (n ∷ ns) all w = elim (subst (λ (ms : List Node). IsIn n ms) alone (woven_second n edits.kept (n ∷ ns) (tower Two tree (changed_entries entries changes) level) w (inl refl))) [
        | inl it ↦ subst (λ (m : Node). IsNewNode new m) it all.0
        | inr never ↦ absurd never
      ]

-- the one node of the level in hand
module _ (held : List ℕ → Type 0) (tree : ℕ) (top : List ℕ) (changes : List (Change Binding)) (entries : List Binding) (edits : List LevelEdit) (digest : List ℕ) (can : CanShrink held tree top changes entries edits digest)
    (gone later : List (List ℕ)) (here : List ℕ) (level : ℕ) (within : level < length edits) (so : IsSettling tree (changed_entries entries changes) edits gone later here level) (edit : LevelEdit) (edit_is : edit ≡ get_or edits level edit) where
  abbrev hand : Node
  hand = settling_node tree (changed_entries entries changes) edits gone later here level so

  edit_here : IsEdit (level_at (levels Two tree entries) level) (tower Two tree (changed_entries entries changes) level) edit
  edit_here =
      let zero_level : 0 + level ≡ level = omega arith in
      subst (λ n. IsEdit (level_at (levels Two tree entries) n) (tower Two tree (changed_entries entries changes) n) edit) zero_level (edit_at (levels Two tree entries) (tower Two tree (changed_entries entries changes)) 0 level edits edit can.are within edit_is)

  hand_few : level ≤ 63
  hand_few = omega (arith, within, can.high, old_few tree entries can.is.has)

  hand_lone : tower Two tree (changed_entries entries changes) level ≡ hand ∷ []
  hand_lone = settling_lone tree (changed_entries entries changes) edits gone later here level so

  pub hand_is : IsNode hand
  hand_is = lone_is held top changes tree entries can.is level (omega (arith, within, can.high)) edit edit_here hand hand_lone hand_few

  pub hand_held : edit.news.items ≡ [] → IsHeld held here hand
  hand_held none_new = lone_held held top changes tree entries can.is level (omega (arith, within, can.high)) edit edit_here hand hand_lone hand_few none_new here so.top_is

  pub hand_among : edit.news.items ≡ [] → IsNodeOf (levels Two tree entries) (spelling hand)
  hand_among none_new = lone_among held top changes tree entries can.is level (omega (arith, within, can.high)) edit edit_here hand hand_lone none_new

  pub hand_new : (new : NewPiece) (others : List NewPiece) → edit.news.items ≡ new ∷ others → IsNewNode new hand
  hand_new = lone_new held top changes tree entries can.is level (omega (arith, within, can.high)) edit edit_here hand hand_lone

-- what can shrink can still, where more is held
pub shrink_then : (old new : List ℕ → Type 0) (tree : ℕ) (top : List ℕ) (changes : List (Change Binding)) (entries : List Binding) (edits : List LevelEdit) (digest : List ℕ) → ((x : List ℕ) → old x → new x)
    → CanShrink old tree top changes entries edits digest → CanShrink new tree top changes entries edits digest
shrink_then old new tree top changes entries edits digest more can =
    record { is = old_then old new top changes tree entries more can.is; are = can.are; high = can.high; one = can.one; digest_is = can.digest_is }

-- a tree shrinks, whose edits are also these
pub shrinks : (held : List ℕ → Type 0) (tree : ℕ) (top : List ℕ) (changes : List (Change Binding)) (entries : List Binding) (edits others : List LevelEdit) (digest : List ℕ) → IsOldTree held top changes tree entries
    → AreEdits (levels Two tree entries) (tower Two tree (changed_entries entries changes)) 0 edits → length edits ≤ length (levels Two tree entries) → length (tower Two tree (changed_entries entries changes) (length edits - 1)) ≡ 1
    → digest ≡ node_digest (get_or (tower Two tree (changed_entries entries changes) (length edits - 1)) 0 no_node) → edits ≡ others → CanShrink held tree top changes entries others digest
shrinks held tree top changes entries edits others digest is are high one digest_is same =
    subst (λ (es : List LevelEdit). CanShrink held tree top changes entries es digest) same (record { is = is; are = are; high = high; one = one; digest_is = digest_is })
