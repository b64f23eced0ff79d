-- What the changing of a tree's levels reads counts: it is on the way to a node that is sought for a change, or gone.
use Rattle.std.proofs.Common.{◌≡◌, ℕ, zero, suc, ◌+◌, ◌-◌, ◌<◌, ◌≤◌, List, [], ◌∷◌, length, ◌⊎◌, inl, inr, false, refl, sym, ap, subst, ◌∙◌, arith}
use Rattle.tree_node.specs.Nodes.{Binding, IsTree, Leaf, Link, Node, spelling}
use Rattle.tree_node.specs.Trees.{HasTree, Two, entries_in, leaves, level_at, levels}
use Rattle.tree_build.specs.Changing.{Change}
use Rattle.tree_build.specs.Rebuilding.{AreClashFree, changed_entries}
use Rattle.tree_build.specs.internal.Edits.{Each, IsOldNode}
use Rattle.tree_build.specs.internal.Holding.{IsOnWayTo}
use Rattle.tree_build.specs.internal.RisingChanges.{AreOwnAndRising}
use Rattle.tree_build.specs.internal.Steps.{HaveReasons, IsCovered, IsOpenedFor, IsSoughtFor, keys_changed}
use Rattle.tree_build.specs.internal.Towers.{tower}
use Rattle.tree_build.specs.internal.TreeEdits.{AreReasoned, HasNext, HaveAllReasons, IsRead}
use Rattle.tree_build.specs.internal.Weaving.{IsIn}
use Rattle.tree_build.specs.declared.old_node.OldNode.{OldNode}
use Rattle.tree_build.specs.declared.step.LevelEdit.{LevelEdit}
use Rattle.tree_build.proofs.BornLemmas.{AreBorn}
use Rattle.tree_build.proofs.BornLevels.{born_inner, born_leaves}
use Rattle.tree_build.proofs.CountedLemmas.{IsCounted, parent_counts, sought_link, way_counts}
use Rattle.tree_build.proofs.LevelsLemmas.{empty_tree, in_all, in_range, nodes_in, tower_in}
use Rattle.tree_build.proofs.NextSought.{IsFoundIn, next_opened, sought_in}
use Rattle.tree_build.proofs.OldLevels.{leaf_level, leaves_at, old_rises, tower_rises}
use Rattle.tree_build.proofs.ParentLemmas.{one_spelling}
use Rattle.tree_build.proofs.TreeEdits.{next_changes}
use Rattle.tree_build.proofs.WeaveLemmas.{in_back, woven_second}

-- ---- lists

module _ {X Y : Type 0} (Stands : X → Y → Type 0) where
  pub record HasOther (x : X) (ys : List Y) : Type 0 where
    pub other : Y
    pub is : IsIn other ys
    pub stands : Stands x other

  pub each_there : (xs : List X) (ys : List Y) → Each Stands xs ys → (x : X) → IsIn x xs → HasOther x ys
  each_there [] ys all x is = absurd is
  each_there (z ∷ zs) [] all x is = absurd all
  each_there (z ∷ zs) (y ∷ ys) all x is = elim is [
    | inl here ↦ record { other = y; is = inl refl; stands = subst (λ (w : X). Stands w y) (sym here) all.0 }
    | inr there ↦ let rest = each_there zs ys all.1 x there in record { other = rest.other; is = inr rest.is; stands = rest.stands }
  ]

each_back : {X Y : Type 0} (Stands : X → Y → Type 0) (xs : List X) (ys : List Y) → Each Stands xs ys → Each (λ (y : Y) (x : X). Stands x y) ys xs
each_back Stands [] [] all = tt
each_back Stands [] (y ∷ ys) all = all
each_back Stands (x ∷ xs) [] all = all
each_back Stands (x ∷ xs) (y ∷ ys) all = (all.0, each_back Stands xs ys all.1)

none_or_some : {X : Type 0} (xs : List X) → (xs ≡ []) ⊎ (1 ≤ length xs)
none_or_some [] = inl refl
none_or_some (x ∷ xs) = inr (omega arith)

one_or_more : (n : ℕ) → 1 ≤ n → (n ≡ 1) ⊎ (2 ≤ n)
one_or_more n le = grind arith

-- of a level with one node it is sought for each key
pub only_sought : (ns : List Node) → length ns ≡ 1 → (n : Node) → IsIn n ns → (k : List ℕ) → IsSoughtFor ns k n
only_sought [] one n is k = absurd is
only_sought (m ∷ []) one n is k = elim is [
  | inl here ↦ record { front = []; back = []; sought = record { whole = ap (λ (p : Node). p ∷ []) (sym here); before = tt; reached = inr refl } }
  | inr never ↦ absurd never
]
only_sought (m ∷ p ∷ ms) one n is k = absurd (omega (arith, one))

-- ---- bytes that count

-- the bytes are a node of the old tree that counts
pub record IsCountedNode (old new : List (List Node)) (wants : List (List ℕ)) (bytes : List ℕ) : Type 0 where
  pub level : ℕ
  pub within : level < length old
  pub node : Node
  pub counts : IsCounted old new wants level node
  pub spelled : bytes ≡ spelling node

module _ (tree : ℕ) (entries : List Binding) (changes : List (Change Binding)) (is_tree : IsTree tree) (has : HasTree entries) (changed_has : HasTree (changed_entries entries changes))
    (free : AreClashFree (levels Two tree entries) (levels Two tree (changed_entries entries changes))) (want : List ℕ) (wanted : IsIn want (keys_changed changes)) where
  abbrev old : List (List Node)
  old = levels Two tree entries

  abbrev after : List Binding
  after = changed_entries entries changes

  abbrev made : ℕ → List Node
  made = tower Two tree (changed_entries entries changes)

  abbrev Counts : ℕ → Node → Type 0
  Counts = IsCounted (levels Two tree entries) (levels Two tree (changed_entries entries changes)) (keys_changed changes)

  -- the empty tree has no node of a level with two nodes
  no_leaf : (level : ℕ) (node : Node) → IsIn node (level_at old level) → 2 ≤ length (level_at old level) → IsIn node (level_at ((Leaf tree [] ∷ []) ∷ []) level) → ⊥
  no_leaf zero node is two (inl here) = elim (leaf_level tree entries has).cut [
    | inl one ↦ absurd (omega (arith, one, two, ap (length {A = Node}) (leaves_at tree entries)))
    | inr pieces ↦
        let some = in_all (λ (n : Node). 1 ≤ length (entries_in n)) (leaves Two tree entries) node pieces.some (subst (λ (ns : List Node). IsIn node ns) (leaves_at tree entries) is) in
        absurd (omega (arith, some, ap (λ (n : Node). length (entries_in n)) here))
  ]
  no_leaf zero node is two (inr never) = never
  no_leaf (suc level) node is two not = not

  -- an old node that the tower hasn't counts
  gone_counts : (level : ℕ) → level < length old → (node : Node) → IsIn node (level_at old level) → (IsIn node (made level) → ⊥) → Counts level node
  gone_counts level lt node is not = elim (none_or_some after) [
    | inr some ↦ inr (is, λ in_new. not (subst (λ (ns : List Node). IsIn node ns) (tower_in tree after some level (in_range tree after level node in_new)) in_new))
    | inl none ↦ elim (one_or_more (length (level_at old level)) (some_of (level_at old level) is)) [
      | inl one ↦ inl (want, wanted, only_sought (level_at old level) one node is want)
      | inr two ↦ inr (is, λ in_new. no_leaf level node is two (subst (λ (ls : List (List Node)). IsIn node (level_at ls level)) (ap (levels Two tree) none ∙ empty_tree tree) in_new))
    ]
  ]
    where
      some_of : (ns : List Node) → IsIn node ns → 1 ≤ length ns
      some_of [] there = absurd there
      some_of (n ∷ ns) there = omega arith

  same_stands : (level : ℕ) (o : OldNode) (a b : Node) → IsIn a (level_at old level) → IsIn b (level_at old level) → IsOldNode o a → IsOldNode o b → a ≡ b
  same_stands level o a b in_a in_b one two = one_spelling a b (nodes_in tree entries has is_tree level a in_a) (nodes_in tree entries has is_tree level b in_b) (sym one.bytes ∙ two.bytes)

  -- what is sought for these keys counts
  abbrev DoCount : ℕ → List (List ℕ) → Type 0
  DoCount level keys = (k : List ℕ) (n : Node) → IsIn k keys → IsSoughtFor (level_at old level) k n → Counts level n

  module _ (level : ℕ) (lt : level < length old) (keys : List (List ℕ)) (olds : List OldNode) (reasons : HaveReasons (level_at old level) (made level) keys keys olds) (do_count : DoCount level keys) where
    -- each opened node counts
    opened_counts : (o : OldNode) → IsIn o olds → (n : Node) → IsIn n (level_at old level) → IsOldNode o n → Counts level n
    opened_counts o opened n is stands =
        let r = in_all (IsOpenedFor (level_at old level) (made level) keys) olds o reasons.reasons opened in
        let equal = same_stands level o r.node n r.among is r.stands stands in
        subst (λ (m : Node). Counts level m) equal (elim r.reason [
          | inl for ↦ do_count for.0 r.node for.1 for.2
          | inr gone ↦ gone_counts level lt r.node r.among gone
        ])

    way_read : (bytes : List ℕ) → IsOnWayTo old level olds bytes → IsCountedNode old (levels Two tree after) (keys_changed changes) bytes
    way_read bytes way =
        let on = way.on_way in
        let is : IsIn way.node (level_at old level) = subst (λ (ns : List Node). IsIn way.node ns) (sym way.sought.sought.whole) (in_back way.node way.sought.front (way.node ∷ way.sought.back) (inl refl)) in
        record {
          level = on.at;
          within = on.within;
          node = on.node;
          counts = way_counts tree entries after is_tree has changed_has free (keys_changed changes) (on.at - level) on.at level (omega (arith, on.over)) on.within way.wanted way.above
              on.sought.front way.sought.front on.sought.back way.sought.back on.node way.node on.sought.sought way.sought.sought (opened_counts way.old way.opened way.node is way.stands);
          spelled = on.spelled;
        }

    module _ (cs : List (Change Link)) (edit : LevelEdit) (same : edit.olds.items ≡ olds) (next : HasNext (level_at old level) (made level) edit cs) (born : AreBorn (level_at old level) (made level) keys) where
      stand : Each IsOldNode olds next.is.opened
      stand = subst (λ os. Each IsOldNode os next.is.opened) same next.is.olds_stand

      covered : (k : List ℕ) → IsIn k keys → IsFoundIn (level_at old level) next.is.opened k
      covered k in_keys =
          let c = in_all (IsCovered (level_at old level) olds) keys k reasons.covers in_keys in
          let there = each_there IsOldNode olds next.is.opened stand c.old c.opened in
          let equal = same_stands level c.old there.other c.node (woven_second there.other next.is.kept next.is.opened (level_at old level) next.is.was there.is)
          (sought_in (level_at old level) k c.node c.sought) there.stands c.stands in
          record { node = c.node; is = subst (λ (n : Node). IsIn n next.is.opened) equal there.is; sought = c.sought }

      next_counts : suc level < length old → DoCount (suc level) (keys_changed cs)
      next_counts lt_next k n in_next sought =
          let f = next_opened (level_at old level) (made level) next.is.kept next.is.opened next.is.came next.lost next.gained cs next.is.was next.is.is next.parent_changes
          (old_rises tree entries has level lt) (tower_rises tree after changed_has level) keys born covered k in_next in
          let there = each_there (λ (m : Node) (o : OldNode). IsOldNode o m) next.is.opened olds (each_back IsOldNode olds next.is.opened stand) f.node f.is in
          let in_old = woven_second f.node next.is.kept next.is.opened (level_at old level) next.is.was f.is in
          let counts = opened_counts there.other there.is f.node in_old there.stands in
          parent_counts tree entries after is_tree has changed_has free (keys_changed changes) level lt_next n f.node (sought_in (level_at old (suc level)) k n sought)
          (sought_link tree entries is_tree has level lt_next k false sought.front f.sought.front sought.back f.sought.back n f.node sought.sought f.sought.sought) counts

  reads_from : (first : ℕ) (keys : List (List ℕ)) (edits : List LevelEdit) (last : List (List ℕ)) → first + length edits ≤ length old → AreReasoned old made first keys edits last
      → (first < length old → DoCount first keys × AreBorn (level_at old first) (made first) keys)
      → (bytes : List ℕ) → IsRead old first edits bytes → IsCountedNode old (levels Two tree after) (keys_changed changes) bytes
  reads_from first keys [] last within so here bytes read = absurd read
  reads_from first keys (e ∷ es) last within (reasons, cs, next, rest) here bytes read =
      let lt : first < length old = omega (arith, within) in
      elim read [
        | inl way ↦ way_read first lt keys e.olds.items reasons (here lt).0 bytes way
        | inr there ↦ reads_from (suc first) (keys_changed cs) es last (omega (arith, within)) rest
            (λ lt_next. (
              next_counts first lt keys e.olds.items reasons (here lt).0 cs e refl next (here lt).1 lt_next,
              born_inner tree entries changes is_tree has changed_has first lt_next cs (next_changes (level_at old first) (made first) e cs next),
            ))
            bytes there
      ]

  pub all_read : AreOwnAndRising (λ (entry : Binding). entry.key) changes → (edits : List LevelEdit) → length edits ≤ length (levels Two tree entries)
      → HaveAllReasons (levels Two tree entries) (tower Two tree (changed_entries entries changes)) (keys_changed changes) edits
      → (bytes : List ℕ) → IsRead (levels Two tree entries) 0 edits bytes → IsCountedNode (levels Two tree entries) (levels Two tree (changed_entries entries changes)) (keys_changed changes) bytes
  all_read own edits within (last, so) bytes read =
      reads_from 0 (keys_changed changes) edits last (omega (arith, within)) so
      (λ lt. ((λ k n in_keys sought. inl (k, in_keys, sought)), born_leaves tree entries changes is_tree has changed_has own)) bytes read
