-- How far a step has come in its level: the old nodes so far, what stands in their place, what is pending, and the old
-- nodes and the changes to come.
use Rattle.std.proofs.Common.{◌≡◌, ℕ, ◌+◌, ◌<◌, ◌≤◌, List, [], ◌∷◌, ◌++◌, length, map, ◌⊎◌, inl, inr, Bool, true, false, cond, refl, sym, ap, subst, ◌∙◌, append_assoc, length-append, arith}
use Rattle.std.specs.List.{flat_map, AllByRecursion}
use Rattle.std.proofs.lemmas.Grind.{flat_map-append}
use Rattle.std.proofs.lemmas.List.{append-nil, map-append}
use Rattle.tree_node.specs.Nodes.{Node}
use Rattle.tree_node.specs.Order.{IsBelow}
use Rattle.tree_node.specs.internal.OrderLemmas.{order_trans}
use Rattle.tree_node.specs.Trees.{greatest_of, pieces, pieces_from}
use Rattle.tree_build.specs.Changing.{Change, changed}
use Rattle.tree_build.specs.internal.Cutting.{done_by, pending_after, ArePieces}
use Rattle.tree_build.specs.internal.Edits.{Each, IsNewNode, IsOldNode}
use Rattle.tree_build.specs.internal.RisingChanges.{AreOwnAndRising, IsUpTo}
use Rattle.tree_build.specs.internal.Seeking.{IsSought, LiesBefore}
use Rattle.tree_build.specs.internal.Steps.{CanStep, HaveGoneOn}
use Rattle.tree_build.specs.internal.Weaving.{Woven, none, left, right}
use Rattle.tree_build.specs.declared.old_node.OldNode.{OldNode}
use Rattle.tree_build.specs.declared.piece.NewPiece.{NewPiece}
use Rattle.tree_build.proofs.ChangeLemmas.{IsUpToOwn, all_of, changed_behind, changed_split}
use Rattle.tree_build.proofs.PendingLemmas.{each_append, pending_fits}
use Rattle.tree_build.proofs.LevelSteps.{IsCutTo, cut_last, cut_open, cut_rest, cut_skip}
use Rattle.tree_build.proofs.NextLemmas.{sought_next}
use Rattle.tree_build.proofs.StepItems.{items_above, items_below, items_up_to, join_mapped, map_made, pieces_after, sought_behind}
use Rattle.tree_build.proofs.WeaveLemmas.{woven_append, woven_left, woven_right}

-- the last of the old nodes stands for the last of these nodes
pub record IsLast (olds : List OldNode) (front : List Node) : Type 0 where
  pub before : List OldNode
  pub old : OldNode
  pub olds_are : olds ≡ before ++ old ∷ []
  pub nodes : List Node
  pub node : Node
  pub front_is : front ≡ nodes ++ node ∷ []
  pub stands : old.greatest.now ≡ greatest_of node

pub each_length : {X Y : Type 0} (Stands : X → Y → Type 0) (xs : List X) (ys : List Y) → Each Stands xs ys → length xs ≡ length ys
each_length Stands [] [] all = refl
each_length Stands [] (y ∷ ys) all = absurd all
each_length Stands (x ∷ xs) [] all = absurd all
each_length Stands (x ∷ xs) (y ∷ ys) all = omega (arith, each_length Stands xs ys all.1)

woven_length : {X : Type 0} (xs ys zs : List X) → Woven xs ys zs → length ys ≤ length zs
woven_length _ _ _ none = omega arith
woven_length _ _ _ (left x xs ys zs w) = omega (arith, woven_length xs ys zs w)
woven_length _ _ _ (right y xs ys zs w) = omega (arith, woven_length xs ys zs w)

module _ {X : Type 0} (key : X → List ℕ) (ends : ℕ → X → Bool) (items : Node → List X) (over : List X → Node) (Fit : List X → Type 0) (nodes : List Node) (changes : List (Change X)) where
  -- the pieces that are wanted
  abbrev pub wanted_pieces : List (List X)
  wanted_pieces = pieces ends (changed key (flat_map items nodes) changes)

  pub record StepAt (front back : List Node) (olds : List OldNode) (news : List NewPiece) (pending : List X) (rest : List (Change X)) : Type 0 where
    pub whole : nodes ≡ front ++ back
    pub kept : List Node
    pub opened : List Node
    pub came : List Node
    pub made : List (List X)
    pub was : Woven kept opened front
    pub is : Woven kept came (map over made)
    pub olds_stand : Each IsOldNode olds opened
    pub news_stand : Each IsNewNode news came
    pub cut : IsCutTo key ends wanted_pieces made pending (map items back) rest
    pub own : AreOwnAndRising key rest
    pub above : AllByRecursion (λ (c : Change X). AllByRecursion (λ (n : Node). IsBelow (greatest_of n) c.key) front) rest
    pub fit : Fit (pending ++ changed key (flat_map items back) rest)
    pub following : (pending ≡ []) ⊎ IsLast olds front
    pub ended : (1 ≤ length back) ⊎ ((pending ≡ []) × (rest ≡ []))
    pub some : 1 ≤ length olds + length rest

  pub record StepState (olds : List OldNode) (news : List NewPiece) (pending : List X) (rest : List (Change X)) : Type 0 where
    pub front : List Node
    pub back : List Node
    pub at : StepAt front back olds news pending rest

  module _ (can : CanStep key ends items over Fit nodes changes) where
    none_above : (cs : List (Change X)) → AllByRecursion (λ (c : Change X). AllByRecursion (λ (n : Node). IsBelow (greatest_of n) c.key) []) cs
    none_above [] = tt
    none_above (c ∷ cs) = (tt, none_above cs)

    -- at the start
    pub step_start : 1 ≤ length nodes → StepState [] [] [] changes
    step_start has = record {
      front = [];
      back = nodes;
      at = record {
        whole = refl;
        kept = [];
        opened = [];
        came = [];
        made = [];
        was = none;
        is = none;
        olds_stand = tt;
        news_stand = tt;
        cut = record { rest = ap (λ (xs : List X). pieces ends (changed key xs changes)) (sym (join_mapped items nodes)) };
        own = can.own;
        above = none_above changes;
        fit = can.fit;
        following = inl refl;
        ended = inl has;
        some = omega (arith, can.some);
      };
    }

    -- fewer old nodes were opened than there are, while one is to come
    pub step_room : (olds : List OldNode) (news : List NewPiece) (pending : List X) (rest : List (Change X)) (front back : List Node) → StepAt front back olds news pending rest → 1 ≤ length back → length olds < length nodes
    step_room olds news pending rest front back so some =
        omega (arith, each_length IsOldNode olds so.opened so.olds_stand, woven_length so.kept so.opened front so.was, ap (length {A = Node}) so.whole, length-append front back)

    -- ---- the node that is sought next

    -- it is the next one, behind nodes that stay unread
    pub record IsNext (olds : List OldNode) (news : List NewPiece) (pending : List X) (rest : List (Change X)) (others : List Node) (node : Node) (behind : List Node) : Type 0 where
      pub at : StepAt others (node ∷ behind) olds news pending rest

    first_before : (k : List ℕ) (ns : List Node) → AllByRecursion (λ (n : Node). IsBelow (greatest_of n) k) ns → AllByRecursion (λ (n : Node). LiesBefore k false (greatest_of n)) ns
    first_before k [] all = tt
    first_before k (n ∷ ns) all = (all.0, first_before k ns all.1)

    all_changes : (c : Change X) (cs : List (Change X)) (ns : List Node) → AllByRecursion (λ (d : Change X). IsBelow c.key d.key) cs → AllByRecursion (λ (n : Node). IsBelow (greatest_of n) c.key) ns
        → AllByRecursion (λ (d : Change X). AllByRecursion (λ (n : Node). IsBelow (greatest_of n) d.key) ns) cs
    all_changes c [] ns rising low = tt
    all_changes c (d ∷ cs) ns rising low =
        (all_of greatest_of (λ (n : Node). IsBelow (greatest_of n) c.key) (λ (n : Node). IsBelow (greatest_of n) d.key) (λ n below. order_trans (greatest_of n) c.key d.key below rising.0) ns low, all_changes c cs ns rising.1 low)

    joined_above : (front more : List Node) (cs : List (Change X)) → AllByRecursion (λ (c : Change X). AllByRecursion (λ (n : Node). IsBelow (greatest_of n) c.key) front) cs
        → AllByRecursion (λ (c : Change X). AllByRecursion (λ (n : Node). IsBelow (greatest_of n) c.key) more) cs → AllByRecursion (λ (c : Change X). AllByRecursion (λ (n : Node). IsBelow (greatest_of n) c.key) (front ++ more)) cs
    joined_above front more [] one two = tt
    joined_above front more (c ∷ cs) one two = (both front one.0, joined_above front more cs one.1 two.1)
      where
        both : (ns : List Node) → AllByRecursion (λ (n : Node). IsBelow (greatest_of n) c.key) ns → AllByRecursion (λ (n : Node). IsBelow (greatest_of n) c.key) (ns ++ more)
        both [] all = two.0
        both (n ∷ ns) all = (all.0, both ns all.1)

    -- items of nodes that all changes are above
    unread : (front more back : List Node) (cs : List (Change X)) → nodes ≡ front ++ (more ++ back) → AllByRecursion (λ (c : Change X). AllByRecursion (λ (n : Node). IsBelow (greatest_of n) c.key) more) cs
        → AllByRecursion (λ (c : Change X). AllByRecursion (λ (x : X). IsBelow (key x) c.key) (flat_map items more)) cs
    unread front more back [] whole all = tt
    unread front more back (c ∷ cs) whole all = (items_below key ends items over nodes can.level c.key front more back whole all.0, unread front more back cs whole all.1)

    module _ (parts : (xs ys : List X) → Fit (xs ++ ys) → Fit xs × Fit ys) where
      -- nothing is pending: the next change decides, and the nodes before its own stay unread
      pub next_sought : (olds : List OldNode) (news : List NewPiece) (front back : List Node) (c : Change X) (cs : List (Change X)) → StepAt front back olds news [] (c ∷ cs)
          → (others : List Node) (node : Node) (behind : List Node) → IsSought greatest_of c.key false nodes others node behind → IsNext olds news [] (c ∷ cs) others node behind
      next_sought olds news front back c cs so others node behind sought =
          let has : 1 ≤ length back = elim so.ended [ inl some ↦ some | inr end ↦ let no : c ∷ cs ≡ [] = end.1 in absurd cc ] in
          let found = sought_behind greatest_of c.key false front back has (first_before c.key front so.above.0) others node behind
          (subst (λ (ns : List Node). IsSought greatest_of c.key false ns others node behind) so.whole sought) in
          let more = found.more in
          let low : AllByRecursion (λ (n : Node). IsBelow (greatest_of n) c.key) more = back_of front more (subst (λ (ns : List Node). AllByRecursion (λ (n : Node). IsBelow (greatest_of n) c.key) ns) found.others_are sought.before) in
          let all : AllByRecursion (λ (d : Change X). AllByRecursion (λ (n : Node). IsBelow (greatest_of n) d.key) more) (c ∷ cs) = (low, all_changes c cs more so.own.1 low) in
          let whole : nodes ≡ front ++ (more ++ node ∷ behind) = so.whole ∙ ap (λ (ns : List Node). front ++ ns) found.back_is in
          let low_items = unread front more (node ∷ behind) (c ∷ cs) whole all in
          subst (λ (ns : List Node). IsNext olds news [] (c ∷ cs) ns node behind) (sym found.others_are) (record {
            at = record {
              whole = whole ∙ sym (append_assoc front more (node ∷ behind));
              kept = so.kept ++ more;
              opened = so.opened;
              came = so.came;
              made = so.made ++ map items more;
              was = subst (λ (ns : List Node). Woven (so.kept ++ more) ns (front ++ more)) (append-nil so.opened) (woven_append so.kept so.opened front more [] more so.was (woven_left more));
              is = subst (λ (ns : List Node). Woven (so.kept ++ more) ns (map over (so.made ++ map items more))) (append-nil so.came)
                  (subst (λ (ns : List Node). Woven (so.kept ++ more) (so.came ++ []) ns) (sym (map-append over so.made (map items more) ∙ ap (λ (ns : List Node). map over so.made ++ ns) (unread_made front more (node ∷ behind) whole)))
                  (woven_append so.kept so.came (map over so.made) more [] more so.is (woven_left more)));
              olds_stand = so.olds_stand;
              news_stand = so.news_stand;
              cut = skip front more node behind so.made (c ∷ cs) whole (subst (λ (ns : List Node). IsCutTo key ends wanted_pieces so.made [] (map items ns) (c ∷ cs)) found.back_is so.cut) low_items;
              own = so.own;
              above = joined_above front more (c ∷ cs) so.above all;
              fit = (parts (flat_map items more) (changed key (flat_map items (node ∷ behind)) (c ∷ cs))
                  (subst Fit (ap (λ (ns : List Node). changed key (flat_map items ns) (c ∷ cs)) found.back_is ∙ ap (λ (xs : List X). changed key xs (c ∷ cs)) (flat_map-append items more (node ∷ behind))
                  ∙ changed_behind key (flat_map items more) (flat_map items (node ∷ behind)) (c ∷ cs) low_items) so.fit)).1;
              following = inl refl;
              ended = inl (omega arith);
              some = so.some;
            };
          })
        where
          back_of : (front more : List Node) → AllByRecursion (λ (n : Node). IsBelow (greatest_of n) c.key) (front ++ more) → AllByRecursion (λ (n : Node). IsBelow (greatest_of n) c.key) more
          back_of [] more all = all
          back_of (n ∷ ns) more all = back_of ns more all.1

          unread_made : (front more back : List Node) → nodes ≡ front ++ (more ++ back) → map over (map items more) ≡ more
          unread_made front more back whole = map_made key ends items over nodes can.level more (mids front more back (subst (λ (ns : List Node). AllByRecursion (λ (n : Node). over (items n) ≡ n) ns) whole can.level.made))
            where
              fronts : (more back : List Node) → AllByRecursion (λ (n : Node). over (items n) ≡ n) (more ++ back) → AllByRecursion (λ (n : Node). over (items n) ≡ n) more
              fronts [] back all = tt
              fronts (n ∷ ns) back all = (all.0, fronts ns back all.1)

              mids : (front more back : List Node) → AllByRecursion (λ (n : Node). over (items n) ≡ n) (front ++ (more ++ back)) → AllByRecursion (λ (n : Node). over (items n) ≡ n) more
              mids [] more back all = fronts more back all
              mids (n ∷ ns) more back all = mids ns more back all.1

          skip : (front more : List Node) (node : Node) (behind : List Node) (made : List (List X)) (rest : List (Change X)) → nodes ≡ front ++ (more ++ node ∷ behind)
              → IsCutTo key ends wanted_pieces made [] (map items (more ++ node ∷ behind)) rest → AllByRecursion (λ (c : Change X). AllByRecursion (λ (x : X). IsBelow (key x) c.key) (flat_map items more)) rest
              → IsCutTo key ends wanted_pieces (made ++ map items more) [] (map items (node ∷ behind)) rest
          skip front [] node behind made rest whole cut low = subst (λ (ps : List (List X)). IsCutTo key ends wanted_pieces ps [] (map items (node ∷ behind)) rest) (sym (append-nil made)) cut
          skip front (m ∷ more) node behind made rest whole cut low =
              let two : 2 ≤ length nodes = omega (arith, ap (length {A = Node}) whole, length-append front ((m ∷ more) ++ node ∷ behind), length-append (m ∷ more) (node ∷ behind)) in
              let split : map items ((m ∷ more) ++ node ∷ behind) ≡ map items (m ∷ more) ++ items node ∷ map items behind = map-append items (m ∷ more) (node ∷ behind) in
              cut_skip key ends wanted_pieces made (map items (m ∷ more)) (items node) (map items behind) rest
              (subst (λ (ps : List (List X)). IsCutTo key ends wanted_pieces made [] ps rest) split cut)
              (subst (λ (ps : List (List X)). ArePieces ends ps) split (pieces_after key ends items over nodes can.level front ((m ∷ more) ++ node ∷ behind) whole two))
              (subst (λ (xs : List X). AllByRecursion (λ (c : Change X). AllByRecursion (λ (x : X). IsBelow (key x) c.key) xs) rest) (sym (join_mapped items (m ∷ more))) low)

    -- with something pending it is the node after the last one
    pub next_after : (olds : List OldNode) (news : List NewPiece) (pending : List X) (rest : List (Change X)) (front back : List Node) → StepAt front back olds news pending rest → (pending ≡ [] → ⊥)
        → (before : List OldNode) (old : OldNode) → olds ≡ before ++ old ∷ []
        → (others : List Node) (node : Node) (behind : List Node) → IsSought greatest_of old.greatest.now true nodes others node behind → IsNext olds news pending rest others node behind
    next_after olds news pending rest front [] so some before old olds_are others node behind sought = elim so.ended [ inl has ↦ absurd (omega arith) | inr end ↦ absurd (some end.0) ]
    next_after olds news pending rest front (b ∷ back) so some before old olds_are others node behind sought = elim so.following [
      | inl empty ↦ absurd (some empty)
      | inr last ↦
          let same_old : old ≡ last.old = last_of before last.before old last.old (sym olds_are ∙ last.olds_are) in
          let at : old.greatest.now ≡ greatest_of last.node = ap (λ (o : OldNode). o.greatest.now) same_old ∙ last.stands in
          let whole : nodes ≡ last.nodes ++ last.node ∷ b ∷ back = so.whole ∙ ap (λ (ns : List Node). ns ++ b ∷ back) last.front_is ∙ append_assoc last.nodes (last.node ∷ []) (b ∷ back) in
          let same = sought_next greatest_of nodes can.level.nodes_rise last.nodes last.node b back whole others node behind
          (subst (λ (k : List ℕ). IsSought greatest_of k true nodes others node behind) at sought) in
          let fronts : front ≡ others = last.front_is ∙ same.fronts in
          subst (λ (ns : List Node). IsNext olds news pending rest ns node behind) fronts
          (subst (λ (n : Node). IsNext olds news pending rest front n behind) same.at
          (subst (λ (ns : List Node). IsNext olds news pending rest front b ns) same.backs (record { at = so })))
    ]
      where
        last_of : (xs ys : List OldNode) (x y : OldNode) → xs ++ x ∷ [] ≡ ys ++ y ∷ [] → x ≡ y
        last_of [] [] x y e = cc
        last_of [] (z ∷ []) x y e = let t : [] ≡ y ∷ [] = cc in absurd cc
        last_of [] (z ∷ w ∷ ys) x y e = let t : [] ≡ w ∷ (ys ++ y ∷ []) = cc in absurd cc
        last_of (z ∷ []) [] x y e = let t : x ∷ [] ≡ [] = cc in absurd cc
        last_of (z ∷ w ∷ xs) [] x y e = let t : w ∷ (xs ++ x ∷ []) ≡ [] = cc in absurd cc
        last_of (z ∷ xs) (w ∷ ys) x y e = let t : xs ++ x ∷ [] ≡ ys ++ y ∷ [] = cc in last_of xs ys x y t

    -- ---- the node is taken

    rising_parts : (here later : List (Change X)) → AreOwnAndRising key (here ++ later) → AreOwnAndRising key here × AreOwnAndRising key later
    rising_parts [] later own = (tt, own)
    rising_parts (c ∷ here) later own =
        let rest = rising_parts here later own.2 in
        ((own.0, fronts here later own.1, rest.0), rest.1)
      where
        fronts : (xs ys : List (Change X)) → AllByRecursion (λ (d : Change X). IsBelow c.key d.key) (xs ++ ys) → AllByRecursion (λ (d : Change X). IsBelow c.key d.key) xs
        fronts [] ys all = tt
        fronts (x ∷ xs) ys all = (all.0, fronts xs ys all.1)

    up_to_own : (k : List ℕ) (cs : List (Change X)) → AreOwnAndRising key cs → AllByRecursion (λ (c : Change X). IsUpTo c.key k) cs → AllByRecursion (IsUpToOwn key k) cs
    up_to_own k [] own all = tt
    up_to_own k (c ∷ cs) own all = (record { up_to = all.0; own = own.0 }, up_to_own k cs own.2 all.1)

    behind_changes : (P : Change X → Type 0) (here later : List (Change X)) → AllByRecursion P (here ++ later) → AllByRecursion P later
    behind_changes P [] later all = all
    behind_changes P (c ∷ here) later all = behind_changes P here later all.1

    node_above : (node : Node) (cs : List (Change X)) → AllByRecursion (λ (c : Change X). IsBelow (greatest_of node) c.key) cs → AllByRecursion (λ (c : Change X). AllByRecursion (λ (n : Node). IsBelow (greatest_of n) c.key) (node ∷ [])) cs
    node_above node [] all = tt
    node_above node (c ∷ cs) all = ((all.0, tt), node_above node cs all.1)

    -- the changes are split as they fall: those up to the node's greatest key, all of them at the last node
    pub record AreSplit (node : Node) (behind : List Node) (is_last : Bool) (rest here later : List (Change X)) : Type 0 where
      pub whole : rest ≡ here ++ later
      pub last : is_last ≡ true → (behind ≡ []) × (later ≡ [])
      pub more : is_last ≡ false → (1 ≤ length behind) × AllByRecursion (λ (c : Change X). IsUpTo c.key (greatest_of node)) here × AllByRecursion (λ (c : Change X). IsBelow (greatest_of node) c.key) later

    module _ (parts : (xs ys : List X) → Fit (xs ++ ys) → Fit xs × Fit ys) (olds : List OldNode) (news : List NewPiece) (pending : List X) (rest : List (Change X)) (front : List Node) (node : Node) (behind : List Node)
        (so : StepAt front (node ∷ behind) olds news pending rest) (is_last : Bool) (here later : List (Change X)) (split : AreSplit node behind is_last rest here later) where
      own_parts : AreOwnAndRising key here × AreOwnAndRising key later
      own_parts = rising_parts here later (subst (λ (cs : List (Change X)). AreOwnAndRising key cs) split.whole so.own)

      pub taken_own : AreOwnAndRising key here
      taken_own = own_parts.0

      -- the items to come, where the node isn't the last
      items_split : is_last ≡ false → changed key (flat_map items (node ∷ behind)) rest ≡ changed key (items node) here ++ changed key (flat_map items behind) later
      items_split goes =
          let more = split.more goes in
          ap (λ (cs : List (Change X)). changed key (flat_map items (node ∷ behind)) cs) split.whole
          ∙ changed_split key (greatest_of node) (items node) (flat_map items behind) here later
          (items_up_to key ends items over nodes can.level front node behind so.whole) (items_above key ends items over nodes can.level front node behind so.whole)
          (up_to_own (greatest_of node) here taken_own more.1) more.2

      last_items : is_last ≡ true → changed key (flat_map items (node ∷ behind)) rest ≡ changed key (items node) here
      last_items stops =
          let last = split.last stops in
          ap (λ (cs : List (Change X)). changed key (flat_map items (node ∷ behind)) cs) (split.whole ∙ ap (λ (cs : List (Change X)). here ++ cs) last.1 ∙ append-nil here)
          ∙ ap (λ (ns : List Node). changed key (items node ++ flat_map items ns) here) last.0
          ∙ ap (λ (xs : List X). changed key xs here) (append-nil (items node))

      -- what is taken fits
      pub taken_fit : Fit (pending ++ changed key (items node) here)
      taken_fit = by is_last refl
        where
          by : (b : Bool) → is_last ≡ b → Fit (pending ++ changed key (items node) here)
          by false goes = (parts (pending ++ changed key (items node) here) (changed key (flat_map items behind) later)
              (subst Fit (ap (λ (xs : List X). pending ++ xs) (items_split goes) ∙ sym (append_assoc pending (changed key (items node) here) (changed key (flat_map items behind) later))) so.fit)).0
          by true stops = subst Fit (ap (λ (xs : List X). pending ++ xs) (last_items stops)) so.fit

      module _ (old : OldNode) (stands : IsOldNode old node) (next : List X) (after : List NewPiece) (gone : HaveGoneOn ends over is_last pending news (changed key (items node) here) next after) where
        abbrev merged : List X
        merged = changed key (items node) here

        abbrev came_now : Bool → List (List X)
        came_now b = done_by ends pending merged ++ cond b (pieces_from ends (pending_after ends pending merged) []) []

        all_made : Woven so.kept (so.came ++ map over (done_by ends pending (changed key (items node) here) ++ cond is_last (pieces_from ends (pending_after ends pending (changed key (items node) here)) []) []))
            (map over (so.made ++ (done_by ends pending (changed key (items node) here) ++ cond is_last (pieces_from ends (pending_after ends pending (changed key (items node) here)) []) [])))
        all_made =
            let ps = done_by ends pending (changed key (items node) here) ++ cond is_last (pieces_from ends (pending_after ends pending (changed key (items node) here)) []) [] in
            subst (λ (ns : List Node). Woven so.kept (so.came ++ map over ps) ns) (sym (map-append over so.made ps))
            (subst (λ (ks : List Node). Woven ks (so.came ++ map over ps) (map over so.made ++ map over ps)) (append-nil so.kept)
            (woven_append so.kept so.came (map over so.made) [] (map over ps) (map over ps) so.is (woven_right (map over ps))))

        all_opened : Woven so.kept (so.opened ++ node ∷ []) (front ++ node ∷ [])
        all_opened = subst (λ (ks : List Node). Woven ks (so.opened ++ node ∷ []) (front ++ node ∷ [])) (append-nil so.kept)
            (woven_append so.kept so.opened front [] (node ∷ []) (node ∷ []) so.was (woven_right (node ∷ [])))

        news_all : Each IsNewNode after (so.came ++ map over (done_by ends pending (changed key (items node) here) ++ cond is_last (pieces_from ends (pending_after ends pending (changed key (items node) here)) []) []))
        news_all = subst (λ (ns : List NewPiece). Each IsNewNode ns (so.came ++ map over (done_by ends pending (changed key (items node) here) ++ cond is_last (pieces_from ends (pending_after ends pending (changed key (items node) here)) []) [])))
            (sym gone.come.whole) (each_append IsNewNode news so.came gone.come.more _ so.news_stand gone.come.stand)

        whole_next : nodes ≡ (front ++ node ∷ []) ++ behind
        whole_next = so.whole ∙ sym (append_assoc front (node ∷ []) behind)

        above_next : AllByRecursion (λ (c : Change X). IsBelow (greatest_of node) c.key) later → AllByRecursion (λ (c : Change X). AllByRecursion (λ (n : Node). IsBelow (greatest_of n) c.key) (front ++ node ∷ [])) later
        above_next all = joined_above front (node ∷ []) later
            (behind_changes (λ (c : Change X). AllByRecursion (λ (n : Node). IsBelow (greatest_of n) c.key) front) here later
            (subst (λ (cs : List (Change X)). AllByRecursion (λ (c : Change X). AllByRecursion (λ (n : Node). IsBelow (greatest_of n) c.key) front) cs) split.whole so.above))
            (node_above node later all)

        some_next : 1 ≤ length (olds ++ old ∷ []) + length later
        some_next = omega (arith, length-append olds (old ∷ []))

        last_next : IsLast (olds ++ old ∷ []) (front ++ node ∷ [])
        last_next = record { before = olds; old = old; olds_are = refl; nodes = front; node = node; front_is = refl; stands = stands.greatest }

        olds_next : Each IsOldNode (olds ++ old ∷ []) (so.opened ++ node ∷ [])
        olds_next = each_append IsOldNode olds so.opened (old ∷ []) (node ∷ []) so.olds_stand (stands, tt)

        -- the state after it
        pub step_taken : StepState (olds ++ old ∷ []) after next later
        step_taken = by is_last refl
          where
            by : (b : Bool) → is_last ≡ b → StepState (olds ++ old ∷ []) after next later
            by false goes =
                let more = split.more goes in
                let next_is : next ≡ pending_after ends pending merged = gone.pending_is ∙ ap (λ b. cond b [] (pending_after ends pending merged)) goes in
                let came : came_now is_last ≡ done_by ends pending merged = ap came_now goes ∙ append-nil (done_by ends pending merged) in
                let opened_cut = cut_open key ends wanted_pieces so.made pending (items node) (map items behind) (greatest_of node) here later
                (subst (λ (cs : List (Change X)). IsCutTo key ends wanted_pieces so.made pending (map items (node ∷ behind)) cs) split.whole so.cut)
                (items_up_to key ends items over nodes can.level front node behind so.whole)
                (subst (λ (xs : List X). AllByRecursion (λ (y : X). IsBelow (greatest_of node) (key y)) xs) (sym (join_mapped items behind)) (items_above key ends items over nodes can.level front node behind so.whole))
                (up_to_own (greatest_of node) here taken_own more.1) more.2 in
                record {
                  front = front ++ node ∷ [];
                  back = behind;
                  at = record {
                    whole = whole_next;
                    kept = so.kept;
                    opened = so.opened ++ node ∷ [];
                    came = so.came ++ map over (came_now is_last);
                    made = so.made ++ came_now is_last;
                    was = all_opened;
                    is = all_made;
                    olds_stand = olds_next;
                    news_stand = news_all;
                    cut = subst (λ (h : List X). IsCutTo key ends wanted_pieces (so.made ++ came_now is_last) h (map items behind) later) (sym next_is)
                        (subst (λ (ps : List (List X)). IsCutTo key ends wanted_pieces (so.made ++ ps) (pending_after ends pending merged) (map items behind) later) (sym came) opened_cut);
                    own = own_parts.1;
                    above = above_next more.2;
                    fit = subst (λ (h : List X). Fit (h ++ changed key (flat_map items behind) later)) (sym next_is)
                        (pending_fits ends Fit parts pending merged (changed key (flat_map items behind) later) (subst (λ (xs : List X). Fit (pending ++ xs)) (items_split goes) so.fit));
                    following = inr last_next;
                    ended = inl more.0;
                    some = some_next;
                  };
                }
            by true stops =
                let last = split.last stops in
                let next_is : next ≡ [] = gone.pending_is ∙ ap (λ b. cond b [] (pending_after ends pending merged)) stops in
                let came : came_now is_last ≡ done_by ends pending merged ++ pieces_from ends (pending_after ends pending merged) [] = ap came_now stops in
                let here_is : rest ≡ here = split.whole ∙ ap (λ (cs : List (Change X)). here ++ cs) last.1 ∙ append-nil here in
                let closed = cut_last key ends wanted_pieces so.made pending (items node) here
                (subst (λ (cs : List (Change X)). IsCutTo key ends wanted_pieces so.made pending (items node ∷ []) cs) here_is
                (subst (λ (ns : List Node). IsCutTo key ends wanted_pieces so.made pending (items node ∷ map items ns) rest) last.0 so.cut)) in
                record {
                  front = front ++ node ∷ [];
                  back = behind;
                  at = record {
                    whole = whole_next;
                    kept = so.kept;
                    opened = so.opened ++ node ∷ [];
                    came = so.came ++ map over (came_now is_last);
                    made = so.made ++ came_now is_last;
                    was = all_opened;
                    is = all_made;
                    olds_stand = olds_next;
                    news_stand = news_all;
                    cut = subst (λ (h : List X). IsCutTo key ends wanted_pieces (so.made ++ came_now is_last) h (map items behind) later) (sym next_is)
                        (subst (λ (ns : List Node). IsCutTo key ends wanted_pieces (so.made ++ came_now is_last) [] (map items ns) later) (sym last.0)
                        (subst (λ (cs : List (Change X)). IsCutTo key ends wanted_pieces (so.made ++ came_now is_last) [] [] cs) (sym last.1)
                        (record {
                          rest = closed ∙ append_assoc so.made (done_by ends pending merged) (pieces_from ends (pending_after ends pending merged) []) ∙ ap (λ (ps : List (List X)). so.made ++ ps) (sym came)
                              ∙ sym (append-nil (so.made ++ came_now is_last));
                        })));
                    own = own_parts.1;
                    above = subst (λ (cs : List (Change X)). AllByRecursion (λ (c : Change X). AllByRecursion (λ (n : Node). IsBelow (greatest_of n) c.key) (front ++ node ∷ [])) cs) (sym last.1) tt;
                    fit = fit_none next later behind next_is last.0 last.1;
                    following = inl next_is;
                    ended = inr (next_is, last.1);
                    some = some_next;
                  };
                }
              where
                fit_none : (h : List X) (cs : List (Change X)) (ns : List Node) → h ≡ [] → ns ≡ [] → cs ≡ [] → Fit (h ++ changed key (flat_map items ns) cs)
                fit_none h cs ns one two three =
                    subst (λ (ys : List X). Fit (ys ++ changed key (flat_map items ns) cs)) (sym one)
                    (subst (λ (ms : List Node). Fit (changed key (flat_map items ms) cs)) (sym two)
                    (subst (λ (ds : List (Change X)). Fit (changed key [] ds)) (sym three) (parts [] (pending ++ changed key (items node) here) taken_fit).0))

    -- ---- at the end

    pub record IsDone (olds : List OldNode) (news : List NewPiece) : Type 0 where
      pub kept : List Node
      pub opened : List Node
      pub came : List Node
      pub was : Woven kept opened nodes
      pub is : Woven kept came (map over wanted_pieces)
      pub olds_stand : Each IsOldNode olds opened
      pub news_stand : Each IsNewNode news came
      pub some : 1 ≤ length olds

    pub step_done : (olds : List OldNode) (news : List NewPiece) (pending : List X) (rest : List (Change X)) → StepState olds news pending rest → pending ≡ [] → rest ≡ [] → IsDone olds news
    step_done olds news pending rest state none_pending no_rest =
        let so = state.at in
        let some : 1 ≤ length olds = omega (arith, so.some, ap (length {A = Change X}) no_rest) in
        let cut = subst (λ (h : List X). IsCutTo key ends wanted_pieces so.made h (map items state.back) []) none_pending (subst (λ (cs : List (Change X)). IsCutTo key ends wanted_pieces so.made pending (map items state.back) cs) no_rest so.cut) in
        let goal_is : wanted_pieces ≡ so.made ++ map items state.back = cut_rest key ends wanted_pieces so.made (map items state.back) cut (pieces_left state.front state.back so.whole
        (omega (arith, some, each_length IsOldNode olds so.opened so.olds_stand, woven_length so.kept so.opened state.front so.was))) in
        record {
          kept = so.kept ++ state.back;
          opened = so.opened;
          came = so.came;
          was = subst (λ (ns : List Node). Woven (so.kept ++ state.back) so.opened ns) (sym so.whole)
              (subst (λ (ns : List Node). Woven (so.kept ++ state.back) ns (state.front ++ state.back)) (append-nil so.opened) (woven_append so.kept so.opened state.front state.back [] state.back so.was (woven_left state.back)));
          is = subst (λ (ps : List (List X)). Woven (so.kept ++ state.back) so.came (map over ps)) (sym goal_is)
              (subst (λ (ns : List Node). Woven (so.kept ++ state.back) so.came ns) (sym (map-append over so.made (map items state.back) ∙ ap (λ (ns : List Node). map over so.made ++ ns) (stay_made state.front state.back so.whole)))
              (subst (λ (ns : List Node). Woven (so.kept ++ state.back) ns (map over so.made ++ state.back)) (append-nil so.came) (woven_append so.kept so.came (map over so.made) state.back [] state.back so.is (woven_left state.back))));
          olds_stand = so.olds_stand;
          news_stand = so.news_stand;
          some = some;
        }
      where
        pieces_left : (front back : List Node) → nodes ≡ front ++ back → 1 ≤ length front → ArePieces ends (map items back)
        pieces_left front [] whole has = tt
        pieces_left front (b ∷ back) whole has = pieces_after key ends items over nodes can.level front (b ∷ back) whole (omega (arith, ap (length {A = Node}) whole, length-append front (b ∷ back)))

        backs : (front back : List Node) → AllByRecursion (λ (n : Node). over (items n) ≡ n) (front ++ back) → AllByRecursion (λ (n : Node). over (items n) ≡ n) back
        backs [] back all = all
        backs (n ∷ ns) back all = backs ns back all.1

        stay_made : (front back : List Node) → nodes ≡ front ++ back → map over (map items back) ≡ back
        stay_made front back whole = map_made key ends items over nodes can.level back (backs front back (subst (λ (ns : List Node). AllByRecursion (λ (n : Node). over (items n) ≡ n) ns) whole can.level.made))
