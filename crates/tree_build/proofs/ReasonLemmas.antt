-- Why a step opens a node: it is sought for a change, or it is gone.
use Rattle.std.proofs.Common.{◌≡◌, ◌≢◌, ℕ, zero, suc, ◌+◌, ◌-◌, ◌≤◌, List, [], ◌∷◌, ◌++◌, length, map, take, drop, ◌⊎◌, inl, inr, IsTrue, Bool, true, false, None, Some, refl, sym, ap, subst, ◌∙◌, append_assoc, length-append, zero-add, arith}
use Rattle.std.specs.List.{flat_map, AllByRecursion}
use Rattle.std.specs.Borrow.{Bor}
use Rattle.std.proofs.lemmas.Grind.{flat_map-append}
use Rattle.std.proofs.lemmas.List.{append-nil, map-append, take-append-drop}
use Rattle.tree_node.specs.Nodes.{AreRisingFrom, Node}
use Rattle.tree_node.specs.Order.{IsBelow}
use Rattle.tree_node.specs.internal.OrderLemmas.{not_itself, order_trans}
use Rattle.tree_node.specs.Trees.{greatest_of, level_at, pieces_from}
use Rattle.tree_node.proofs.shared.PieceLemmas.{join, pieces_join}
use Rattle.tree_build.specs.Changing.{Change, changed, changed_once}
use Rattle.tree_build.specs.internal.Edits.{IsOldNode}
use Rattle.tree_build.specs.internal.Holding.{IsSoughtNode}
use Rattle.tree_build.specs.internal.ItemChanges.{change_meant, changes_meant}
use Rattle.tree_build.specs.internal.RisingChanges.{AreOwnAndRising, IsUpTo}
use Rattle.tree_build.specs.internal.Seeking.{IsSought}
use Rattle.tree_build.specs.internal.Steps.{CanStep, FirstIsAbove, HaveReasons, IsCovered, IsOpenedFor, IsReason, IsWanted, keys_changed}
use Rattle.tree_build.specs.internal.Weaving.{IsIn}
use Rattle.tree_build.specs.declared.old_node.OldNode.{OldNode}
use Rattle.tree_build.specs.declared.level_item.ItemChange.{ItemChange}
use Rattle.tree_build.specs.declared.piece.NewPiece.{NewPiece}
use Rattle.tree_build.proofs.DescentLemmas.{all_parts}
use Rattle.tree_build.proofs.ChangeLemmas.{all_append, all_of, changed_behind, up_to_below}
use Rattle.tree_build.proofs.ChangedLaw.{once_rises}
use Rattle.tree_build.proofs.GoneLemmas.{pending_before}
use Rattle.tree_build.proofs.NextLemmas.{either_way}
use Rattle.tree_build.proofs.StepItems.{all_above, items_up_to, rise_back}
use Rattle.tree_build.proofs.StepLoops.{found, none_meant, rest_is, split_at}
use Rattle.tree_build.proofs.StepStates.{AreSplit, StepAt, StepState, wanted_pieces}
use Rattle.tree_build.proofs.WeaveLemmas.{above_low, in_back, in_front}

pub changed_rises : {X : Type 0} (key : X → List ℕ) (xs : List X) (cs : List (Change X)) → AreRisingFrom None (map key xs) → AreOwnAndRising key cs → AreRisingFrom None (map key (changed key xs cs))
changed_rises key xs [] rise own = rise
changed_rises key xs (c ∷ cs) rise own = changed_rises key (changed_once key xs c) cs (once_rises key None xs c own.0 tt rise) own.2

rise_before : {X : Type 0} (key : X → List ℕ) (front : List X) (x : X) (back : List X) → AreRisingFrom None (map key (front ++ x ∷ back)) → AllByRecursion (λ (y : X). IsBelow (key y) (key x)) front
rise_before key [] x back rise = tt
rise_before {X} key (y ∷ ys) x back rise = (above_low key (key y) (ys ++ x ∷ back) rise.1 x (in_back x ys (x ∷ back) (inl refl)), rise_before key ys x back (none_low (ys ++ x ∷ back) rise.1))
  where
    none_low : (zs : List X) → AreRisingFrom (Some (key y)) (map key zs) → AreRisingFrom None (map key zs)
    none_low [] r = tt
    none_low (z ∷ zs) r = (tt, r.1)

module _ {X : Type 0} (key : X → List ℕ) (x : X) (rest : List X) where
  made_others : (ps : List (List X)) → AllByRecursion (λ (y : X). IsBelow (key y) (key x)) (join ps) → AllByRecursion (λ (p : List X). p ≢ x ∷ rest) ps
  made_others [] all = tt
  made_others ([] ∷ ps) all = ((λ same. cc), made_others ps all)
  made_others ((y ∷ ys) ∷ ps) all = ((λ same. let head : y ≡ x = cc in not_itself (key y) (key x) all.0 (ap key head)), made_others ps (all_parts (λ (z : X). IsBelow (key z) (key x)) ys (join ps) all.1).1)

  none_over : (items : Node → List X) (over : List X → Node) (back : (p : List X) → items (over p) ≡ p) (node : Node) → items node ≡ x ∷ rest → (ps : List (List X)) → AllByRecursion (λ (p : List X). p ≢ x ∷ rest) ps → IsIn node (map over ps) → ⊥
  none_over items over back node has [] all is = is
  none_over items over back node has (p ∷ ps) all is = elim is [
    | inl here ↦ all.0 (sym (back p) ∙ ap items (sym here) ∙ has)
    | inr there ↦ none_over items over back node has ps all.1 there
  ]

module _ {X : Type 0} (key : X → List ℕ) (ends : ℕ → X → Bool) (items : Node → List X) (over : List X → Node) (Fit : List X → Type 0) (nodes : List Node) (changes : List (Change X)) (can : CanStep key ends items over Fit nodes changes)
    (back_is : (p : List X) → items (over p) ≡ p) where
  abbrev new_nodes : List Node
  new_nodes = map over (wanted_pieces key ends items over Fit nodes changes)

  -- with something pending, and all changes to come above it, the next node is gone
  module _ (olds : List OldNode) (news : List NewPiece) (pending : List X) (rest : List (Change X)) (others : List Node) (node : Node) (behind : List Node) (so : StepAt key ends items over Fit nodes changes others (node ∷ behind) olds news pending rest) where
    some_others : (pending ≡ [] → ⊥) → 1 ≤ length others
    some_others some = elim so.following [
      | inl empty ↦ absurd (some empty)
      | inr last ↦ omega (arith, ap (length {A = Node}) last.front_is, length-append last.nodes (last.node ∷ []))
    ]

    some_items : (pending ≡ [] → ⊥) → 1 ≤ length (items node)
    some_items some = elim can.level.cut [
      | inl one ↦ absurd (omega (arith, one, ap (length {A = Node}) so.whole, length-append others (node ∷ behind), some_others some))
      | inr has ↦ (all_parts (λ (n : Node). 1 ≤ length (items n)) others (node ∷ behind) (subst (λ (ns : List Node). AllByRecursion (λ (n : Node). 1 ≤ length (items n)) ns) so.whole has.some)).1.0
    ]

    not_below : (cs : List (Change X)) → AllByRecursion (λ (c : Change X). IsBelow (greatest_of node) c.key) cs → AllByRecursion (λ (c : Change X). AllByRecursion (λ (y : X). IsBelow (key y) c.key) (items node)) cs
    not_below [] all = tt
    not_below (c ∷ cs) all = (
      all_of key (λ (y : X). IsUpTo (key y) (greatest_of node)) (λ (y : X). IsBelow (key y) c.key) (λ y up. up_to_below (key y) (greatest_of node) c.key up all.0) (items node) (items_up_to key ends items over nodes can.level others node behind so.whole),
      not_below cs all.1,
    )

    pub is_gone : (pending ≡ [] → ⊥) → AllByRecursion (λ (c : Change X). IsBelow (greatest_of node) c.key) rest → IsIn node new_nodes → ⊥
    is_gone some above = by (items node) refl (some_items some)
      where
        cut_is : wanted_pieces key ends items over Fit nodes changes ≡ so.made ++ pieces_from ends pending (items node ++ changed key (join (map items behind)) rest)
        cut_is = so.cut.rest ∙ ap (λ (xs : List X). so.made ++ pieces_from ends pending xs) (changed_behind key (items node) (join (map items behind)) rest (not_below rest above))

        rises : AreRisingFrom None (map key (join (wanted_pieces key ends items over Fit nodes changes)))
        rises = subst (λ (xs : List X). AreRisingFrom None (map key xs)) (sym (pieces_join ends [] (changed key (flat_map items nodes) changes))) (changed_rises key (flat_map items nodes) changes can.level.rising can.own)

        by : (mine : List X) → items node ≡ mine → 1 ≤ length mine → IsIn node new_nodes → ⊥
        by [] has long is = absurd (omega (arith, long))
        by (x ∷ xs) has long is =
            let here = cut_is ∙ ap (λ (ys : List X). so.made ++ pieces_from ends pending (ys ++ changed key (join (map items behind)) rest)) has in
            let joined : join (wanted_pieces key ends items over Fit nodes changes) ≡ (join so.made ++ pending) ++ x ∷ (xs ++ changed key (join (map items behind)) rest) =
            ap join here
            ∙ flat_map-append (λ (p : List X). p) so.made (pieces_from ends pending (x ∷ (xs ++ changed key (join (map items behind)) rest)))
            ∙ ap (λ (ys : List X). join so.made ++ ys) (pieces_join ends pending (x ∷ (xs ++ changed key (join (map items behind)) rest)))
            ∙ sym (append_assoc (join so.made) pending (x ∷ (xs ++ changed key (join (map items behind)) rest))) in
            let rise = subst (λ (ys : List X). AreRisingFrom None (map key ys)) joined rises in
            let low = all_parts (λ (y : X). IsBelow (key y) (key x)) (join so.made) pending (rise_before key (join so.made ++ pending) x (xs ++ changed key (join (map items behind)) rest) rise) in
            let high = all_above key (key x) (xs ++ changed key (join (map items behind)) rest) (rise_back key None (join so.made ++ pending) (x ∷ (xs ++ changed key (join (map items behind)) rest)) rise).1 in
            none_over key x xs items over back_is node has (wanted_pieces key ends items over Fit nodes changes)
            (subst (λ (ps : List (List X)). AllByRecursion (λ (p : List X). p ≢ x ∷ xs) ps) (sym here)
            (all_append (λ (p : List X). p ≢ x ∷ xs) so.made (pieces_from ends pending (x ∷ (xs ++ changed key (join (map items behind)) rest))) (made_others key x xs so.made low.0)
            (pending_before key ends x xs pending (xs ++ changed key (join (map items behind)) rest) some low.1 high))) is

    -- it is sought for one of the changes to come, or gone
    pub reason_held : (pending ≡ [] → ⊥) → IsReason nodes new_nodes (keys_changed rest) node
    reason_held some = by rest so.own so.above refl
      where
        higher : (c : Change X) (cs : List (Change X)) → IsBelow (greatest_of node) c.key → AllByRecursion (λ (d : Change X). IsBelow c.key d.key) cs → AllByRecursion (λ (d : Change X). IsBelow (greatest_of node) d.key) cs
        higher c [] low all = tt
        higher c (d ∷ cs) low all = (order_trans (greatest_of node) c.key d.key low all.0, higher c cs low all.1)

        by : (cs : List (Change X)) → AreOwnAndRising key cs → AllByRecursion (λ (c : Change X). AllByRecursion (λ (n : Node). IsBelow (greatest_of n) c.key) others) cs → rest ≡ cs → IsReason nodes new_nodes (keys_changed cs) node
        by [] own up e = inr (is_gone some (subst (λ (ds : List (Change X)). AllByRecursion (λ (c : Change X). IsBelow (greatest_of node) c.key) ds) (sym e) tt))
        by (c ∷ cs) own up e = elim (either_way key c.key false (greatest_of node)) [
          | inr reaches ↦ inl (c.key, inl refl, record { front = others; back = behind; sought = record { whole = so.whole; before = up.0; reached = inl reaches } })
          | inl below ↦ stops_at behind refl below
        ]
          where
            stops_at : (bs : List Node) → behind ≡ bs → IsBelow (greatest_of node) c.key → IsReason nodes new_nodes (keys_changed (c ∷ cs)) node
            stops_at [] last below = inl (c.key, inl refl, record { front = others; back = behind; sought = record { whole = so.whole; before = up.0; reached = inr last } })
            stops_at (b ∷ bs) last below =
                inr (is_gone some (subst (λ (ds : List (Change X)). AllByRecursion (λ (d : Change X). IsBelow (greatest_of node) d.key) ds) (sym e) (below, higher c cs below own.1)))

    -- it is sought for each change that is taken
    pub covers_taken : (is_last : Bool) (here later : List (Change X)) → AreSplit key ends items over Fit nodes changes can node behind is_last rest here later → (old : OldNode) → IsOldNode old node → (all : List OldNode) → IsIn old all
        → AllByRecursion (IsCovered nodes all) (keys_changed here)
    covers_taken is_last here later split old stands all opened = by here later (subst (λ (cs : List (Change X)). AllByRecursion (λ (c : Change X). AllByRecursion (λ (n : Node). IsBelow (greatest_of n) c.key) others) cs) split.whole so.above) (reached is_last refl)
      where
        reached : (b : Bool) → is_last ≡ b → AllByRecursion (λ (c : Change X). IsUpTo c.key (greatest_of node) ⊎ (behind ≡ [])) here
        reached true e = all_last here (split.last e).0
          where
            all_last : (cs : List (Change X)) → behind ≡ [] → AllByRecursion (λ (c : Change X). IsUpTo c.key (greatest_of node) ⊎ (behind ≡ [])) cs
            all_last [] last = tt
            all_last (c ∷ cs) last = (inr last, all_last cs last)
        reached false e = ups here (split.more e).1
          where
            ups : (cs : List (Change X)) → AllByRecursion (λ (c : Change X). IsUpTo c.key (greatest_of node)) cs → AllByRecursion (λ (c : Change X). IsUpTo c.key (greatest_of node) ⊎ (behind ≡ [])) cs
            ups [] up = tt
            ups (c ∷ cs) up = (inl up.0, ups cs up.1)

        by : (cs more : List (Change X)) → AllByRecursion (λ (c : Change X). AllByRecursion (λ (n : Node). IsBelow (greatest_of n) c.key) others) (cs ++ more) → AllByRecursion (λ (c : Change X). IsUpTo c.key (greatest_of node) ⊎ (behind ≡ [])) cs
            → AllByRecursion (IsCovered nodes all) (keys_changed cs)
        by [] more low up = tt
        by (c ∷ cs) more low up = (
          record { old = old; opened = opened; node = node; stands = stands; sought = record { front = others; back = behind; sought = record { whole = so.whole; before = low.0; reached = up.0 } } },
          by cs more low.1 up.1,
        )

-- ---- a turn of the loop

none_taken : {X : Type 0} (xs : List X) (j : ℕ) → xs ≡ [] → take j xs ≡ []
none_taken [] zero e = refl
none_taken [] (suc j) e = refl
none_taken (x ∷ xs) j e = absurd cc

take_more : {X : Type 0} (xs : List X) (n k : ℕ) → take (n + k) xs ≡ take n xs ++ take k (drop n xs)
take_more xs zero k = ap (λ m. take m xs) (zero-add k)
take_more {X} [] (suc n) k = let empty : List X = [] in none_taken empty (suc n + k) refl ∙ sym (none_taken empty k refl)
take_more {X} (x ∷ xs) (suc n) k = let at : suc n + k ≡ suc (n + k) = omega arith in ap (λ m. take m (x ∷ xs)) at ∙ ap (λ (ys : List X). x ∷ ys) (take_more xs n k)

module _ {T X : Type 0} (meaning : T → X) (key : X → List ℕ) (ends : ℕ → X → Bool) (items : Node → List X) (over : List X → Node) (Fit : List X → Type 0) (nodes : List Node) (cs : List (ItemChange T))
    (can : CanStep key ends items over Fit nodes (changes_meant meaning cs)) (back_is : (p : List X) → items (over p) ≡ p) where
  abbrev pub keys_from : ℕ → List (List ℕ)
  keys_from n = keys_changed (changes_meant meaning (drop n cs))

  abbrev pub keys_to : ℕ → List (List ℕ)
  keys_to n = keys_changed (changes_meant meaning (take n cs))

  key_in : (n : ℕ) (ds : List (ItemChange T)) (k : List ℕ) → IsIn k (keys_changed (changes_meant meaning (drop n ds))) → IsIn k (keys_changed (changes_meant meaning ds))
  key_in zero ds k is = is
  key_in (suc n) [] k is = is
  key_in (suc n) (d ∷ ds) k is = inr (key_in n ds k is)

  pub first_reasons : (olds : List OldNode) → olds ≡ [] → HaveReasons nodes (new_nodes key ends items over Fit nodes (changes_meant meaning cs) can back_is) (keys_changed (changes_meant meaning cs)) (keys_to 0) olds
  first_reasons [] none = record { reasons = tt; covers = tt }
  first_reasons (o ∷ os) none = absurd cc

  more_covered : (olds later : List OldNode) (old : OldNode) → later ≡ olds ++ old ∷ [] → (keys : List (List ℕ)) → AllByRecursion (IsCovered nodes olds) keys → AllByRecursion (IsCovered nodes later) keys
  more_covered olds later old same [] all = tt
  more_covered olds later old same (k ∷ ks) all = (
    record { old = all.0.old; opened = subst (λ (os : List OldNode). IsIn all.0.old os) (sym same) (in_front all.0.old olds (old ∷ []) all.0.opened); node = all.0.node; stands = all.0.stands; sought = all.0.sought },
    more_covered olds later old same ks all.1,
  )

  pub next_reasons : (parts : (xs ys : List X) → Fit (xs ++ ys) → Fit xs × Fit ys) (olds : List OldNode) (news : List NewPiece) (pending : List T) (done : ℕ)
      → StepState key ends items over Fit nodes (changes_meant meaning cs) olds news (map meaning pending) (changes_meant meaning (drop done cs))
      → (wanted : Bor (List ℕ) × Bool) → IsWanted olds pending (take (length cs - done) (drop done cs)) (Some wanted)
      → (tree : List (List Node)) (level : ℕ) → level_at tree level ≡ nodes → (node : Node) (is_last : Bool) → IsSoughtNode tree level wanted.0.now wanted.1 node is_last
      → (old : OldNode) → IsOldNode old node → (count : ℕ)
      → (IsTrue is_last → count ≡ length (take (length cs - done) (drop done cs)))
      → (is_last ≡ false → AllByRecursion (λ (c : ItemChange T). IsUpTo c.key.now old.greatest.now) (take count (take (length cs - done) (drop done cs))))
      → (is_last ≡ false → FirstIsAbove old.greatest.now (drop count (take (length cs - done) (drop done cs))))
      → HaveReasons nodes (new_nodes key ends items over Fit nodes (changes_meant meaning cs) can back_is) (keys_changed (changes_meant meaning cs)) (keys_to done) olds
      → (later : List OldNode) → later ≡ olds ++ old ∷ []
      → HaveReasons nodes (new_nodes key ends items over Fit nodes (changes_meant meaning cs) can back_is) (keys_changed (changes_meant meaning cs)) (keys_to (done + count)) later
  next_reasons parts olds news pending done state wanted wants tree level same node is_last is old stands count last up_to above so later later_is =
      let rest = rest_is cs done in
      let f = found meaning key ends items over Fit nodes cs can parts olds news pending done state (take (length cs - done) (drop done cs)) rest wanted wants tree level same node is_last is in
      let split = split_at meaning key ends items over Fit nodes cs can node f.behind is_last done count old.greatest.now f.last stands.greatest
      (λ stops. last stops ∙ ap (length {A = ItemChange T}) rest)
      (λ goes. subst (λ (ds : List (ItemChange T)). AllByRecursion (λ (c : ItemChange T). IsUpTo c.key.now old.greatest.now) (take count ds)) rest (up_to goes))
      (λ goes. subst (λ (ds : List (ItemChange T)). FirstIsAbove old.greatest.now (drop count ds)) rest (above goes))
      f.at.own in
      let reason : IsReason nodes (new_nodes key ends items over Fit nodes (changes_meant meaning cs) can back_is) (keys_changed (changes_meant meaning cs)) node = elim wants [
        | inl (empty, change, others, rest_are, key_is, above_is) ↦
            inl (
              change.key.now,
              key_in done cs change.key.now (subst (λ (ds : List (ItemChange T)). IsIn change.key.now (keys_changed (changes_meant meaning ds))) (sym rest_are ∙ rest) (inl refl)),
              record {
                front = is.front;
                back = is.back;
                sought = subst (λ (ns : List Node). IsSought greatest_of change.key.now false ns is.front node is.back) same
                    (subst (λ (k : List ℕ). IsSought greatest_of k false (level_at tree level) is.front node is.back) key_is
                    (subst (λ (b : Bool). IsSought greatest_of wanted.0.now b (level_at tree level) is.front node is.back) above_is is.sought));
              },
            )
        | inr (some, before, one, olds_are, key_is, above_is) ↦ elim (reason_held key ends items over Fit nodes (changes_meant meaning cs) can back_is olds news (map meaning pending) (changes_meant meaning (drop done cs)) f.others node f.behind f.at (λ none. some (none_meant meaning key ends items over Fit nodes cs can pending none))) [
          | inl here ↦ inl (here.0, key_in done cs here.0 here.1, here.2)
          | inr gone ↦ inr gone
        ]
      ] in
      let among = subst (λ (ns : List Node). IsIn node ns) same (subst (λ (ns : List Node). IsIn node ns) (sym is.sought.whole) (in_back node is.front (node ∷ is.back) (inl refl))) in
      let opened = in_back old olds (old ∷ []) (inl refl) in
      let covered = covers_taken key ends items over Fit nodes (changes_meant meaning cs) can back_is olds news (map meaning pending) (changes_meant meaning (drop done cs)) f.others node f.behind f.at is_last
      (changes_meant meaning (take count (drop done cs))) (changes_meant meaning (drop (done + count) cs)) split old stands later (subst (λ (os : List OldNode). IsIn old os) (sym later_is) opened) in
      record {
        reasons = subst (λ (os : List OldNode). AllByRecursion (IsOpenedFor nodes (new_nodes key ends items over Fit nodes (changes_meant meaning cs) can back_is) (keys_changed (changes_meant meaning cs))) os) (sym later_is)
            (all_append (IsOpenedFor nodes (new_nodes key ends items over Fit nodes (changes_meant meaning cs) can back_is) (keys_changed (changes_meant meaning cs))) olds (old ∷ []) so.reasons (record { node = node; among = among; stands = stands; reason = reason }, tt));
        covers = subst (λ (ks : List (List ℕ)). AllByRecursion (IsCovered nodes later) ks)
            (sym (ap (λ (ds : List (ItemChange T)). keys_changed (changes_meant meaning ds)) (take_more cs done count)
            ∙ ap keys_changed (map-append (change_meant meaning) (take done cs) (take count (drop done cs)))
            ∙ map-append (λ (c : Change X). c.key) (changes_meant meaning (take done cs)) (changes_meant meaning (take count (drop done cs)))))
            (all_append (IsCovered nodes later) (keys_to done) (keys_changed (changes_meant meaning (take count (drop done cs)))) (more_covered olds later old later_is (keys_to done) so.covers) covered);
      }

  -- at the end all changes were taken
  pub last_reasons : (olds : List OldNode) (news : List NewPiece) (pending : List T) (done : ℕ) → StepState key ends items over Fit nodes (changes_meant meaning cs) olds news (map meaning pending) (changes_meant meaning (drop done cs)) → IsWanted olds pending (take (length cs - done) (drop done cs)) None
      → HaveReasons nodes (new_nodes key ends items over Fit nodes (changes_meant meaning cs) can back_is) (keys_changed (changes_meant meaning cs)) (keys_to done) olds
      → HaveReasons nodes (new_nodes key ends items over Fit nodes (changes_meant meaning cs) can back_is) (keys_changed (changes_meant meaning cs)) (keys_changed (changes_meant meaning cs)) olds
  last_reasons olds news pending done state wants so =
      let none_left : drop done cs ≡ [] = elim wants [ inl both ↦ sym (rest_is cs done) ∙ both.1 | inr not ↦ absurd (never not) ] in
      let whole : take done cs ≡ cs = sym (append-nil (take done cs)) ∙ ap (λ (ds : List (ItemChange T)). take done cs ++ ds) (sym none_left) ∙ take-append-drop done cs in
      record { reasons = so.reasons; covers = subst (λ (ds : List (ItemChange T)). AllByRecursion (IsCovered nodes olds) (keys_changed (changes_meant meaning ds))) whole so.covers }
    where
      not_empty : (os : List OldNode) (o : OldNode) → os ++ o ∷ [] ≡ [] → ⊥
      not_empty [] o e = cc
      not_empty (p ∷ os) o e = cc

      never : (pending ≢ []) × (olds ≡ []) → ⊥
      never both = elim state.at.following [ inl none ↦ both.0 (none_meant meaning key ends items over Fit nodes cs can pending none) | inr last ↦ not_empty last.before last.old (sym last.olds_are ∙ both.1) ]
