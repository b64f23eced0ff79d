-- A turn of a step's loop, from what its calls give to the next state.
use Rattle.std.proofs.Common.{◌≡◌, ℕ, ◌+◌, ◌-◌, ◌<◌, ◌≤◌, ◌⊎◌, List, [], ◌∷◌, ◌++◌, length, map, take, drop, inl, inr, Bool, true, false, ◌≢◌, IsTrue, Some, None, refl, sym, ap, subst, ◌∙◌, arith}
use Rattle.std.specs.List.{flat_map, slice_get, AllByRecursion}
use Rattle.std.specs.Borrow.{Bor}
use Rattle.std.proofs.lemmas.List.{drop-drop, length-drop, map-append, take-append-drop, take_more}
use Rattle.std.proofs.lemmas.Option.{get_or_from_slice_get, slice_get-get_or, slice_get_within}
use Rattle.std.proofs.Math.Seq.{take-length, drop-length}
use Rattle.tree_node.specs.Nodes.{Node}
use Rattle.tree_node.specs.Order.{IsBelow}
use Rattle.tree_node.specs.internal.OrderLemmas.{order_trans}
use Rattle.tree_node.specs.Trees.{greatest_of, level_at, pieces}
use Rattle.tree_build.specs.Changing.{Change, changed}
use Rattle.tree_build.specs.internal.Edits.{Each, IsNewNode, IsOldNode}
use Rattle.tree_build.specs.internal.Holding.{IsSoughtNode}
use Rattle.tree_build.specs.internal.ItemChanges.{change_meant, changes_meant}
use Rattle.tree_build.specs.internal.RisingChanges.{AreOwnAndRising, IsUpTo}
use Rattle.tree_build.specs.internal.Seeking.{IsSought}
use Rattle.tree_build.specs.internal.Steps.{CanStep, FirstIsAbove, HaveGoneOn, IsEdit, IsWanted}
use Rattle.tree_build.specs.declared.old_node.OldNode.{OldNode}
use Rattle.tree_build.specs.declared.level_item.ItemChange.{ItemChange}
use Rattle.tree_build.specs.declared.piece.NewPiece.{NewPiece}
use Rattle.tree_build.specs.declared.step.LevelEdit.{LevelEdit}
use Rattle.tree_build.proofs.StepStates.{AreSplit, IsDone, StepAt, StepState, next_after, next_sought, step_done, step_room, step_start, step_taken, taken_fit, taken_own}

-- the rest of a list, as a slice of it
pub rest_is : {X : Type 0} (xs : List X) (n : ℕ) → take (length xs - n) (drop n xs) ≡ drop n xs
rest_is xs n = ap (λ k. take k (drop n xs)) (sym (length-drop n xs)) ∙ take-length (drop n xs)

module _ {T X : Type 0} (meaning : T → X) (key : X → List ℕ) (ends : ℕ → X → Bool) (items : Node → List X) (over : List X → Node) (Fit : List X → Type 0) (nodes : List Node) (cs : List (ItemChange T))
    (can : CanStep key ends items over Fit nodes (changes_meant meaning cs)) where
  -- the node that was sought stands where the step goes on
  pub record IsFound (olds : List OldNode) (news : List NewPiece) (pending : List T) (done : ℕ) (node : Node) (is_last : Bool) : Type 0 where
    pub others : List Node
    pub behind : List Node
    pub at : StepAt key ends items over Fit nodes (changes_meant meaning cs) others (node ∷ behind) olds news (map meaning pending) (changes_meant meaning (drop done cs))
    pub last : (IsTrue is_last → behind ≡ []) × (behind ≡ [] → IsTrue is_last)

  pub none_meant : (pending : List T) → map meaning pending ≡ [] → pending ≡ []
  none_meant [] e = refl
  none_meant (x ∷ xs) e = absurd cc

  pub found : (parts : (xs ys : List X) → Fit (xs ++ ys) → Fit xs × Fit ys) (olds : List OldNode) (news : List NewPiece) (pending : List T) (done : ℕ)
      → StepState key ends items over Fit nodes (changes_meant meaning cs) olds news (map meaning pending) (changes_meant meaning (drop done cs))
      → (rest : List (ItemChange T)) → rest ≡ drop done cs → (wanted : Bor (List ℕ) × Bool) → IsWanted olds pending rest (Some wanted)
      → (tree : List (List Node)) (level : ℕ) → level_at tree level ≡ nodes → (node : Node) (is_last : Bool) → IsSoughtNode tree level wanted.0.now wanted.1 node is_last → IsFound olds news pending done node is_last
  found parts olds news pending done state rest rest_same wanted wants tree level same node is_last is = elim wants [
    | inl (empty, change, others, rest_are, key_is, above_is) ↦
        let none_pending : map meaning pending ≡ [] = ap (map meaning) empty in
        let left : changes_meant meaning (drop done cs) ≡ change_meant meaning change ∷ changes_meant meaning others = ap (changes_meant meaning) (sym rest_same ∙ rest_are) in
        let at = subst (λ (h : List X). StepAt key ends items over Fit nodes (changes_meant meaning cs) state.front state.back olds news h (change_meant meaning change ∷ changes_meant meaning others)) none_pending
        (subst (λ (ds : List (Change X)). StepAt key ends items over Fit nodes (changes_meant meaning cs) state.front state.back olds news (map meaning pending) ds) left state.at) in
        let sought = subst (λ (ns : List Node). IsSought greatest_of change.key.now false ns is.front node is.back) same
        (subst (λ (k : List ℕ). IsSought greatest_of k false (level_at tree level) is.front node is.back) key_is
        (subst (λ (b : Bool). IsSought greatest_of wanted.0.now b (level_at tree level) is.front node is.back) above_is is.sought)) in
        let next = next_sought key ends items over Fit nodes (changes_meant meaning cs) can parts olds news state.front state.back (change_meant meaning change) (changes_meant meaning others) at is.front node is.back sought in
        record {
          others = is.front;
          behind = is.back;
          at = subst (λ (h : List X). StepAt key ends items over Fit nodes (changes_meant meaning cs) is.front (node ∷ is.back) olds news h (changes_meant meaning (drop done cs))) (sym none_pending)
              (subst (λ (ds : List (Change X)). StepAt key ends items over Fit nodes (changes_meant meaning cs) is.front (node ∷ is.back) olds news [] ds) (sym left) next.at);
          last = is.is_last;
        }
    | inr (some, before, old, olds_are, key_is, above_is) ↦
        let sought = subst (λ (ns : List Node). IsSought greatest_of old.greatest.now true ns is.front node is.back) same
        (subst (λ (k : List ℕ). IsSought greatest_of k true (level_at tree level) is.front node is.back) key_is
        (subst (λ (b : Bool). IsSought greatest_of wanted.0.now b (level_at tree level) is.front node is.back) above_is is.sought)) in
        let next = next_after key ends items over Fit nodes (changes_meant meaning cs) can olds news (map meaning pending) (changes_meant meaning (drop done cs)) state.front state.back state.at
        (λ none. some (none_meant pending none)) before old olds_are is.front node is.back sought in
        record { others = is.front; behind = is.back; at = next.at; last = is.is_last }
  ]

  all_meant : (P : List ℕ → Type 0) (ds : List (ItemChange T)) → AllByRecursion (λ (d : ItemChange T). P d.key.now) ds → AllByRecursion (λ (d : Change X). P d.key) (changes_meant meaning ds)
  all_meant P [] all = tt
  all_meant P (d ∷ ds) all = (all.0, all_meant P ds all.1)

  above_first : (k : List ℕ) (ds : List (ItemChange T)) → FirstIsAbove k ds → AreOwnAndRising key (changes_meant meaning ds) → AllByRecursion (λ (d : Change X). IsBelow k d.key) (changes_meant meaning ds)
  above_first k [] first own = tt
  above_first k (d ∷ ds) first own = (first, later (changes_meant meaning ds) own.1)
    where
      later : (es : List (Change X)) → AllByRecursion (λ (e : Change X). IsBelow d.key.now e.key) es → AllByRecursion (λ (e : Change X). IsBelow k e.key) es
      later [] all = tt
      later (e ∷ es) all = (order_trans k d.key.now e.key first all.0, later es all.1)

  own_back : (here later : List (Change X)) → AreOwnAndRising key (here ++ later) → AreOwnAndRising key later
  own_back [] later own = own
  own_back (c ∷ here) later own = own_back here later own.2

  -- so many changes are taken, and the others are left
  pub split_at : (node : Node) (behind : List Node) (is_last : Bool) (done count : ℕ) (k : List ℕ) → (IsTrue is_last → behind ≡ []) × (behind ≡ [] → IsTrue is_last) → k ≡ greatest_of node
      → (IsTrue is_last → count ≡ length (drop done cs)) → (is_last ≡ false → AllByRecursion (λ (c : ItemChange T). IsUpTo c.key.now k) (take count (drop done cs))) → (is_last ≡ false → FirstIsAbove k (drop count (drop done cs)))
      → AreOwnAndRising key (changes_meant meaning (drop done cs))
      → AreSplit key ends items over Fit nodes (changes_meant meaning cs) can node behind is_last (changes_meant meaning (drop done cs)) (changes_meant meaning (take count (drop done cs))) (changes_meant meaning (drop (done + count) cs))
  split_at node behind is_last done count k ends_here k_is last up_to above own =
      let later : drop count (drop done cs) ≡ drop (done + count) cs = drop-drop count done cs in
      let whole : changes_meant meaning (drop done cs) ≡ changes_meant meaning (take count (drop done cs)) ++ changes_meant meaning (drop count (drop done cs)) =
      ap (changes_meant meaning) (sym (take-append-drop count (drop done cs))) ∙ map-append (change_meant meaning) (take count (drop done cs)) (drop count (drop done cs)) in
      record {
        whole = whole ∙ ap (λ (ds : List (ItemChange T)). changes_meant meaning (take count (drop done cs)) ++ changes_meant meaning ds) later;
        last = λ stops. (ends_here.0 stops, ap (changes_meant meaning) (sym later ∙ ap (λ n. drop n (drop done cs)) (last stops) ∙ drop-length (drop done cs)));
        more = λ goes.
            let own_later = own_back (changes_meant meaning (take count (drop done cs))) (changes_meant meaning (drop count (drop done cs))) (subst (λ (ds : List (Change X)). AreOwnAndRising key ds) whole own) in (
              some behind (λ none. let t : is_last ≡ true = ends_here.1 none in cc),
              subst (λ (l : List ℕ). AllByRecursion (λ (c : Change X). IsUpTo c.key l) (changes_meant meaning (take count (drop done cs)))) k_is (all_meant (λ (l : List ℕ). IsUpTo l k) (take count (drop done cs)) (up_to goes)),
              subst (λ (ds : List (ItemChange T)). AllByRecursion (λ (c : Change X). IsBelow (greatest_of node) c.key) (changes_meant meaning ds)) later
                  (subst (λ (l : List ℕ). AllByRecursion (λ (c : Change X). IsBelow l c.key) (changes_meant meaning (drop count (drop done cs)))) k_is (above_first k (drop count (drop done cs)) (above goes) own_later)),
            );
      }
    where
      some : (ns : List Node) → (ns ≡ [] → ⊥) → 1 ≤ length ns
      some [] not = absurd (not refl)
      some (n ∷ ns) not = omega arith

  -- ---- a whole turn

  -- what a turn may do with the node that was found and the changes that are taken, and the state after it
  pub record IsTurn (olds : List OldNode) (news : List NewPiece) (pending : List T) (next : ℕ) (here : List (ItemChange T)) (node : Node) (is_last : Bool) (old : OldNode) : Type 0 where
    pub own : AreOwnAndRising key (changes_meant meaning here)
    pub fit : Fit (map meaning pending ++ changed key (items node) (changes_meant meaning here))
    pub room : length olds < length nodes
    pub then_state : (next_pending : List T) (after : List NewPiece) → HaveGoneOn ends over is_last (map meaning pending) news (changed key (items node) (changes_meant meaning here)) (map meaning next_pending) after
        → StepState key ends items over Fit nodes (changes_meant meaning cs) (olds ++ old ∷ []) after (map meaning next_pending) (changes_meant meaning (drop next cs))

  pub turn : (parts : (xs ys : List X) → Fit (xs ++ ys) → Fit xs × Fit ys) (olds : List OldNode) (news : List NewPiece) (pending : List T) (done : ℕ)
      → StepState key ends items over Fit nodes (changes_meant meaning cs) olds news (map meaning pending) (changes_meant meaning (drop done cs))
      → (wanted : Bor (List ℕ) × Bool) → IsWanted olds pending (take (length cs - done) (drop done cs)) (Some wanted)
      → (tree : List (List Node)) (level : ℕ) → level_at tree level ≡ nodes → (node : Node) (is_last : Bool) → IsSoughtNode tree level wanted.0.now wanted.1 node is_last
      → (old : OldNode) → IsOldNode old node → (count : ℕ)
      → (IsTrue is_last → count ≡ length (take (length cs - done) (drop done cs)))
      → (is_last ≡ false → AllByRecursion (λ (c : ItemChange T). IsUpTo c.key.now old.greatest.now) (take count (take (length cs - done) (drop done cs))))
      → (is_last ≡ false → FirstIsAbove old.greatest.now (drop count (take (length cs - done) (drop done cs))))
      → IsTurn olds news pending (done + count) (take (done + count - done) (drop done cs)) node is_last old
  turn parts olds news pending done state wanted wants tree level same node is_last is old stands count last up_to above =
      let rest = rest_is cs done in
      let f = found parts olds news pending done state (take (length cs - done) (drop done cs)) rest wanted wants tree level same node is_last is in
      let split = split_at node f.behind is_last done count old.greatest.now f.last stands.greatest
      (λ stops. last stops ∙ ap (length {A = ItemChange T}) rest)
      (λ goes. subst (λ (ds : List (ItemChange T)). AllByRecursion (λ (c : ItemChange T). IsUpTo c.key.now old.greatest.now) (take count ds)) rest (up_to goes))
      (λ goes. subst (λ (ds : List (ItemChange T)). FirstIsAbove old.greatest.now (drop count ds)) rest (above goes))
      f.at.own in
      let here : take count (drop done cs) ≡ take (done + count - done) (drop done cs) = let n : count ≡ done + count - done = omega arith in ap (λ k. take k (drop done cs)) n in
      subst (λ (hs : List (ItemChange T)). IsTurn olds news pending (done + count) hs node is_last old) here (record {
        own = taken_own key ends items over Fit nodes (changes_meant meaning cs) can parts olds news (map meaning pending) (changes_meant meaning (drop done cs)) f.others node f.behind f.at is_last _ _ split;
        fit = taken_fit key ends items over Fit nodes (changes_meant meaning cs) can parts olds news (map meaning pending) (changes_meant meaning (drop done cs)) f.others node f.behind f.at is_last _ _ split;
        room = step_room key ends items over Fit nodes (changes_meant meaning cs) can olds news (map meaning pending) (changes_meant meaning (drop done cs)) f.others (node ∷ f.behind) f.at (omega arith);
        then_state = λ next_pending after gone.
            step_taken key ends items over Fit nodes (changes_meant meaning cs) can parts olds news (map meaning pending) (changes_meant meaning (drop done cs)) f.others node f.behind f.at is_last _ _ split old stands (map meaning next_pending) after gone;
      })

  -- fewer old nodes were opened than a level may have
  pub opened_room : (parts : (xs ys : List X) → Fit (xs ++ ys) → Fit xs × Fit ys) (olds : List OldNode) (news : List NewPiece) (pending : List T) (done : ℕ)
      → StepState key ends items over Fit nodes (changes_meant meaning cs) olds news (map meaning pending) (changes_meant meaning (drop done cs))
      → (wanted : Bor (List ℕ) × Bool) → IsWanted olds pending (take (length cs - done) (drop done cs)) (Some wanted)
      → (tree : List (List Node)) (level : ℕ) → level_at tree level ≡ nodes → (node : Node) (is_last : Bool) → IsSoughtNode tree level wanted.0.now wanted.1 node is_last → length olds < 536870912
  opened_room parts olds news pending done state wanted wants tree level same node is_last is =
      let f = found parts olds news pending done state (take (length cs - done) (drop done cs)) (rest_is cs done) wanted wants tree level same node is_last is in
      omega (arith, can.level.few, step_room key ends items over Fit nodes (changes_meant meaning cs) can olds news (map meaning pending) (changes_meant meaning (drop done cs)) f.others (node ∷ f.behind) f.at (omega arith))

  -- ---- at the start, and at the end

  pub start_state : 1 ≤ length nodes → (olds : List OldNode) (news : List NewPiece) (pending : List T) → olds ≡ [] → news ≡ [] → pending ≡ []
      → StepState key ends items over Fit nodes (changes_meant meaning cs) olds news (map meaning pending) (changes_meant meaning cs)
  start_state has olds news pending one two three =
      subst (λ (os : List OldNode). StepState key ends items over Fit nodes (changes_meant meaning cs) os news (map meaning pending) (changes_meant meaning cs)) (sym one)
      (subst (λ (ns : List NewPiece). StepState key ends items over Fit nodes (changes_meant meaning cs) [] ns (map meaning pending) (changes_meant meaning cs)) (sym two)
      (subst (λ (h : List T). StepState key ends items over Fit nodes (changes_meant meaning cs) [] [] (map meaning h) (changes_meant meaning cs)) (sym three)
      (step_start key ends items over Fit nodes (changes_meant meaning cs) can has)))

  -- nothing more is wanted
  pub end_state : (olds : List OldNode) (news : List NewPiece) (pending : List T) (done : ℕ) → StepState key ends items over Fit nodes (changes_meant meaning cs) olds news (map meaning pending) (changes_meant meaning (drop done cs))
      → IsWanted olds pending (take (length cs - done) (drop done cs)) None → IsDone key ends items over Fit nodes (changes_meant meaning cs) can olds news
  end_state olds news pending done state wants = elim wants [
    | inl both ↦ step_done key ends items over Fit nodes (changes_meant meaning cs) can olds news (map meaning pending) (changes_meant meaning (drop done cs)) state (ap (map meaning) both.0)
        (ap (changes_meant meaning) (sym (rest_is cs done) ∙ both.1))
    | inr never ↦ absurd (elim state.at.following [ inl none ↦ never.0 (none_meant pending none) | inr last ↦ not_empty last.before last.old (sym last.olds_are ∙ never.1) ])
  ]
    where
      not_empty : (os : List OldNode) (o : OldNode) → os ++ o ∷ [] ≡ [] → ⊥
      not_empty [] o e = cc
      not_empty (p ∷ os) o e = cc

  -- what a step gives
  pub edit_of : (olds : List OldNode) (news : List NewPiece) → IsDone key ends items over Fit nodes (changes_meant meaning cs) can olds news → (edit : LevelEdit) → edit.olds.items ≡ olds → edit.news.items ≡ news
      → IsEdit nodes (map over (pieces ends (changed key (flat_map items nodes) (changes_meant meaning cs)))) edit
  edit_of olds news is edit olds_are news_are = record {
    kept = is.kept;
    opened = is.opened;
    came = is.came;
    was = is.was;
    is = is.is;
    olds_stand = subst (λ (os : List OldNode). Each IsOldNode os is.opened) (sym olds_are) is.olds_stand;
    news_stand = subst (λ (ns : List NewPiece). Each IsNewNode ns is.came) (sym news_are) is.news_stand;
  }

  pub went_then : (olds : List OldNode) (news : List NewPiece) (pending : List T) (next : ℕ) (here : List (ItemChange T)) (node : Node) (is_last : Bool) (old : OldNode) → IsTurn olds news pending next here node is_last old
      → (next_olds : List OldNode) (after : List NewPiece) (next_pending : List T) → next_olds ≡ olds ++ old ∷ []
      → HaveGoneOn ends over is_last (map meaning pending) news (changed key (items node) (changes_meant meaning here)) (map meaning next_pending) after
      → StepState key ends items over Fit nodes (changes_meant meaning cs) next_olds after (map meaning next_pending) (changes_meant meaning (drop next cs))
  went_then olds news pending next here node is_last old t next_olds after next_pending same gone =
      subst (λ (os : List OldNode). StepState key ends items over Fit nodes (changes_meant meaning cs) os after (map meaning next_pending) (changes_meant meaning (drop next cs))) (sym same) (t.then_state next_pending after gone)

-- where there are changes, an old node was opened
pub opened_some : {T : Type 0} (cs : List (ItemChange T)) (olds : List OldNode) (pending : List T) (done : ℕ) → 1 ≤ length cs → (1 ≤ length olds) ⊎ ((done ≡ 0) × (pending ≡ []))
    → IsWanted olds pending (take (length cs - done) (drop done cs)) None → (edit : LevelEdit) → edit.olds.items ≡ olds → 1 ≤ length edit.olds.items
opened_some {T} cs olds pending done some (inl opened) wants edit same = omega (arith, opened, ap (length {A = OldNode}) same)
opened_some {T} cs olds pending done some (inr (none, empty)) wants edit same = elim wants [
  | inl both ↦ absurd (omega (arith, some, ap (length {A = ItemChange T}) (ap (λ n. drop n cs) (sym none) ∙ sym (rest_is cs done) ∙ both.1)))
  | inr never ↦ absurd (never.0 empty)
]

pub within_rest : {X : Type 0} (xs : List X) (done count : ℕ) → done ≤ length xs → count ≤ length (take (length xs - done) (drop done xs)) → done + count ≤ length xs
within_rest {X} xs done count within few = omega (arith, few, ap (length {A = X}) (rest_is xs done), length-drop done xs)

-- ---- what is wanted next

-- the first change, with nothing pending
pub wanted_first : {T : Type 0} (olds : List OldNode) (pending : List T) (rest : List (ItemChange T)) (change : ItemChange T) → pending ≡ [] → slice_get rest 0 ≡ Some change → IsWanted olds pending rest (Some (change.key, false))
wanted_first olds pending [] change empty first = absurd cc
wanted_first olds pending (c ∷ cs) change empty first = let same : c ≡ change = cc in inl (empty, change, cs, ap (λ (d : ItemChange _). d ∷ cs) same, refl, refl)

-- nothing, with nothing pending and no change
pub wanted_none : {T : Type 0} (olds : List OldNode) (pending : List T) (rest : List (ItemChange T)) → pending ≡ [] → slice_get rest 0 ≡ None → IsWanted olds pending rest None
wanted_none olds pending [] empty first = inl (empty, refl)
wanted_none olds pending (c ∷ cs) empty first = absurd cc

not_none : {T : Type 0} (pending : List T) → 1 ≤ length pending → pending ≢ []
not_none {T} pending some = λ none. absurd (omega (arith, some, ap (length {A = T}) none))

-- what lies above the last node, with something pending
pub wanted_after : {T : Type 0} (olds : List OldNode) (pending : List T) (rest : List (ItemChange T)) (old : OldNode) → 1 ≤ length pending → slice_get olds (length olds - 1) ≡ Some old
    → IsWanted olds pending rest (Some (old.greatest, true))
wanted_after olds pending rest old some last =
    let lt = slice_get_within olds (length olds - 1) old last in
    let end : length olds - 1 + 1 ≡ length olds = omega (arith, lt) in
    let olds_are : olds ≡ take (length olds - 1) olds ++ old ∷ [] =
    sym (take-length olds) ∙ ap (λ n. take n olds) (sym end) ∙ take_more olds (length olds - 1) old lt
    ∙ ap (λ (o : OldNode). take (length olds - 1) olds ++ o ∷ []) (get_or_from_slice_get olds (length olds - 1) old old last) in
    inr (not_none pending some, take (length olds - 1) olds, old, olds_are, refl, refl)

-- this never comes
pub wanted_never : {T : Type 0} (olds : List OldNode) (pending : List T) (rest : List (ItemChange T)) → 1 ≤ length pending → slice_get olds (length olds - 1) ≡ None → IsWanted olds pending rest None
wanted_never [] pending rest some last = inr (not_none pending some, refl)
wanted_never (o ∷ os) pending rest some last = let there = slice_get-get_or (o ∷ os) (length (o ∷ os) - 1) o (omega arith) in absurd cc
