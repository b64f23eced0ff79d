-- What two lists of nodes differ by: which are new, which are gone, and the changes of the items that stand for them.
use Rattle.std.proofs.Common.{◌≡◌, ◌≢◌, ℕ, zero, suc, ◌+◌, ◌-◌, ◌<◌, List, [], ◌∷◌, ◌++◌, length, get_or, map, take, drop, ◌↔◌, Bool, false, not, IsTrue, None, refl, sym, ap, subst, ◌∙◌, append_assoc, add-one}
use Rattle.std.specs.List.{AllByRecursion}
use Rattle.std.proofs.Math.Seq.{drop-cons}
use Rattle.std.proofs.lemmas.List.{append-nil, drop-drop}
use Rattle.tree_node.specs.Nodes.{IsNode, Link, Node, spelling}
use Rattle.tree_node.specs.Order.{IsBelow}
use Rattle.tree_node.specs.Trees.{greatest_of}
use Rattle.tree_build.specs.Changing.{Change}
use Rattle.tree_build.specs.internal.Differing.{Differ, nothing, gone_last, gone, came_last, came, same, replaced, taken, put, FirstReaches, GoesOn, IsCounterpart, gained_by, gone_changes, step_changes}
use Rattle.tree_build.specs.internal.Edits.{Each, IsNewNode, IsOldNode, StandForNodes}
use Rattle.tree_build.specs.declared.node_merge.Counterpart.TheVariants.{Missing, Changed, Same}
use Rattle.tree_build.specs.declared.old_node.OldNode.{OldNode}
use Rattle.tree_build.specs.declared.piece.NewPiece.{NewPiece}
use Rattle.tree_build.proofs.PendingLemmas.{each_append}
use Rattle.tree_build.proofs.ParentLemmas.{one_spelling}
use Rattle.tree_build.proofs.SeekLemmas.{not_below}
use Rattle.tree_build.proofs.StepLoops.{rest_is}

-- ---- as a loop finds it

-- the first of the old nodes that isn't below the key
pub first_reaches : (key : List ℕ) (olds : List OldNode) (count at : ℕ) → count ≡ at → (d : OldNode) → at < length olds → (b : Bool) → IsTrue b ↔ IsBelow (get_or olds at d).greatest.now key → b ≡ false
    → FirstReaches key (drop count olds)
first_reaches key olds count at count_is d lt b told no_less =
    let next : drop count olds ≡ get_or olds at d ∷ drop (suc at) olds = ap (λ n. drop n olds) count_is ∙ drop-cons olds at d lt in
    subst (λ (os : List OldNode). FirstReaches key os) (sym next) ((not_below b (get_or olds at d).greatest.now key told).0 (ap not no_less))

module _ {X Y : Type 0} (Stands : X → Y → Type 0) where
  pub record HasParts (front back : List X) (ys : List Y) : Type 0 where
    pub fronts : List Y
    pub backs : List Y
    pub whole : ys ≡ fronts ++ backs
    pub front_stand : Each Stands front fronts
    pub back_stand : Each Stands back backs

  pub each_parts : (n : ℕ) (xs : List X) (ys : List Y) → Each Stands xs ys → HasParts (take n xs) (drop n xs) ys
  each_parts zero xs ys all = record { fronts = []; backs = ys; whole = refl; front_stand = tt; back_stand = all }
  each_parts (suc n) [] [] all = record { fronts = []; backs = []; whole = refl; front_stand = tt; back_stand = tt }
  each_parts (suc n) [] (y ∷ ys) all = absurd all
  each_parts (suc n) (x ∷ xs) [] all = absurd all
  each_parts (suc n) (x ∷ xs) (y ∷ ys) all =
      let parts = each_parts n xs ys all.1 in
      record { fronts = y ∷ parts.fronts; backs = parts.backs; whole = ap (λ (zs : List Y). y ∷ zs) parts.whole; front_stand = (all.0, parts.front_stand); back_stand = parts.back_stand }

-- old nodes in front whose greatest keys are below that of the new one are gone
pub front_gone : (front rest : List Node) (n : Node) (ns later earned : List Node) (more : List (Change Link)) → AllByRecursion (λ (o : Node). IsBelow (greatest_of o) (greatest_of n)) front
    → Differ rest (n ∷ ns) later earned more → Differ (front ++ rest) (n ∷ ns) (front ++ later) earned (map taken front ++ more)
front_gone [] rest n ns later earned more below d = d
front_gone (o ∷ front) rest n ns later earned more below d =
    gone o (front ++ rest) n ns (front ++ later) earned (map taken front ++ more) below.0 (front_gone front rest n ns later earned more below.1 d)

-- at the end all old nodes are gone
pub all_gone : (olds : List Node) → Differ olds [] olds [] (map taken olds)
all_gone [] = nothing
all_gone (o ∷ os) = gone_last o os os [] (map taken os) (all_gone os)

pub gone_are : (olds : List OldNode) (nodes : List Node) → Each IsOldNode olds nodes → gone_changes olds ≡ map taken nodes
gone_are [] [] all = refl
gone_are [] (n ∷ ns) all = absurd all
gone_are (o ∷ os) [] all = absurd all
gone_are (o ∷ os) (n ∷ ns) all =
    ap (λ (k : List ℕ). record { key = k; put = None } ∷ gone_changes os) all.0.greatest ∙ ap (λ (cs : List (Change Link)). taken n ∷ cs) (gone_are os ns all.1)

below_are : (key : List ℕ) (olds : List OldNode) (nodes : List Node) → Each IsOldNode olds nodes → AllByRecursion (λ (old : OldNode). IsBelow old.greatest.now key) olds → AllByRecursion (λ (o : Node). IsBelow (greatest_of o) key) nodes
below_are key [] [] all below = tt
below_are key [] (n ∷ ns) all below = absurd all
below_are key (o ∷ os) [] all below = absurd all
below_are key (o ∷ os) (n ∷ ns) all below = (subst (λ (k : List ℕ). IsBelow k key) all.0.greatest below.0, below_are key os ns all.1 below.1)

-- what is left after the first of what was left
next_left : {X : Type 0} (n : ℕ) (xs : List X) (x : X) (rest : List X) → drop n xs ≡ x ∷ rest → drop (n + 1) xs ≡ rest
next_left {X} n xs x rest e = sym (drop-drop 1 n xs) ∙ ap (drop 1) e

next_taken : {X : Type 0} (n : ℕ) (xs : List X) (x : X) (rest : List X) → drop n xs ≡ x ∷ rest → take (n + 1) xs ≡ take n xs ++ x ∷ []
next_taken {X} n xs x rest e = ap (λ k. take k xs) (add-one n) ∙ by n xs e
  where
    by : (k : ℕ) (ys : List X) → drop k ys ≡ x ∷ rest → take (suc k) ys ≡ take k ys ++ x ∷ []
    by zero [] f = absurd cc
    by zero (y ∷ ys) f = let head : y ≡ x = cc in ap (λ (z : X). z ∷ []) head
    by (suc k) [] f = absurd cc
    by (suc k) (y ∷ ys) f = ap (λ (zs : List X). y ∷ zs) (by k ys f)

-- the parts of a list, all of which have a property
parts_all : {X : Type 0} (P : X → Type 0) (xs ys : List X) → AllByRecursion P (xs ++ ys) → AllByRecursion P ys
parts_all P [] ys all = all
parts_all P (x ∷ xs) ys all = parts_all P xs ys all.1

module _ (olds : List OldNode) (new : NewPiece) (count : ℕ) (nodes : List Node) (node : Node) (stand : Each IsOldNode olds nodes) (stands : IsNewNode new node)
    (are : AllByRecursion IsNode nodes) (is : IsNode node) (below : AllByRecursion (λ (old : OldNode). IsBelow old.greatest.now new.greatest.now) (take count olds)) where
  abbrev parts : HasParts IsOldNode (take count olds) (drop count olds) nodes
  parts = each_parts IsOldNode count olds nodes stand

  all_below : AllByRecursion (λ (o : Node). IsBelow (greatest_of o) (greatest_of node)) parts.fronts
  all_below = subst (λ (k : List ℕ). AllByRecursion (λ (o : Node). IsBelow (greatest_of o) k) parts.fronts) stands.greatest (below_are new.greatest.now (take count olds) parts.fronts parts.front_stand below)

  went_are : gone_changes (take count olds) ≡ map taken parts.fronts
  went_are = gone_are (take count olds) parts.fronts parts.front_stand

  backs_are : AllByRecursion IsNode parts.backs
  backs_are = parts_all IsNode parts.fronts parts.backs (subst (λ (ns : List Node). AllByRecursion IsNode ns) parts.whole are)

  -- the changes of this step, and then those that come later
  changes_are : (added more : List (Change Link)) → (gone_changes (take count olds) ++ added) ++ more ≡ map taken parts.fronts ++ (added ++ more)
  changes_are added more = append_assoc (gone_changes (take count olds)) added more ∙ ap (λ (cs : List (Change Link)). cs ++ (added ++ more)) went_are

  -- no old node has its key
  pub adds_missing : IsCounterpart (drop count olds) new Missing → GoesOn nodes node (take count olds) (drop count olds) (node ∷ []) (gone_changes (take count olds) ++ put node ∷ [])
  adds_missing is_missing = record {
    lost = parts.fronts;
    lost_stand = parts.front_stand;
    others = parts.backs;
    stand = parts.back_stand;
    are = backs_are;
    then_differ = λ news later earned more d.
        subst (λ (ns : List Node). Differ ns (node ∷ news) (parts.fronts ++ later) (node ∷ earned) ((gone_changes (take count olds) ++ put node ∷ []) ++ more)) (sym parts.whole)
        (subst (λ (cs : List (Change Link)). Differ (parts.fronts ++ parts.backs) (node ∷ news) (parts.fronts ++ later) (node ∷ earned) cs) (sym (changes_are (put node ∷ []) more))
        (front_gone parts.fronts parts.backs node news later (node ∷ earned) (put node ∷ more) all_below (first (drop count olds) parts.backs parts.back_stand is_missing news later earned more d)));
  }
    where
      first : (os : List OldNode) (ns : List Node) → Each IsOldNode os ns → IsCounterpart os new Missing → (news later earned : List Node) (more : List (Change Link)) → Differ ns news later earned more → Differ ns (node ∷ news) later (node ∷ earned) (put node ∷ more)
      first [] [] all is_one news later earned more d = came_last node news later earned more d
      first [] (n ∷ ns) all is_one news later earned more d = absurd all
      first (o ∷ os) [] all is_one news later earned more d = absurd all
      first (o ∷ os) (n ∷ ns) all is_one news later earned more d =
          let less : IsBelow (greatest_of node) (greatest_of n) = subst (λ (k : List ℕ). IsBelow (greatest_of node) k) all.0.greatest (subst (λ (k : List ℕ). IsBelow k o.greatest.now) stands.greatest is_one) in
          came n ns node news later earned more less d

  -- an old node with other bytes has it
  pub adds_changed : IsCounterpart (drop count olds) new Changed → GoesOn nodes node (take (count + 1) olds) (drop (count + 1) olds) (node ∷ []) (gone_changes (take count olds) ++ put node ∷ [])
  adds_changed is_changed = by (drop count olds) parts.backs refl refl parts.back_stand is_changed
    where
      by : (os : List OldNode) (ns : List Node) → drop count olds ≡ os → parts.backs ≡ ns → Each IsOldNode os ns → IsCounterpart os new Changed
          → GoesOn nodes node (take (count + 1) olds) (drop (count + 1) olds) (node ∷ []) (gone_changes (take count olds) ++ put node ∷ [])
      by [] ns left_are backs_is all is_one = absurd is_one
      by (o ∷ os) [] left_are backs_is all is_one = absurd all
      by (o ∷ os) (n ∷ ns) left_are backs_is all is_one =
          let equal : greatest_of n ≡ greatest_of node = sym all.0.greatest ∙ is_one.0 ∙ stands.greatest in
          let other : n ≢ node = λ e. is_one.1 (all.0.bytes ∙ ap spelling e ∙ sym stands.bytes) in
          let rest : drop (count + 1) olds ≡ os = next_left count olds o os left_are in
          record {
            lost = parts.fronts ++ n ∷ [];
            lost_stand = subst (λ (ds : List OldNode). Each IsOldNode ds (parts.fronts ++ n ∷ [])) (sym (next_taken count olds o os left_are)) (each_append IsOldNode (take count olds) parts.fronts (o ∷ []) (n ∷ []) parts.front_stand (all.0, tt));
            others = ns;
            stand = subst (λ (ds : List OldNode). Each IsOldNode ds ns) (sym rest) all.1;
            are = (subst (λ (ms : List Node). AllByRecursion IsNode ms) backs_is backs_are).1;
            then_differ = λ news later earned more d.
                subst (λ (ms : List Node). Differ ms (node ∷ news) ((parts.fronts ++ n ∷ []) ++ later) (node ∷ earned) ((gone_changes (take count olds) ++ put node ∷ []) ++ more)) (sym (parts.whole ∙ ap (λ (ms : List Node). parts.fronts ++ ms) backs_is))
                (subst (λ (ls : List Node). Differ (parts.fronts ++ n ∷ ns) (node ∷ news) ls (node ∷ earned) ((gone_changes (take count olds) ++ put node ∷ []) ++ more)) (sym (append_assoc parts.fronts (n ∷ []) later))
                (subst (λ (cs : List (Change Link)). Differ (parts.fronts ++ n ∷ ns) (node ∷ news) (parts.fronts ++ n ∷ later) (node ∷ earned) cs) (sym (changes_are (put node ∷ []) more))
                (front_gone parts.fronts (n ∷ ns) node news (n ∷ later) (node ∷ earned) (put node ∷ more) all_below (replaced n ns node news later earned more equal other d))));
          }

  -- an old node is the same
  pub adds_same : IsCounterpart (drop count olds) new Same → GoesOn nodes node (take count olds) (drop (count + 1) olds) [] (gone_changes (take count olds))
  adds_same is_same = by (drop count olds) parts.backs refl refl parts.back_stand is_same
    where
      by : (os : List OldNode) (ns : List Node) → drop count olds ≡ os → parts.backs ≡ ns → Each IsOldNode os ns → IsCounterpart os new Same → GoesOn nodes node (take count olds) (drop (count + 1) olds) [] (gone_changes (take count olds))
      by [] ns left_are backs_is all is_one = absurd is_one
      by (o ∷ os) [] left_are backs_is all is_one = absurd all
      by (o ∷ os) (n ∷ ns) left_are backs_is all is_one =
          let now_are = subst (λ (ms : List Node). AllByRecursion IsNode ms) backs_is backs_are in
          let equal : n ≡ node = one_spelling n node now_are.0 is (sym all.0.bytes ∙ is_one ∙ stands.bytes) in
          let rest : drop (count + 1) olds ≡ os = next_left count olds o os left_are in
          record {
            lost = parts.fronts;
            lost_stand = parts.front_stand;
            others = ns;
            stand = subst (λ (ds : List OldNode). Each IsOldNode ds ns) (sym rest) all.1;
            are = now_are.1;
            then_differ = λ news later earned more d.
                subst (λ (ms : List Node). Differ ms (node ∷ news) (parts.fronts ++ later) earned (gone_changes (take count olds) ++ more)) (sym (parts.whole ∙ ap (λ (ms : List Node). parts.fronts ++ ms) backs_is))
                (subst (λ (cs : List (Change Link)). Differ (parts.fronts ++ n ∷ ns) (node ∷ news) (parts.fronts ++ later) earned (cs ++ more)) (sym went_are)
                (front_gone parts.fronts (n ∷ ns) node news later earned more all_below (same n ns node news later earned more equal d)));
          }

-- ---- the loop over the new nodes

-- What is left of both lists, and what was found so far: with what the rest differs by it is what all differ by.
pub record IsMerging (olds news : List Node) (rest : List OldNode) (others : List NewPiece) (lost gained : List Node) (changes : List (Change Link)) : Type 0 where
  pub left_olds : List Node
  pub left_news : List Node
  pub left_stand : StandForNodes rest others left_olds left_news
  pub then_differ : (later earned : List Node) (more : List (Change Link)) → Differ left_olds left_news later earned more → Differ olds news (lost ++ later) (gained ++ earned) (changes ++ more)

pub merging_start : (olds news : List Node) (rest : List OldNode) (others : List NewPiece) (changes : List (Change Link)) → changes ≡ [] → StandForNodes rest others olds news → IsMerging olds news rest others [] [] changes
merging_start olds news rest others changes none_yet stand = record {
  left_olds = olds;
  left_news = news;
  left_stand = stand;
  then_differ = λ later earned more d. subst (λ (cs : List (Change Link)). Differ olds news later earned (cs ++ more)) (sym none_yet) d;
}

module _ (olds news : List Node) where
  -- what was found with the next new node
  pub record MergesOn (rest : List OldNode) (new : NewPiece) (others : List NewPiece) (lost gained : List Node) (changes : List (Change Link)) (lost_olds below : List OldNode) (is_new : Bool) : Type 0 where
    pub node : Node
    pub stands : IsNewNode new node
    pub now_lost : List Node
    pub lost_stand : Each IsOldNode lost_olds now_lost
    pub merging : IsMerging olds news rest others (lost ++ now_lost) (gained ++ gained_by is_new node) (changes ++ step_changes below is_new node)

  pub merging_next : (items : List OldNode) (done up_to : ℕ) (lost gained : List Node) (changes : List (Change Link)) (xs : List NewPiece) (new : NewPiece) (others : List NewPiece) (lost_olds below : List OldNode) (is_new : Bool) → xs ≡ new ∷ others
      → IsMerging olds news (drop done items) xs lost gained changes
      → ((nodes : List Node) (node : Node) → Each IsOldNode (take (length items - done) (drop done items)) nodes → IsNewNode new node → AllByRecursion IsNode nodes → IsNode node
      → GoesOn nodes node lost_olds (drop up_to (take (length items - done) (drop done items))) (gained_by is_new node) (step_changes below is_new node))
      → MergesOn (drop (done + up_to) items) new others lost gained changes lost_olds below is_new
  merging_next items done up_to lost gained changes xs new others lost_olds below is_new next so step =
      by so.left_news (subst (λ (ns : List NewPiece). StandForNodes (drop done items) ns so.left_olds so.left_news) next so.left_stand) so.then_differ
    where
      slice : take (length items - done) (drop done items) ≡ drop done items
      slice = rest_is items done

      ahead : drop up_to (take (length items - done) (drop done items)) ≡ drop (done + up_to) items
      ahead = ap (drop up_to) slice ∙ drop-drop up_to done items

      by : (left_news : List Node) → StandForNodes (drop done items) (new ∷ others) so.left_olds left_news
          → ((later earned : List Node) (more : List (Change Link)) → Differ so.left_olds left_news later earned more → Differ olds news (lost ++ later) (gained ++ earned) (changes ++ more))
          → MergesOn (drop (done + up_to) items) new others lost gained changes lost_olds below is_new
      by [] stand then_all = absurd stand.news_stand
      by (n ∷ ns) stand then_all =
          let on = step so.left_olds n (subst (λ (os : List OldNode). Each IsOldNode os so.left_olds) (sym slice) stand.olds_stand) stand.news_stand.0 stand.old_are stand.new_are.0 in
          let added = step_changes below is_new n in
          let comes = gained_by is_new n in
          record {
            node = n;
            stands = stand.news_stand.0;
            now_lost = on.lost;
            lost_stand = on.lost_stand;
            merging = record {
              left_olds = on.others;
              left_news = ns;
              left_stand = record { olds_stand = subst (λ (os : List OldNode). Each IsOldNode os on.others) ahead on.stand; news_stand = stand.news_stand.1; old_are = on.are; new_are = stand.new_are.1 };
              then_differ = λ later earned more d.
                  subst (λ (cs : List (Change Link)). Differ olds news ((lost ++ on.lost) ++ later) ((gained ++ comes) ++ earned) cs) (sym (append_assoc changes added more))
                  (subst (λ (ls : List Node). Differ olds news ls ((gained ++ comes) ++ earned) (changes ++ (added ++ more))) (sym (append_assoc lost on.lost later))
                  (subst (λ (gs : List Node). Differ olds news (lost ++ (on.lost ++ later)) gs (changes ++ (added ++ more))) (sym (append_assoc gained comes earned))
                  (then_all (on.lost ++ later) (comes ++ earned) (added ++ more) (on.then_differ ns later earned more d))));
            };
          }

  -- what was found, once no new node is left
  pub record HasMerged (rest : List OldNode) (lost gained : List Node) (changes : List (Change Link)) : Type 0 where
    pub left : List Node
    pub left_stand : Each IsOldNode rest left
    pub parent_changes : Differ olds news (lost ++ left) gained (changes ++ gone_changes rest)

  pub merging_done : (rest : List OldNode) (xs : List NewPiece) (lost gained : List Node) (changes : List (Change Link)) → xs ≡ [] → IsMerging olds news rest xs lost gained changes → HasMerged rest lost gained changes
  merging_done rest xs lost gained changes end so = by so.left_news (subst (λ (ns : List NewPiece). StandForNodes rest ns so.left_olds so.left_news) end so.left_stand) so.then_differ
    where
      by : (left_news : List Node) → StandForNodes rest [] so.left_olds left_news
          → ((later earned : List Node) (more : List (Change Link)) → Differ so.left_olds left_news later earned more → Differ olds news (lost ++ later) (gained ++ earned) (changes ++ more)) → HasMerged rest lost gained changes
      by (n ∷ ns) stand then_all = absurd stand.news_stand
      by [] stand then_all = record {
        left = so.left_olds;
        left_stand = stand.olds_stand;
        parent_changes = subst (λ (gs : List Node). Differ olds news (lost ++ so.left_olds) gs (changes ++ gone_changes rest)) (append-nil gained)
            (subst (λ (cs : List (Change Link)). Differ olds news (lost ++ so.left_olds) (gained ++ []) (changes ++ cs)) (sym (gone_are rest so.left_olds stand.olds_stand))
            (then_all so.left_olds [] (map taken so.left_olds) (all_gone so.left_olds)));
      }

-- the item that comes next, and those after it
pub next_item : {X : Type 0} (xs items : List X) (i : ℕ) (x : X) → xs ≡ items → i < length xs → x ≡ get_or xs i x → drop i items ≡ x ∷ drop (i + 1) items
next_item {X} xs items i x are_items lt is =
    subst (λ (ys : List X). drop i ys ≡ x ∷ drop (i + 1) ys) are_items
    (drop-cons xs i x lt ∙ ap (λ (y : X). y ∷ drop (suc i) xs) (sym is) ∙ ap (λ n. x ∷ drop n xs) (sym (add-one i)))
