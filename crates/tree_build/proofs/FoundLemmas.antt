-- The ways to find the new tree's top.
use Rattle.std.proofs.Common.{◌≡◌, ℕ, zero, suc, ◌+◌, ◌-◌, ◌<◌, ◌≤◌, List, [], ◌∷◌, ◌++◌, length, get_or, ◌⊎◌, inl, inr, ◌↔◌, None, Result, Ok, Err, Bool, true, false, cond, eqb, eqb-true, refl, sym, ap, subst, ◌∙◌, arith}
use Rattle.std.specs.List.{AllByRecursion}
use Rattle.std.proofs.lemmas.List.{append-nil}
use Rattle.std.specs.Prelude.{IfOk, slice_set}
use Rattle.tree_node.specs.Digests.{digest}
use Rattle.tree_node.specs.Nodes.{Binding, IsNode, IsTree, Leaf, Node, level_of}
use Rattle.tree_node.specs.Trees.{HasTree, Two, level_at, level_over, levels, no_node, top_of}
use Rattle.tree_build.specs.internal.Edits.{Each, IsNewNode, IsOldNode}
use Rattle.tree_build.specs.internal.FoundTops.{AreOnce, HaveGained, IsFound, IsKept}
use Rattle.tree_build.specs.internal.Growing.{HasGrown, nodes_from}
use Rattle.tree_build.specs.internal.Shrinking.{HasShrunk, passed, stayed_at}
use Rattle.tree_build.specs.internal.Steps.{IsEdit}
use Rattle.tree_build.specs.internal.Telling.{node_digest}
use Rattle.tree_build.specs.internal.Towers.{tower}
use Rattle.tree_build.specs.internal.TreeEdits.{AreEdits}
use Rattle.tree_build.specs.internal.Weaving.{IsIn, Woven, none, left, right}
use Rattle.tree_build.specs.declared.piece.NewPiece.{NewPiece}
use Rattle.tree_build.specs.declared.step.LevelEdit.{LevelEdit}
use Rattle.tree_build.proofs.LastLemmas.{last_one, woven_count}
use Rattle.tree_build.proofs.LevelsLemmas.{all_nodes, all_rise, empty_tree, entries_under, height_is, in_none, in_range, level_in, low_or_past, next_is, no_entries, none_past, some_at, tower_in, tower_level, tower_none, tower_step, two_below}
use Rattle.tree_build.proofs.OldLevels.{old_few, tower_nodes, tower_rises}
use Rattle.tree_build.proofs.OnceLemmas.{in_append, once_append, rise_once}
use Rattle.tree_build.proofs.DescentLemmas.{lone}
use Rattle.tree_build.proofs.StepStates.{each_length}
use Rattle.tree_build.proofs.ToldLemmas.{kept_from}
use Rattle.tree_build.proofs.TowerLemmas.{one_over}
use Rattle.tree_build.proofs.WeaveLemmas.{in_back, in_front}

pub no_items : {X : Type 0} (xs : List X) → length xs < 1 → xs ≡ []
no_items [] lt = refl
no_items (x ∷ xs) lt = absurd (omega (arith, lt))

module _ (tree : ℕ) (entries after : List Binding) (has : HasTree entries) (after_has : HasTree after) (is_tree : IsTree tree) where
  abbrev old : List (List Node)
  old = levels Two tree entries

  abbrev new : List (List Node)
  new = levels Two tree after

  abbrev made : ℕ → List Node
  made = tower Two tree after

  made_nodes : (edits : List LevelEdit) → length edits ≤ length old → (l : ℕ) → l < length edits → AllByRecursion IsNode (made l)
  made_nodes edits within l lt = tower_nodes tree after after_has is_tree l (omega (arith, within, lt, old_few tree entries has))

  -- the digest of the top, from where it stands
  top_at : (ls : List (List Node)) (level : ℕ) (top : List ℕ) → length ls ≡ suc level → top ≡ node_digest (get_or (level_at ls level) 0 no_node) → top ≡ digest (top_of ls)
  top_at ls level top high is = let at : level ≡ length ls - 1 = omega (arith, high) in is ∙ ap (λ n. node_digest (get_or (level_at ls n) 0 no_node)) at

  -- ---- the old top stays

  module _ (edits : List LevelEdit) (are : AreEdits old made 0 edits) (some : 1 ≤ length edits) (within : length edits ≤ length old) (same : level_at old (length edits - 1) ≡ made (length edits - 1)) where
    last : ℕ
    last = length edits - 1

    same_from : (n : ℕ) → length edits - 1 + n < length old → made (length edits - 1 + n) ≡ level_at old (length edits - 1 + n)
    same_from zero lt = let at : length edits - 1 ≡ length edits - 1 + 0 = omega arith in subst (λ k. made k ≡ level_at old k) at (sym same)
    same_from (suc n) lt =
        let at : suc (length edits - 1 + n) ≡ length edits - 1 + suc n = omega arith in
        subst (λ k. made k ≡ level_at old k) at (
        tower_step tree after (length edits - 1 + n)
        ∙ ap (λ (ns : List Node). level_over Two tree (suc (length edits - 1 + n)) ns) (same_from n (omega (arith, lt)))
        ∙ sym (next_is tree entries (length edits - 1 + n) (omega (arith, lt)))
        )

    same_at : (l : ℕ) → length edits - 1 ≤ l → l < length old → made l ≡ level_at old l
    same_at l le lt = let at : length edits - 1 + (l - (length edits - 1)) ≡ l = omega (arith, le) in subst (λ k. made k ≡ level_at old k) at (same_from (l - (length edits - 1)) (omega (arith, at, lt)))

    some_after : 1 ≤ length after
    some_after = entries_under tree after (length edits - 1) (subst (λ (ns : List Node). 1 ≤ length ns) same (some_at tree entries (length edits - 1) (omega (arith, some, within))))

    top_same : made (length old - 1) ≡ level_at old (length old - 1)
    top_same = same_at (length old - 1) (omega (arith, within)) (omega (arith, some, within))

    top_one : length (made (length old - 1)) ≡ 1
    top_one = ap (length {A = Node}) top_same ∙ last_one tree entries

    first_one : (t : ℕ) → suc t ≡ length old → made t ≡ level_at old t → length (made t) ≡ 1 → (t ≡ 0) ⊎ (2 ≤ length (made (t - 1)))
    first_one zero high e one = inl refl
    first_one (suc t) high e one =
        let node = get_or (made (suc t)) 0 no_node in
        let alone : made (suc t) ≡ node ∷ [] = lone (made (suc t)) no_node one in
        let mine = one_over Two tree t (made t) node (sym (tower_step tree after t) ∙ alone) in
        let theirs = one_over Two tree t (level_at old t) node (sym (next_is tree entries t (omega (arith, high))) ∙ sym e ∙ alone) in
        let two = two_below tree entries t (omega (arith, high)) in
        let at : t ≡ suc t - 1 = omega arith in
        inr (subst (λ k. 2 ≤ length (made k)) at (omega (arith, mine, theirs, two)))

    height : length new ≡ length old
    height =
        let up : suc (length old - 1) ≡ length old = omega (arith, some, within) in
        height_is tree after some_after (length old - 1) top_one (first_one (length old - 1) up top_same top_one) ∙ up

    same_new : (l : ℕ) → length edits - 1 ≤ l → level_at new l ≡ level_at old l
    same_new l le = elim (low_or_past l (length old)) [
      | inl lt ↦ tower_in tree after some_after l (omega (arith, lt, height)) ∙ same_at l le lt
      | inr past ↦ none_past tree after l (omega (arith, past, height)) ∙ sym (none_past tree entries l past)
    ]

    pub found_stays : (added gone : List (List ℕ)) (top : List ℕ) → top ≡ digest (top_of old) → IsFound old new edits added added gone gone top (length edits - 1)
    found_stays added gone top top_is = record {
      levels = made;
      are = are;
      within = within;
      nodes = made_nodes edits within;
      rise = tower_rises tree after after_has;
      level_is = tower_level tree after;
      low = λ l le lt. sym (tower_in tree after some_after l (omega (arith, lt, within, height)));
      high = λ l gt lt. absurd (omega (arith, gt, lt));
      stays = λ l m le is. subst (λ (ns : List Node). IsIn m ns) (sym (same_new l (omega (arith, le)))) is;
      grown = [];
      grown_are = sym (append-nil added);
      grown_in = λ m. ((λ is. absurd is), (λ up. absurd (up.not_old (subst (λ (ns : List Node). IsIn m ns) (same_new up.level (omega (arith, up.above))) up.is))));
      grown_once = tt;
      passed = [];
      passed_are = sym (append-nil gone);
      passed_in = λ m. ((λ is. absurd is), (λ by. absurd (omega (arith, by.above, (kept_from old made 0 edits are by.level m by.kept).1))));
      passed_once = tt;
      top_is = top_is ∙ ap (λ n. node_digest (get_or (level_at old n) 0 no_node)) (ap (λ n. n - 1) (sym height)) ∙ ap (λ (ns : List Node). node_digest (get_or ns 0 no_node)) (sym (same_new (length new - 1) (omega (arith, height, within))));
    }

  -- ---- no entry is left

  pub edits_along : (one two : ℕ → List Node) (first : ℕ) (edits : List LevelEdit) → ((l : ℕ) → first ≤ l → one l ≡ two l) → AreEdits old one first edits → AreEdits old two first edits
  edits_along one two first [] equal are = tt
  edits_along one two first (e ∷ es) equal are = (
    subst (λ (ns : List Node). IsEdit (level_at old first) ns e) (equal first (omega arith)) are.0,
    edits_along one two (suc first) es (λ l le. equal l (omega (arith, le))) are.1,
  )

  none_kept : (kept came whole : List Node) → Woven kept came whole → whole ≡ [] → (kept ≡ []) × (came ≡ [])
  none_kept _ _ _ none e = (refl, refl)
  none_kept _ _ _ (left x xs ys zs w) e = absurd cc
  none_kept _ _ _ (right y xs ys zs w) e = absurd cc

  each_none : (news : List NewPiece) (came : List Node) → Each IsNewNode news came → came ≡ [] → news ≡ []
  each_none [] came all e = refl
  each_none (p ∷ ps) [] all e = absurd all
  each_none (p ∷ ps) (n ∷ ns) all e = absurd cc

  leaf_edit : (edit later : LevelEdit) (piece : NewPiece) (leaf : Node) (olds empty : List Node) → IsNewNode piece leaf → later.olds.items ≡ edit.olds.items → later.news.items ≡ edit.news.items ++ piece ∷ [] → IsEdit olds empty edit → empty ≡ []
      → IsEdit olds (leaf ∷ []) later
  leaf_edit edit later piece leaf olds empty stands olds_are news_are is e =
      let parts = none_kept is.kept is.came empty is.is e in
      let no_news = each_none edit.news.items is.came is.news_stand parts.1 in
      record {
        kept = [];
        opened = is.opened;
        came = leaf ∷ [];
        was = subst (λ (ns : List Node). Woven ns is.opened olds) parts.0 is.was;
        is = right leaf [] [] [] none;
        olds_stand = subst (λ os. Each IsOldNode os is.opened) (sym olds_are) is.olds_stand;
        news_stand = subst (λ (ps : List NewPiece). Each IsNewNode ps (leaf ∷ [])) (sym (news_are ∙ ap (λ (ps : List NewPiece). ps ++ piece ∷ []) no_news)) (stands, tt);
      }

  leaf_edits : (edits later : List LevelEdit) (piece : NewPiece) → IsNewNode piece (Leaf tree []) → HaveGained piece edits later → AreEdits old (tower Two tree []) 0 edits → AreEdits old (λ (l : ℕ). level_at (levels Two tree []) l) 0 later
  leaf_edits [] later piece stands gains are = absurd gains
  leaf_edits (e ∷ es) [] piece stands gains are = absurd gains
  leaf_edits (e ∷ es) (f ∷ fs) piece stands gains are =
      let empty : levels Two tree [] ≡ (Leaf tree [] ∷ []) ∷ [] = empty_tree tree in
      let edit = leaf_edit e f piece (Leaf tree []) (level_at old 0) (tower Two tree [] 0) stands gains.0 gains.1 are.0 (tower_none tree 0) in
      let rest = edits_along (tower Two tree []) (λ (l : ℕ). level_at ((Leaf tree [] ∷ []) ∷ []) l) 1 es (λ l le. tower_none tree l ∙ sym (above l le)) are.1 in
      subst (λ (ls : List (List Node)). AreEdits old (λ (l : ℕ). level_at ls l) 0 (f ∷ fs)) (sym empty)
      (edit, subst (λ (xs : List LevelEdit). AreEdits old (λ (l : ℕ). level_at ((Leaf tree [] ∷ []) ∷ []) l) 1 xs) (sym gains.2) rest)
    where
      above : (l : ℕ) → 1 ≤ l → level_at ((Leaf tree [] ∷ []) ∷ []) l ≡ []
      above zero le = absurd (omega (arith, le))
      above (suc l) le = refl

  gained_length : (piece : NewPiece) (edits later : List LevelEdit) → HaveGained piece edits later → length later ≡ length edits
  gained_length piece [] later gains = absurd gains
  gained_length piece (e ∷ es) [] gains = absurd gains
  gained_length piece (e ∷ es) (f ∷ fs) gains = ap (λ (xs : List LevelEdit). suc (length xs)) gains.2

  module _ (edits : List LevelEdit) (are : AreEdits old made 0 edits) (some : 1 ≤ length edits) (whole : length edits ≡ length old) where
    past_old : (l : ℕ) (m : Node) → length edits ≤ l → IsIn m (level_at old l) → ⊥
    past_old l m le is = in_none m (level_at old l) (none_past tree entries l (omega (arith, le, whole))) is

    pub found_emptied : made (length edits - 1) ≡ [] → (later : List LevelEdit) (piece : NewPiece) → IsNewNode piece (Leaf tree []) → HaveGained piece edits later → (added gone : List (List ℕ)) (top : List ℕ) → top ≡ node_digest (Leaf tree [])
        → IsFound old new later added added gone gone top 0
    found_emptied empty later piece stands gains added gone top top_is = by after (no_entries tree after (length edits - 1) empty) are
      where
        count : length later ≡ length edits
        count = gained_length piece edits later gains

        by : (es : List Binding) → es ≡ [] → AreEdits old (tower Two tree es) 0 edits → IsFound old (levels Two tree es) later added added gone gone top 0
        by (e ∷ es) is_empty was = absurd cc
        by [] is_empty was =
            let empty_is : levels Two tree [] ≡ (Leaf tree [] ∷ []) ∷ [] = empty_tree tree in
            let one : length (levels Two tree []) ≡ 1 = ap (length {A = List Node}) empty_is in
            let now = leaf_edits edits later piece stands gains was in
            let none_up : (l : ℕ) → 0 < l → level_at (levels Two tree []) l ≡ [] = λ (l : ℕ) (gt : 0 < l). none_past tree [] l (omega (arith, gt, one)) in
            let has_none : HasTree [] = record { rising = tt; fit = tt; few = omega arith } in
            record {
              levels = λ l. level_at (levels Two tree []) l;
              are = now;
              within = omega (arith, count, whole);
              nodes = λ l lt. all_nodes tree [] has_none is_tree l;
              rise = all_rise tree [] has_none;
              level_is = level_in tree [];
              low = λ l le lt. refl;
              high = λ l gt lt. none_up l gt;
              stays = λ l m le is. absurd (past_old l m (omega (arith, le, count)) is);
              grown = [];
              grown_are = sym (append-nil added);
              grown_in = λ m. ((λ is. absurd is), (λ up. absurd (in_none m (level_at (levels Two tree []) up.level) (none_up up.level (omega (arith, up.above, count, some))) up.is)));
              grown_once = tt;
              passed = [];
              passed_are = sym (append-nil gone);
              passed_in = λ m. (
                (λ is. absurd is),
                (λ by_it. absurd (in_none m (level_at (levels Two tree []) by_it.level) (none_up by_it.level by_it.above) (kept_from old (λ (l : ℕ). level_at (levels Two tree []) l) 0 later now by_it.level m by_it.kept).3)),
              );
              passed_once = tt;
              top_is = top_is ∙ ap (λ (ls : List (List Node)). digest (top_of ls)) (sym empty_is);
            }

    -- ---- levels were passed

    record IsBelowBy (stays : ℕ → List Node) (from steps : ℕ) (m : Node) : Type 0 where
      pub n : ℕ
      pub lt : n < steps
      pub is : IsIn m (stays (from - n))

    in_passed : (stays : ℕ → List Node) (from steps : ℕ) (m : Node) → IsIn m (passed stays from steps) ↔ IsBelowBy stays from steps m
    in_passed stays from zero m = ((λ is. absurd is), (λ b. absurd (omega (arith, b.lt))))
    in_passed stays from (suc steps) m =
        let rest = in_passed stays from steps m in (
          (λ is. elim (in_append m (passed stays from steps) (stays (from - steps)) is) [
            | inl before ↦ let b = rest.0 before in record { n = b.n; lt = omega (arith, b.lt); is = b.is }
            | inr here ↦ record { n = steps; lt = omega arith; is = here }
          ]),
          (λ b. elim (less b.n steps b.lt) [
            | inl lt ↦ in_front m (passed stays from steps) (stays (from - steps)) (rest.1 (record { n = b.n; lt = lt; is = b.is }))
            | inr same ↦ in_back m (passed stays from steps) (stays (from - steps)) (subst (λ k. IsIn m (stays (from - k))) same b.is)
          ]),
        )
      where
        less : (n k : ℕ) → n < suc k → (n < k) ⊎ (n ≡ k)
        less n k lt = grind arith

    passed_differ : (stays : ℕ → List Node) (from steps : ℕ) → steps ≤ from + 1 → ((l : ℕ) → AreOnce (stays l)) → ((l : ℕ) (m : Node) → IsIn m (stays l) → level_of m ≡ l) → AreOnce (passed stays from steps)
    passed_differ stays from zero le once at = tt
    passed_differ stays from (suc steps) le once at = once_append (passed stays from steps) (stays (from - steps)) (passed_differ stays from steps (omega (arith, le)) once at) (once (from - steps)) (λ m a b.
        let before = (in_passed stays from steps m).0 a in
        omega (arith, before.lt, le, at (from - before.n) m before.is, at (from - steps) m b))

    in_stayed : (first : ℕ) (es : List LevelEdit) (l : ℕ) (m : Node) → IsIn m (stayed_at made first es l) → IsIn m (made (first + l))
    in_stayed first [] l m is = absurd is
    in_stayed first (e ∷ es) zero m is = let at : first ≡ first + 0 = omega arith in subst (λ k. IsIn m (made k)) at (here (eqb (length e.news.items) 0) is)
      where
        here : (b : Bool) → IsIn m (cond b (made first) []) → IsIn m (made first)
        here true h = h
        here false h = absurd h
    in_stayed first (e ∷ es) (suc l) m is = let at : suc first + l ≡ first + suc l = omega arith in subst (λ k. IsIn m (made k)) at (in_stayed (suc first) es l m is)

    stayed_once : (first : ℕ) (es : List LevelEdit) (l : ℕ) → AreOnce (stayed_at made first es l)
    stayed_once first [] l = tt
    stayed_once first (e ∷ es) zero = here (eqb (length e.news.items) 0)
      where
        here : (b : Bool) → AreOnce (cond b (made first) [])
        here true = rise_once None (made first) (tower_rises tree after after_has first)
        here false = tt
    stayed_once first (e ∷ es) (suc l) = stayed_once (suc first) es l

    -- of a level with one node, this one has stayed where there are no new ones
    only_kept : (kept came whole : List Node) → Woven kept came whole → length came ≤ 0 → kept ≡ whole
    only_kept _ _ _ none le = refl
    only_kept _ _ _ (left x xs ys zs w) le = ap (λ (ws : List Node). x ∷ ws) (only_kept xs ys zs w le)
    only_kept _ _ _ (right y xs ys zs w) le = absurd (omega (arith, le))

    stayed_here : (kept came whole : List Node) (news : List NewPiece) (m : Node) → Woven kept came whole → Each IsNewNode news came → length whole ≡ 1 → IsIn m (cond (eqb (length news) 0) whole []) ↔ IsIn m kept
    stayed_here kept came all [] m w stand one =
        let equal = only_kept kept came all w (omega (arith, each_length IsNewNode [] came stand)) in
        ((λ is. subst (λ (ns : List Node). IsIn m ns) (sym equal) is), (λ is. subst (λ (ns : List Node). IsIn m ns) equal is))
    stayed_here kept came all (p ∷ ps) m w stand one =
        let few : length kept < 1 = omega (arith, woven_count kept came all w, one, each_length IsNewNode (p ∷ ps) came stand) in
        ((λ is. absurd (nothing (eqb (length (p ∷ ps)) 0) refl is)), (λ is. absurd (in_none m kept (no_items kept few) is)))
      where
        nothing : (b : Bool) → eqb (length (p ∷ ps)) 0 ≡ b → IsIn m (cond b all []) → ⊥
        nothing true e is = let zero_long : length (p ∷ ps) ≡ 0 = eqb-true (length (p ∷ ps)) 0 e in absurd (omega (arith, zero_long))
        nothing false e is = is

    kept_stayed : (first : ℕ) (es : List LevelEdit) (now : AreEdits old made first es) (n l : ℕ) (m : Node) → l ≡ first + n → length (made l) ≡ 1 → IsIn m (stayed_at made first es n) ↔ IsKept old made first es now l m
    kept_stayed first [] now n l m at one = ((λ is. is), (λ is. is))
    kept_stayed first (e ∷ es) now zero l m at one =
        let here : l ≡ first = omega (arith, at) in
        let so = stayed_here now.0.kept now.0.came (made first) e.news.items m now.0.is now.0.news_stand (ap (λ k. length (made k)) (sym here) ∙ one) in (
          (λ is. inl (here, so.0 is)),
          (λ is. elim is [ inl keeps ↦ so.1 keeps.1 | inr above ↦ absurd (omega (arith, here, (kept_from old made (suc first) es now.1 l m above).0)) ]),
        )
    kept_stayed first (e ∷ es) now (suc n) l m at one =
        let so = kept_stayed (suc first) es now.1 n l m (omega (arith, at)) one in (
          (λ is. inr (so.0 is)),
          (λ is. elim is [ inl keeps ↦ absurd (omega (arith, at, keeps.0)) | inr above ↦ so.1 above ]),
        )

    pub found_settled : (added gone gone_later : List (List ℕ)) (top : List ℕ) (level : ℕ) → HasShrunk made edits gone gone_later top level → IsFound old new edits added added gone gone_later top level
    found_settled added gone gone_later top level so =
        let here : level + 0 ≡ level = omega arith in
        let one : length (made level) ≡ 1 = ap (λ n. length (made n)) (sym here) ∙ so.one 0 (omega arith) in
        let some_after = entries_under tree after level (omega (arith, one)) in
        let height : length new ≡ suc level = height_is tree after some_after level one so.first in
        record {
          levels = made;
          are = are;
          within = omega (arith, whole);
          nodes = made_nodes edits (omega (arith, whole));
          rise = tower_rises tree after after_has;
          level_is = tower_level tree after;
          low = λ l le lt. sym (tower_in tree after some_after l (omega (arith, le, height)));
          high = λ l gt lt. none_past tree after l (omega (arith, gt, height));
          stays = λ l m le is. absurd (past_old l m le is);
          grown = [];
          grown_are = sym (append-nil added);
          grown_in = λ m. ((λ is. absurd is), (λ up. absurd (in_none m (level_at new up.level) (none_past tree after up.level (omega (arith, up.above, height, so.at))) up.is)));
          grown_once = tt;
          passed = passed (stayed_at made 0 edits) (length edits - 1) so.steps;
          passed_are = so.gone_are;
          passed_in = λ m. (
            (λ is.
                let b = (in_passed (stayed_at made 0 edits) (length edits - 1) so.steps m).0 is in
                let l = length edits - 1 - b.n in
                record { level = l; above = omega (arith, b.lt, so.at); kept = (kept_stayed 0 edits are l l m (omega arith) (one_at so l (omega (arith, b.lt, so.at)) (omega (arith, b.lt, so.at)))).0 b.is }),
            (λ p.
                let (from, to, of_old, of_new) = kept_from old made 0 edits are p.level m p.kept in
                let at : length edits - 1 - (length edits - 1 - p.level) ≡ p.level = omega (arith, to) in
                (in_passed (stayed_at made 0 edits) (length edits - 1) so.steps m).1 (record {
                  n = length edits - 1 - p.level;
                  lt = omega (arith, p.above, to, so.at);
                  is = subst (λ k. IsIn m (stayed_at made 0 edits k)) (sym at) ((kept_stayed 0 edits are p.level p.level m (omega arith) (one_at so p.level (omega (arith, p.above)) (omega (arith, to)))).1 p.kept);
                })),
          );
          passed_once = passed_differ (stayed_at made 0 edits) (length edits - 1) so.steps (omega (arith, so.at)) (stayed_once 0 edits)
              (λ l m is. let at : 0 + l ≡ l = omega arith in tower_level tree after l m (subst (λ k. IsIn m (made k)) at (in_stayed 0 edits l m is)));
          top_is = top_at new level top height (so.top_is ∙ ap (λ (ns : List Node). node_digest (get_or ns 0 no_node)) (sym (tower_in tree after some_after level (omega (arith, height)))));
        }
      where
        one_at : (so : HasShrunk made edits gone gone_later top level) (l : ℕ) → level ≤ l → l < length edits → length (made l) ≡ 1
        one_at so l ge lt = let at : level + (l - level) ≡ l = omega (arith, ge) in ap (λ k. length (made k)) (sym at) ∙ so.one (l - level) (omega (arith, ge, lt, so.at))

    -- ---- levels were made above

    record IsOverBy (first steps : ℕ) (m : Node) : Type 0 where
      pub n : ℕ
      pub lt : n < steps
      pub is : IsIn m (made (first + n))

    in_over : (first steps : ℕ) (m : Node) → IsIn m (nodes_from made first steps) ↔ IsOverBy first steps m
    in_over first zero m = ((λ is. absurd is), (λ b. absurd (omega (arith, b.lt))))
    in_over first (suc steps) m =
        let rest = in_over first steps m in (
          (λ is. elim (in_append m (nodes_from made first steps) (made (first + steps)) is) [
            | inl before ↦ let b = rest.0 before in record { n = b.n; lt = omega (arith, b.lt); is = b.is }
            | inr here ↦ record { n = steps; lt = omega arith; is = here }
          ]),
          (λ b. elim (less b.n steps b.lt) [
            | inl lt ↦ in_front m (nodes_from made first steps) (made (first + steps)) (rest.1 (record { n = b.n; lt = lt; is = b.is }))
            | inr same ↦ in_back m (nodes_from made first steps) (made (first + steps)) (subst (λ k. IsIn m (made (first + k))) same b.is)
          ]),
        )
      where
        less : (n k : ℕ) → n < suc k → (n < k) ⊎ (n ≡ k)
        less n k lt = grind arith

    over_once : (first steps : ℕ) → AreOnce (nodes_from made first steps)
    over_once first zero = tt
    over_once first (suc steps) = once_append (nodes_from made first steps) (made (first + steps)) (over_once first steps) (rise_once None (made (first + steps)) (tower_rises tree after after_has (first + steps))) (λ m a b.
        let before = (in_over first steps m).0 a in
        omega (arith, before.lt, tower_level tree after (first + before.n) m before.is, tower_level tree after (first + steps) m b))

    pub found_grown : (before : ℕ) → before + 1 ≡ length edits → 2 ≤ length (made before) → (added added_later gone : List (List ℕ)) (top : List ℕ) → HasGrown made before added added_later top → IsFound old new edits added added_later gone gone top before
    found_grown before at two added added_later gone top so =
        let some_after = entries_under tree after before (omega (arith, two)) in
        let height : length new ≡ suc (before + so.steps) = height_is tree after some_after (before + so.steps) so.one (first_one so.steps so.one so.more) in
        record {
          levels = made;
          are = are;
          within = omega (arith, whole);
          nodes = made_nodes edits (omega (arith, whole));
          rise = tower_rises tree after after_has;
          level_is = tower_level tree after;
          low = λ l le lt. sym (tower_in tree after some_after l (omega (arith, le, height)));
          high = λ l gt lt. absurd (omega (arith, gt, lt, at));
          stays = λ l m le is. absurd (past_old l m le is);
          grown = nodes_from made (suc before) so.steps;
          grown_are = so.come;
          grown_in = λ m. (
            (λ is.
                let b = (in_over (suc before) so.steps m).0 is in
                record {
                  level = suc before + b.n;
                  above = omega (arith, at);
                  is = subst (λ (ns : List Node). IsIn m ns) (sym (tower_in tree after some_after (suc before + b.n) (omega (arith, b.lt, height)))) b.is;
                  not_old = past_old (suc before + b.n) m (omega (arith, at));
                }),
            (λ up.
                let lt = in_range tree after up.level m up.is in
                let here : suc before + (up.level - suc before) ≡ up.level = omega (arith, at, up.above) in
                (in_over (suc before) so.steps m).1 (record {
                  n = up.level - suc before;
                  lt = omega (arith, lt, height, at, up.above);
                  is = subst (λ k. IsIn m (made k)) (sym here) (subst (λ (ns : List Node). IsIn m ns) (tower_in tree after some_after up.level lt) up.is);
                })),
          );
          grown_once = over_once (suc before) so.steps;
          passed = [];
          passed_are = sym (append-nil gone);
          passed_in = λ m. ((λ is. absurd is), (λ by. absurd (omega (arith, by.above, at, (kept_from old made 0 edits are by.level m by.kept).1))));
          passed_once = tt;
          top_is = top_at new (before + so.steps) top height (so.top_is ∙ ap (λ (ns : List Node). node_digest (get_or ns 0 no_node)) (sym (tower_in tree after some_after (before + so.steps) (omega (arith, height)))));
        }
      where
        first_one : (steps : ℕ) → length (made (before + steps)) ≡ 1 → ((level : ℕ) → level < steps → 2 ≤ length (made (before + level))) → (before + steps ≡ 0) ⊎ (2 ≤ length (made (before + steps - 1)))
        first_one zero one more = let same : before + 0 ≡ before = omega arith in absurd (omega (arith, two, ap (λ n. length (made n)) same, one))
        first_one (suc steps) one more = let same : before + steps ≡ before + suc steps - 1 = omega arith in inr (subst (λ k. 2 ≤ length (made k)) same (more steps (omega arith)))

pub gained_set : (piece : NewPiece) (edits : List LevelEdit) (edit later : LevelEdit) → 1 ≤ length edits → edit ≡ get_or edits 0 edit → (later.olds.items ≡ edit.olds.items) × (later.news.items ≡ edit.news.items ++ piece ∷ [])
    → HaveGained piece edits (slice_set edits 0 later)
gained_set piece [] edit later some is more = absurd (omega (arith, some))
gained_set piece (e ∷ es) edit later some is more = (more.0 ∙ ap (λ (x : LevelEdit). x.olds.items) is, more.1 ∙ ap (λ (x : LevelEdit). x.news.items ++ piece ∷ []) is, refl)

pub none_stand : (news : List NewPiece) (nodes : List Node) → Each IsNewNode news nodes → length news < 1 → nodes ≡ []
none_stand [] [] all lt = refl
none_stand [] (n ∷ ns) all lt = absurd all
none_stand (p ∷ ps) nodes all lt = absurd (omega (arith, lt))

-- what is so of a result where it is there
pub if_ok : {X E : Type 0} (P Q : X → Type 0) (r : Result X E) → ((x : X) → P x → Q x) → IfOk r P → IfOk r Q
if_ok P Q (Ok x) more is = more x is
if_ok P Q (Err e) more is = is
