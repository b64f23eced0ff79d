-- What is told of a rebuild is what was rebuilt.
use Rattle.std.proofs.Common.{◌≡◌, ℕ, zero, suc, ◌<◌, List, [], ◌∷◌, ◌++◌, length, get_or, map, inl, inr, ◌↔◌, IsTrue, Bool, true, false, Option, None, Some, refl, sym, ap, subst, ◌∙◌, arith}
use Rattle.std.proofs.lemmas.List.{map-append}
use Rattle.std.specs.Bool.{then_some}
use Rattle.std.specs.Prelude.{IfSome}
use Rattle.tree_node.specs.declared.digest.Digest.{Digest}
use Rattle.tree_node.specs.Digests.{digest}
use Rattle.tree_node.specs.Nodes.{Binding, IsTree, Node, level_of, spelling}
use Rattle.tree_node.specs.Shelves.{IsClashFree}
use Rattle.tree_node.specs.Trees.{HasTree, IsNodeOf, Two, level_at, levels, no_node}
use Rattle.tree_build.specs.Changing.{Change}
use Rattle.tree_build.specs.Rebuilding.{AreDifferent, IsAmong, IsOldTree, IsRebuilt, changed_entries, digests_of, nodes_of}
use Rattle.tree_build.specs.declared.levels.TreeEdit.{TreeEdit}
use Rattle.tree_build.specs.declared.rebuilt.Rebuilt.{Rebuilt}
use Rattle.tree_build.specs.declared.step.LevelEdit.{LevelEdit}
use Rattle.tree_build.specs.internal.FoundTops.{AreOnce, CanFindTop, IsFound, IsOpened}
use Rattle.tree_build.specs.internal.Telling.{node_digest}
use Rattle.tree_build.specs.internal.TreeEdits.{HasTreeEdit}
use Rattle.tree_build.specs.internal.TreeTelling.{HaveTold}
use Rattle.tree_build.specs.internal.Weaving.{IsIn}
use Rattle.tree_build.proofs.LevelsLemmas.{all_rise, in_none, in_range, level_in, low_or_past, nodes_in}
use Rattle.tree_build.proofs.OnceLemmas.{from_among, in_append, once_append, said_once, to_among}
use Rattle.tree_build.proofs.ParentLemmas.{one_spelling}
use Rattle.tree_build.proofs.ShrinkLemmas.{in_place}
use Rattle.tree_build.proofs.ToldLemmas.{IsAllTold, all_told, kept_from, kept_or_opened, not_both, opened_from}
use Rattle.tree_build.proofs.WeaveLemmas.{in_back, in_front}

-- ---- nodes of the one tree that the other hasn't

pub record IsOnlyIn (one two : List (List Node)) (m : Node) : Type 0 where
  pub level : ℕ
  pub is : IsIn m (level_at one level)
  pub not_other : ¬ IsIn m (level_at two level)

at_place : {X : Type 0} (xs : List X) (n : ℕ) (d : X) → n < length xs → IsIn (get_or xs n d) xs
at_place [] n d lt = absurd (omega (arith, lt))
at_place (x ∷ xs) zero d lt = inl refl
at_place (x ∷ xs) (suc n) d lt = inr (at_place xs n d (omega (arith, lt)))

module _ (tree : ℕ) (xs : List Binding) where
  pub node_of : (level : ℕ) (m : Node) → IsIn m (level_at (levels Two tree xs) level) → IsNodeOf (levels Two tree xs) (spelling m)
  node_of level m is =
      let found = in_place m (level_at (levels Two tree xs) level) no_node is in
      (level, found.place, (in_range tree xs level m is, found.within, ap spelling (sym found.at)))

pub record IsSpelled (one two : List (List Node)) (bytes : List ℕ) : Type 0 where
  pub node : Node
  pub only : IsOnlyIn one two node
  pub said : bytes ≡ spelling node

module _ (tree : ℕ) (is_tree : IsTree tree) (xs ys : List Binding) (has_x : HasTree xs) (has_y : HasTree ys) where
  pub not_of : (m : Node) → IsOnlyIn (levels Two tree xs) (levels Two tree ys) m → IsNodeOf (levels Two tree ys) (spelling m) → ⊥
  not_of m o (level, place, (lt, lp, same)) =
      let other = get_or (level_at (levels Two tree ys) level) place no_node in
      let there = at_place (level_at (levels Two tree ys) level) place no_node lp in
      let equal : m ≡ other = one_spelling m other (nodes_in tree xs has_x is_tree o.level m o.is) (nodes_in tree ys has_y is_tree level other there) same in
      let at : level ≡ o.level = sym (level_in tree ys level other there) ∙ ap level_of (sym equal) ∙ level_in tree xs o.level m o.is in
      o.not_other (subst (λ k. IsIn m (level_at (levels Two tree ys) k)) at (subst (λ (n : Node). IsIn n (level_at (levels Two tree ys) level)) (sym equal) there))

  pub spelled : (bytes : List ℕ) → IsNodeOf (levels Two tree xs) bytes → (IsNodeOf (levels Two tree ys) bytes → ⊥) → IsSpelled (levels Two tree xs) (levels Two tree ys) bytes
  spelled bytes (level, place, (lt, lp, same)) not =
      let node = get_or (level_at (levels Two tree xs) level) place no_node in
      record {
        node = node;
        only = record {
          level = level;
          is = at_place (level_at (levels Two tree xs) level) place no_node lp;
          not_other = λ is. not (subst (λ (bs : List ℕ). IsNodeOf (levels Two tree ys) bs) (sym same) (node_of tree ys level node is));
        };
        said = same;
      }

module _ (held : List ℕ → Type 0) (old_top : List ℕ) (changes : List (Change Binding)) (tree : ℕ) (entries : List Binding) (is : IsOldTree held old_top changes tree entries) (free : IsClashFree held)
    (edits : List LevelEdit) (mid later gone lost_later : List (List ℕ)) (top : List ℕ) (level : ℕ)
    (found : IsFound (levels Two tree entries) (levels Two tree (changed_entries entries changes)) edits [] mid [] gone top level)
    (tells : HaveTold (levels Two tree entries) found.levels level 0 edits found.are mid later gone lost_later) where
  abbrev old : List (List Node)
  old = levels Two tree entries

  abbrev new : List (List Node)
  new = levels Two tree (changed_entries entries changes)

  told : IsAllTold old found.levels level 0 edits found.are mid later gone lost_later
  told = all_told old found.levels level (all_rise tree entries is.has) found.rise (level_in tree entries) found.level_is 0 edits found.are mid later gone lost_later tells

  all_added : List Node
  all_added = found.grown ++ told.gained

  all_gone : List Node
  all_gone = found.passed ++ told.lost

  in_added : (m : Node) → IsIn m (found.grown ++ told.gained) ↔ IsOnlyIn new old m
  in_added m = (
    (λ here. elim (in_append m found.grown told.gained here) [
      | inl grows ↦ let up = (found.grown_in m).0 grows in record { level = up.level; is = up.is; not_other = up.not_old }
      | inr gains ↦ let g = (told.in_gained m).0 gains in
          record { level = g.level; is = subst (λ (ns : List Node). IsIn m ns) (found.low g.level g.low (omega (arith, g.to))) g.is; not_other = g.not_old }
    ]),
    (λ o. elim (low_or_past o.level (length edits)) [
      | inr past ↦ in_front m found.grown told.gained ((found.grown_in m).1 (record { level = o.level; above = past; is = o.is; not_old = o.not_other }))
      | inl lt ↦ elim (low_or_past o.level (suc level)) [
        | inl le ↦ in_back m found.grown told.gained ((told.in_gained m).1 (record {
          level = o.level;
          from = omega arith;
          to = omega (arith, lt);
          low = omega (arith, le);
          is = subst (λ (ns : List Node). IsIn m ns) (sym (found.low o.level (omega (arith, le)) lt)) o.is;
          not_old = o.not_other;
        }))
        | inr gt ↦ absurd (in_none m (level_at new o.level) (found.high o.level gt lt) o.is)
      ]
    ]),
  )

  in_gone : (m : Node) → IsIn m (found.passed ++ told.lost) ↔ IsOnlyIn old new m
  in_gone m = (
    (λ here. elim (in_append m found.passed told.lost here) [
      | inl passes ↦
          let p = (found.passed_in m).0 passes in
          let (from, to, of_old, of_new) = kept_from old found.levels 0 edits found.are p.level m p.kept in
          record { level = p.level; is = of_old; not_other = λ n. in_none m (level_at new p.level) (found.high p.level p.above (omega (arith, to))) n }
      | inr loses ↦
          let g = (told.in_lost m).0 loses in
          elim g.goes [
            | inl low ↦ record { level = g.level; is = low.1; not_other = λ n. low.2 (subst (λ (ns : List Node). IsIn m ns) (sym (found.low g.level low.0 (omega (arith, g.to)))) n) }
            | inr high ↦ record {
              level = g.level;
              is = (opened_from old found.levels 0 edits found.are g.level m high.1).2;
              not_other = λ n. in_none m (level_at new g.level) (found.high g.level high.0 (omega (arith, g.to))) n;
            }
          ]
    ]),
    (λ o. elim (low_or_past o.level (length edits)) [
      | inr past ↦ absurd (o.not_other (found.stays o.level m past o.is))
      | inl lt ↦ elim (low_or_past o.level (suc level)) [
        | inl le ↦ in_back m found.passed told.lost ((told.in_lost m).1 (record {
          level = o.level;
          from = omega arith;
          to = omega (arith, lt);
          goes = inl (omega (arith, le), o.is, λ n. o.not_other (subst (λ (ns : List Node). IsIn m ns) (found.low o.level (omega (arith, le)) lt) n));
        }))
        | inr gt ↦ elim (kept_or_opened old found.levels 0 edits found.are o.level m (omega arith) (omega (arith, lt)) o.is) [
          | inl keeps ↦ in_front m found.passed told.lost ((found.passed_in m).1 (record { level = o.level; above = gt; kept = keeps }))
          | inr opens ↦ in_back m found.passed told.lost ((told.in_lost m).1 (record { level = o.level; from = omega arith; to = omega (arith, lt); goes = inr (gt, opens) }))
        ]
      ]
    ]),
  )

  once_added : AreOnce (found.grown ++ told.gained)
  once_added = once_append found.grown told.gained found.grown_once told.gained_once (λ m a b.
      let up = (found.grown_in m).0 a in
      let g = (told.in_gained m).0 b in
      omega (arith, level_in tree (changed_entries entries changes) up.level m up.is, found.level_is g.level m g.is, up.above, g.to))

  once_gone : AreOnce (found.passed ++ told.lost)
  once_gone = once_append found.passed told.lost found.passed_once told.lost_once (λ m a b.
      let p = (found.passed_in m).0 a in
      let (from, to, of_old, of_new) = kept_from old found.levels 0 edits found.are p.level m p.kept in
      let g = (told.in_lost m).0 b in
      let here = level_in tree entries p.level m of_old in
      elim g.goes [
        | inl low ↦ omega (arith, here, level_in tree entries g.level m low.1, low.0, p.above)
        | inr high ↦
            let there : g.level ≡ p.level = omega (arith, here, level_in tree entries g.level m (opened_from old found.levels 0 edits found.are g.level m high.1).2) in
            not_both old found.levels (all_rise tree entries is.has) 0 edits found.are p.level m p.kept (subst (λ k. IsOpened old found.levels 0 edits found.are k m) there high.1)
      ])

  added_are : later ≡ map spelling (found.grown ++ told.gained)
  added_are = told.added_are ∙ ap (λ (bs : List (List ℕ)). bs ++ map spelling told.gained) found.grown_are ∙ sym (map-append spelling found.grown told.gained)

  gone_are : lost_later ≡ map node_digest (found.passed ++ told.lost)
  gone_are = told.gone_are ∙ ap (λ (bs : List (List ℕ)). bs ++ map node_digest told.lost) found.passed_are ∙ sym (map-append node_digest found.passed told.lost)

  pub is_rebuilt : (rebuilt : Rebuilt) → rebuilt.top.0 ≡ top → nodes_of rebuilt.added.items ≡ later → digests_of rebuilt.gone.items ≡ lost_later → IsRebuilt old new rebuilt
  is_rebuilt rebuilt top_is added_is gone_is =
      let added_all = added_is ∙ added_are in
      let gone_all = gone_is ∙ gone_are in
      let after = changed_entries entries changes in
      record {
        top = top_is ∙ found.top_is;
        added = λ bytes. (
          (λ among.
              let f = from_among spelling (found.grown ++ told.gained) bytes (subst (λ (bs : List (List ℕ)). IsAmong bs bytes) added_all among) in
              let o = (in_added f.node).0 f.is in (
                subst (λ (bs : List ℕ). IsNodeOf new bs) (sym f.said) (node_of tree after o.level f.node o.is),
                λ of_old. not_of tree is.is_tree after entries is.changed_has is.has f.node o (subst (λ (bs : List ℕ). IsNodeOf old bs) f.said of_old),
              )),
          (λ both.
              let s = spelled tree is.is_tree after entries is.changed_has is.has bytes both.0 both.1 in
              subst (λ (bs : List (List ℕ)). IsAmong bs bytes) (sym added_all) (subst (λ (b : List ℕ). IsAmong (map spelling (found.grown ++ told.gained)) b) (sym s.said)
              (to_among spelling (found.grown ++ told.gained) s.node ((in_added s.node).1 s.only)))),
        );
        added_once = subst AreDifferent (sym added_all) (said_once spelling (found.grown ++ told.gained) once_added (λ a b p q same.
            let one = (in_added a).0 p in
            let two = (in_added b).0 q in
            one_spelling a b (nodes_in tree after is.changed_has is.is_tree one.level a one.is) (nodes_in tree after is.changed_has is.is_tree two.level b two.is) same));
        gone = λ key. (
          (λ among.
              let f = from_among node_digest (found.passed ++ told.lost) key (subst (λ (bs : List (List ℕ)). IsAmong bs key) gone_all among) in
              let o = (in_gone f.node).0 f.is in (
                spelling f.node,
                node_of tree entries o.level f.node o.is,
                (λ of_new. not_of tree is.is_tree entries after is.has is.changed_has f.node o of_new),
                f.said,
              )),
          (λ (bytes, of_old, not_new, key_is).
              let s = spelled tree is.is_tree entries after is.has is.changed_has bytes of_old not_new in
              subst (λ (bs : List (List ℕ)). IsAmong bs key) (sym gone_all) (subst (λ (b : List ℕ). IsAmong (map node_digest (found.passed ++ told.lost)) b) (sym (key_is ∙ ap digest s.said))
              (to_among node_digest (found.passed ++ told.lost) s.node ((in_gone s.node).1 s.only)))),
        );
        gone_once = subst AreDifferent (sym gone_all) (said_once node_digest (found.passed ++ told.lost) once_gone (λ a b p q same.
            let one = (in_gone a).0 p in
            let two = (in_gone b).0 q in
            one_spelling a b (nodes_in tree entries is.has is.is_tree one.level a one.is) (nodes_in tree entries is.has is.is_tree two.level b two.is)
            (free (spelling a) (spelling b) (is.holds (spelling a) (node_of tree entries one.level a one.is)) (is.holds (spelling b) (node_of tree entries two.level b two.is)) same)));
      }

-- ---- whether the old top stays

-- the top is found from the edits of a tree
pub can_find_top : (held : List ℕ → Type 0) (top : List ℕ) (changes : List (Change Binding)) (tree : ℕ) (entries : List Binding) (edited : TreeEdit) (given : Option Digest) → HasTreeEdit held top changes tree entries edited
    → (given ≡ None → edited.stays ≡ false) → CanFindTop held top changes tree entries given edited.edits.items
can_find_top held top changes tree entries edited given has none =
    record { is = has.is; are = has.edit.are; opened = has.edit.opened; some = has.edit.some; high = has.edit.within; whole = λ e. has.edit.whole (none e) }

pub none_stays : (b : Bool) (top : Digest) (o : Option Digest) → o ≡ then_some b top → o ≡ None → b ≡ false
none_stays true top o is none = absurd (let t : Some top ≡ None = sym is ∙ none in cc)
none_stays false top o is none = refl

pub some_stays : (P : Digest → Type 0) (b : Bool) (top : Digest) (o : Option Digest) → o ≡ then_some b top → (IsTrue b → P top) → IfSome o P
some_stays P true top o is then = subst (λ (x : Option Digest). IfSome x P) (sym is) (then refl)
some_stays P false top o is then = subst (λ (x : Option Digest). IfSome x P) (sym is) tt
