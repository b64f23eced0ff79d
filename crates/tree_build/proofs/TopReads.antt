-- What is read on the way down to the new tree's top.
use Rattle.std.proofs.Common.{◌≡◌, ℕ, zero, suc, ◌+◌, ◌-◌, ◌<◌, ◌≤◌, List, [], ◌∷◌, length, get_or, ◌⊎◌, inl, inr, Result, Ok, Err, refl, sym, ap, subst, ◌∙◌, arith}
use Rattle.std.specs.Prelude.{IfOk}
use Rattle.tree_node.specs.Nodes.{Binding, Node, spelling}
use Rattle.tree_node.specs.Trees.{Two, level_at, levels, no_node}
use Rattle.tree_build.specs.internal.FoundTops.{IsTopRead}
use Rattle.tree_build.specs.internal.Shrinking.{HasShrunk, IsReadBy}
use Rattle.tree_build.specs.internal.Steps.{IsEdit}
use Rattle.tree_build.specs.internal.Towers.{tower}
use Rattle.tree_build.specs.internal.TreeEdits.{AreEdits}
use Rattle.tree_build.specs.internal.Weaving.{IsIn}
use Rattle.tree_build.specs.declared.piece.NewPiece.{NewPiece}
use Rattle.tree_build.specs.declared.step.LevelEdit.{LevelEdit}
use Rattle.tree_build.proofs.LevelsLemmas.{entries_under, height_is, in_none, none_past, tower_in}
use Rattle.tree_build.proofs.DescentLemmas.{lone}
use Rattle.tree_build.proofs.FoundLemmas.{none_stand}
use Rattle.tree_build.proofs.ShrinkLemmas.{edit_at}
use Rattle.tree_build.proofs.WeaveLemmas.{in_woven, woven_first}

any_default : {X : Type 0} (xs : List X) (n : ℕ) (a b : X) → n < length xs → get_or xs n a ≡ get_or xs n b
any_default [] n a b lt = absurd (omega arith)
any_default (x ∷ xs) zero a b lt = refl
any_default (x ∷ xs) (suc n) a b lt = any_default xs n a b (omega (arith, lt))

up_or_here : (level at : ℕ) → level ≤ at → (level < at) ⊎ (at ≡ level)
up_or_here level at le = grind arith

module _ (tree : ℕ) (entries after : List Binding) (edits : List LevelEdit) (are : AreEdits (levels Two tree entries) (tower Two tree after) 0 edits) (whole : length edits ≡ length (levels Two tree entries))
    (gone later : List (List ℕ)) (top : List ℕ) (level : ℕ) (so : HasShrunk (tower Two tree after) edits gone later top level) where
  abbrev old : List (List Node)
  old = levels Two tree entries

  abbrev new : List (List Node)
  new = levels Two tree after

  abbrev made : ℕ → List Node
  made = tower Two tree after

  one_at : (l : ℕ) → level ≤ l → l < length edits → length (made l) ≡ 1
  one_at l ge lt = let at : level + (l - level) ≡ l = omega (arith, ge) in ap (λ k. length (made k)) (sym at) ∙ so.one (l - level) (omega (arith, ge, lt, so.at))

  some_after : 1 ≤ length after
  some_after = entries_under tree after level (let one = one_at level (omega arith) (omega (arith, so.at)) in omega (arith, one))

  height : length new ≡ suc level
  height = height_is tree after some_after level (one_at level (omega arith) (omega (arith, so.at))) so.first

  -- the node has stayed
  stays_old : (bytes : List ℕ) (by : IsReadBy made edits level bytes) → IsIn (get_or (made by.at) 0 no_node) (level_at old by.at)
  stays_old bytes by =
      let edit = edit_at old made 0 by.at edits by.edit are by.high by.edit_is in
      let at : 0 + by.at ≡ by.at = omega arith in
      let here = subst (λ k. IsEdit (level_at old k) (made k) by.edit) at edit in
      let node = get_or (made by.at) 0 no_node in
      let alone : made by.at ≡ node ∷ [] = lone (made by.at) no_node (one_at by.at by.low by.high) in
      let is : IsIn node (made by.at) = subst (λ (ns : List Node). IsIn node ns) (sym alone) (inl refl) in
      elim (in_woven node here.kept here.came (made by.at) here.is is) [
        | inl keeps ↦ woven_first node here.kept here.opened (level_at old by.at) here.was keeps
        | inr comes ↦ absurd (in_none node here.came (none_stand by.edit.news.items here.came here.news_stand (omega (arith, ap (length {A = NewPiece}) by.none_new))) comes)
      ]

  -- where the last level has a new node, what is read is gone or the top of a lower tree
  pub settled_read : (last : LevelEdit) (n : ℕ) → n + 1 ≡ length edits → last ≡ get_or edits n last → (piece : NewPiece) → last.news.items ≡ piece ∷ [] → (bytes : List ℕ) → IsReadBy (tower Two tree after) edits level bytes
      → IsTopRead (levels Two tree entries) (levels Two tree after) bytes
  settled_read last n count last_is piece one bytes by =
      let node = get_or (made by.at) 0 no_node in
      elim (up_or_here level by.at by.low) [
        | inl above ↦ inl (record {
          level = by.at;
          node = node;
          is = stays_old bytes by;
          not_new = λ in_new. in_none node (level_at new by.at) (none_past tree after by.at (omega (arith, height, above))) in_new;
          spelled = by.spelled;
        })
        | inr here ↦ inr (
          lower here,
          by.spelled ∙ ap (λ (ns : List Node). spelling (get_or ns 0 no_node)) (ap made here ∙ sym (tower_in tree after some_after level (omega (arith, height))))
              ∙ ap (λ k. spelling (get_or (level_at new k) 0 no_node)) at_top,
        )
      ]
    where
      at_top : level ≡ length new - 1
      at_top = omega (arith, height)

      not_last : by.at ≡ n → ⊥
      not_last same =
          let equal : by.edit ≡ last = by.edit_is ∙ any_default edits by.at by.edit last by.high ∙ ap (λ k. get_or edits k last) same ∙ sym last_is in
          never (ap (λ (e : LevelEdit). e.news.items) (sym equal))
        where
          never : last.news.items ≡ by.edit.news.items → ⊥
          never e = let both : piece ∷ [] ≡ [] = sym one ∙ e ∙ by.none_new in cc

      lower : by.at ≡ level → length new < length old
      lower here = elim (apart by.at n (omega (arith, by.high, count))) [
        | inl lt ↦ omega (arith, lt, here, height, whole, count)
        | inr same ↦ absurd (not_last same)
      ]
        where
          apart : (a b : ℕ) → a ≤ b → (a < b) ⊎ (a ≡ b)
          apart a b le = grind arith

-- what is so of a result where it is there, by two facts
pub if_ok_both : {X E : Type 0} (P Q R : X → Type 0) (r : Result X E) → ((x : X) → P x → Q x → R x) → IfOk r P → IfOk r Q → IfOk r R
if_ok_both P Q R (Ok x) more one two = more x one two
if_ok_both P Q R (Err e) more one two = one
