-- The last level that a rebuild changes, where it is the old top's: its new nodes are all of its nodes.
use Rattle.std.proofs.Common.{◌≡◌, ℕ, zero, suc, ◌+◌, ◌-◌, ◌<◌, ◌≤◌, List, [], ◌∷◌, length, get_or, refl, sym, ap, subst, ◌∙◌, arith}
use Rattle.tree_node.specs.Nodes.{Binding, Node}
use Rattle.tree_node.specs.Trees.{Two, leaves, level_at, levels, no_node}
use Rattle.tree_node.proofs.shared.TreeLaws.{above as over, last_has_one}
use Rattle.tree_node.proofs.shared.TreeLemmas.{tree_levels}
use Rattle.tree_node.specs.Digests.{digest}
use Rattle.tree_build.specs.internal.Edits.{Each, IsNewNode, IsOldNode}
use Rattle.tree_build.specs.internal.Steps.{IsEdit}
use Rattle.tree_build.specs.internal.Telling.{node_digest}
use Rattle.tree_build.specs.internal.TreeEdits.{AreEdits, HaveOpened}
use Rattle.tree_build.specs.internal.Weaving.{Woven, none, left, right}
use Rattle.tree_build.specs.declared.piece.NewPiece.{NewPiece}
use Rattle.tree_build.specs.declared.step.LevelEdit.{LevelEdit}
use Rattle.tree_build.proofs.ShrinkLemmas.{edit_at}
use Rattle.tree_build.proofs.StepStates.{each_length}

pub last_one : (tree : ℕ) (entries : List Binding) → length (level_at (levels Two tree entries) (length (levels Two tree entries) - 1)) ≡ 1
unfolding levels
last_one tree entries = last_has_one Two tree 1 (leaves Two tree entries) (over Two tree entries) (tree_levels Two tree entries)

pub woven_count : {X : Type 0} (xs ys zs : List X) → Woven xs ys zs → length xs + length ys ≡ length zs
woven_count _ _ _ none = omega arith
woven_count _ _ _ (left x xs ys zs w) = omega (arith, woven_count xs ys zs w)
woven_count _ _ _ (right y xs ys zs w) = omega (arith, woven_count xs ys zs w)

woven_only : {X : Type 0} (xs ys zs : List X) → Woven xs ys zs → length xs ≤ 0 → ys ≡ zs
woven_only _ _ _ none le = refl
woven_only _ _ _ (left x xs ys zs w) le = absurd (omega (arith, le))
woven_only {X} _ _ _ (right y xs ys zs w) le = ap (λ (ws : List X). y ∷ ws) (woven_only xs ys zs w le)

opened_at : (edits : List LevelEdit) (level : ℕ) (edit : LevelEdit) → HaveOpened edits → level < length edits → edit ≡ get_or edits level edit → 1 ≤ length edit.olds.items
opened_at [] level edit all lt is = absurd (omega (arith, lt))
opened_at (e ∷ es) zero edit all lt is = subst (λ (x : LevelEdit). 1 ≤ length x.olds.items) (sym is) all.0
opened_at (e ∷ es) (suc level) edit all lt is = opened_at es level edit all.1 (omega (arith, lt)) is

module _ (tree : ℕ) (entries : List Binding) (new : ℕ → List Node) (edits : List LevelEdit) (edit : LevelEdit) (level : ℕ) (are : AreEdits (levels Two tree entries) new 0 edits) (opened : HaveOpened edits)
    (at : level + 1 ≡ length edits) (whole : length edits ≡ length (levels Two tree entries)) (is : edit ≡ get_or edits level edit) where
  -- its new nodes are all of its nodes
  pub last_new : Each IsNewNode edit.news.items (new level)
  last_new =
      let zero_level : 0 + level ≡ level = omega arith in
      let last : level ≡ length (levels Two tree entries) - 1 = omega (arith, at, whole) in
      let lt : level < length edits = omega (arith, at) in
      let edited = subst (λ n. IsEdit (level_at (levels Two tree entries) n) (new n) edit) zero_level (edit_at (levels Two tree entries) new 0 level edits edit are lt is) in
      let one : length (level_at (levels Two tree entries) level) ≡ 1 = ap (λ n. length (level_at (levels Two tree entries) n)) last ∙ last_one tree entries in
      let some = opened_at edits level edit opened lt is in
      let few : length edited.kept ≤ 0 = omega (arith, woven_count edited.kept edited.opened (level_at (levels Two tree entries) level) edited.was, one, some, each_length IsOldNode edit.olds.items edited.opened edited.olds_stand) in
      subst (λ (ns : List Node). Each IsNewNode edit.news.items ns) (woven_only edited.kept edited.came (new level) edited.is few) edited.news_stand

  -- where there is one, it is the level's one node
  pub last_alone : (piece : NewPiece) → edit.news.items ≡ piece ∷ [] → length (new level) ≡ 1
  last_alone piece e = omega (arith, each_length IsNewNode edit.news.items (new level) last_new, ap (length {A = NewPiece}) e)

  pub last_digest : (piece : NewPiece) → edit.news.items ≡ piece ∷ [] → piece.node.digest.0 ≡ digest piece.node.bytes.items → piece.node.digest.0 ≡ node_digest (get_or (new level) 0 no_node)
  last_digest piece e own = by (new level) (subst (λ (ps : List NewPiece). Each IsNewNode ps (new level)) e last_new)
    where
      by : (ns : List Node) → Each IsNewNode (piece ∷ []) ns → piece.node.digest.0 ≡ node_digest (get_or ns 0 no_node)
      by [] all = absurd all
      by (n ∷ ns) all = own ∙ ap digest all.0.bytes
