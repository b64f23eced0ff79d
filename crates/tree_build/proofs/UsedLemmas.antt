-- What was read.
use Rattle.std.proofs.Common.{◌≡◌, ℕ, suc, ◌+◌, ◌<◌, ◌≤◌, get_or, List, [], ◌∷◌, ◌++◌, length, ◌⊎◌, inl, inr, Bool, refl, sym, subst, arith}
use Rattle.tree_node.specs.Nodes.{Node, spelling}
use Rattle.tree_node.specs.Trees.{no_node}
use Rattle.tree_build.specs.internal.Edits.{IsOldNode}
use Rattle.tree_build.specs.internal.Holding.{IsOnWay, IsOnWayTo, IsSoughtNode}
use Rattle.tree_build.specs.internal.Shrinking.{IsReadBy}
use Rattle.tree_build.specs.internal.TreeEdits.{IsRead}
use Rattle.tree_build.specs.declared.old_node.OldNode.{OldNode}
use Rattle.tree_build.specs.declared.step.LevelEdit.{LevelEdit}
use Rattle.tree_build.proofs.WeaveLemmas.{in_back, in_front}

-- one node more was opened
pub way_more : (tree : List (List Node)) (level : ℕ) (olds later : List OldNode) (old : OldNode) → later ≡ olds ++ old ∷ [] → (wanted : List ℕ) (above : Bool) (node : Node) (last : Bool)
    → IsSoughtNode tree level wanted above node last → IsOldNode old node → (bytes : List ℕ) (Used Mid : Type 0) → (Mid → Used ⊎ IsOnWayTo tree level olds bytes)
    → Mid ⊎ IsOnWay tree level wanted above bytes → Used ⊎ IsOnWayTo tree level later bytes
way_more tree level olds later old more wanted above node last is stands bytes Used Mid before read =
    subst (λ (os : List OldNode). Used ⊎ IsOnWayTo tree level os bytes) (sym more) (elim read [
      | inl earlier ↦ elim (before earlier) [
        | inl used ↦ inl used
        | inr way ↦ inr (record { wanted = way.wanted; above = way.above; on_way = way.on_way; node = way.node; last = way.last; sought = way.sought; old = way.old; opened = in_front way.old olds (old ∷ []) way.opened; stands = way.stands })
      ]
      | inr here ↦ inr (record { wanted = wanted; above = above; on_way = here; node = node; last = last; sought = is; old = old; opened = in_back old olds (old ∷ []) (inl refl); stands = stands })
    ])

-- ---- of all levels

read_front : (tree : List (List Node)) (first : ℕ) (edits more : List LevelEdit) (bytes : List ℕ) → IsRead tree first edits bytes → IsRead tree first (edits ++ more) bytes
read_front tree first [] more bytes is = absurd is
read_front tree first (e ∷ es) more bytes is = elim is [ inl here ↦ inl here | inr there ↦ inr (read_front tree (suc first) es more bytes there) ]

read_back : (tree : List (List Node)) (first level : ℕ) (edits : List LevelEdit) (edit : LevelEdit) (bytes : List ℕ) → level ≡ first + length edits → IsOnWayTo tree level edit.olds.items bytes → IsRead tree first (edits ++ edit ∷ []) bytes
read_back tree first level [] edit bytes at way = let here : level ≡ first = omega (arith, at) in inl (subst (λ n. IsOnWayTo tree n edit.olds.items bytes) here way)
read_back tree first level (e ∷ es) edit bytes at way = inr (read_back tree (suc first) level es edit bytes (omega (arith, at)) way)

-- one level more was changed
pub read_more : (tree : List (List Node)) (level : ℕ) (edits later : List LevelEdit) (edit : LevelEdit) (bytes : List ℕ) (Used Mid : Type 0) → later ≡ edits ++ edit ∷ [] → length edits ≡ level → (Mid → Used ⊎ IsRead tree 0 edits bytes)
    → Mid ⊎ IsOnWayTo tree level edit.olds.items bytes → Used ⊎ IsRead tree 0 later bytes
read_more tree level edits later edit bytes Used Mid more count before read =
    subst (λ (es : List LevelEdit). Used ⊎ IsRead tree 0 es bytes) (sym more) (elim read [
      | inl earlier ↦ elim (before earlier) [ inl used ↦ inl used | inr way ↦ inr (read_front tree 0 edits (edit ∷ []) bytes way) ]
      | inr here ↦ inr (read_back tree 0 level edits edit bytes (omega (arith, count)) here)
    ])

-- ---- coming down to the top

-- one level more was passed
pub read_down : (new : ℕ → List Node) (edits : List LevelEdit) (level from : ℕ) (edit : LevelEdit) (bytes : List ℕ) → from ≤ level → level < length edits → edit ≡ get_or edits level edit → (Used Mid : Type 0) → (Mid → Used ⊎ IsReadBy new edits (level + 1) bytes)
    → Mid ⊎ ((edit.news.items ≡ []) × (bytes ≡ spelling (get_or (new level) 0 no_node))) → Used ⊎ IsReadBy new edits from bytes
read_down new edits level from edit bytes low high edit_is Used Mid before read = elim read [
  | inl earlier ↦ elim (before earlier) [
    | inl used ↦ inl used
    | inr by ↦ inr (record { at = by.at; low = omega (arith, low, by.low); high = by.high; edit = by.edit; edit_is = by.edit_is; none_new = by.none_new; spelled = by.spelled })
  ]
  | inr here ↦ inr (record { at = level; low = low; high = high; edit = edit; edit_is = edit_is; none_new = here.0; spelled = here.1 })
]
