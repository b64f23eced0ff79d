-- The top of the old tree, and a list without changes.
use Rattle.std.proofs.Common.{inl, inr, ◌≡◌, ℕ, ◌+◌, ◌-◌, ◌<◌, ◌≤◌, eqb, eqb-true, false, List, [], ◌∷◌, length, true, refl, sym, ap, subst, arith}
use Rattle.std.specs.List.{AllByRecursion}
use Rattle.tree_node.specs.Nodes.{Binding, Node, level_of, spelling, tree_of}
use Rattle.tree_node.specs.Trees.{IsNodeOf, Two, level_at, levels, no_node, top_of}
use Rattle.tree_node.proofs.shared.TreeLaws.{whole}
use Rattle.tree_node.proofs.shared.TreeParts.{kind_at}
use Rattle.tree_build.specs.Changing.{Change}
use Rattle.tree_node.specs.Digests.{digest}
use Rattle.tree_build.specs.Rebuilding.{AreDifferent, IsAmong, IsOldTree, IsRebuilt, digests_of, nodes_of}
use Rattle.tree_build.specs.declared.rebuilt.Rebuilt.{Rebuilt}
use Rattle.tree_build.specs.internal.Holding.{IsHeld}
use Rattle.tree_build.proofs.DescentLemmas.{all_parts, lone, sought_level, sought_top}
use Rattle.tree_build.specs.internal.Weaving.{IsIn}
use Rattle.tree_build.proofs.LastLemmas.{last_one}
use Rattle.tree_build.proofs.SeekStates.{sought_among}
use Rattle.tree_build.proofs.TreeEdits.{held_of}
use Rattle.tree_build.proofs.WeaveLemmas.{in_back}

trees_only : (tree level : ℕ) (nodes : List Node) → AllByRecursion (λ (n : Node). (level_of n ≡ level) × (tree_of n ≡ tree)) nodes → AllByRecursion (λ (n : Node). tree_of n ≡ tree) nodes
trees_only tree level [] all = tt
trees_only tree level (n ∷ ns) all = (all.0.1, trees_only tree level ns all.1)

-- the top of the tree with these levels is held, and says its tree and its level
pub record TopSays (held : List ℕ → Type 0) (top : List ℕ) (tree : ℕ) (of : List (List Node)) : Type 0 where
  pub node : Node
  pub is_held : IsHeld held top node
  pub tree_is : tree_of node ≡ tree
  pub level_is : level_of node + 1 ≡ length of
  pub spelled : spelling node ≡ top_of of
  pub among : IsNodeOf of (spelling node)

pub top_says : (held : List ℕ → Type 0) (top : List ℕ) (changes : List (Change Binding)) (tree : ℕ) (entries : List Binding) → IsOldTree held top changes tree entries → TopSays held top tree (levels Two tree entries)
unfolding levels
top_says held top changes tree entries is =
    let here = sought_top held top tree entries (held_of held top changes tree entries is) [] true in
    let last = length (levels Two tree entries) - 1 in
    let lt : last < length (levels Two tree entries) = omega arith in
    let kinds = subst (λ (ns : List Node). AllByRecursion (λ (n : Node). tree_of n ≡ tree) ns) here.at.sought.whole (trees_only tree last (level_at (whole Two tree entries) last) (kind_at Two tree entries last lt)) in
    record {
      node = here.node;
      is_held = here.is_held;
      among = sought_among (levels Two tree entries) last [] true here.node true lt here.at;
      tree_is = (all_parts (λ (n : Node). tree_of n ≡ tree) here.at.front (here.node ∷ here.at.back) kinds).1.0;
      level_is = omega (arith, sought_level held top tree entries (held_of held top changes tree entries is) last lt [] true here.node true here.at);
      spelled =
          let alone = lone (level_at (levels Two tree entries) last) no_node (last_one tree entries) in
          let is : IsIn here.node (level_at (levels Two tree entries) last) = subst (λ (ns : List Node). IsIn here.node ns) (sym here.at.sought.whole) (in_back here.node here.at.front (here.node ∷ here.at.back) (inl refl)) in
          elim (subst (λ (ns : List Node). IsIn here.node ns) alone is) [ inl equal ↦ ap spelling equal | inr never ↦ absurd never ];
    }

-- nothing has changed
pub unchanged : (old : List (List Node)) (rebuilt : Rebuilt) → rebuilt.top.0 ≡ digest (top_of old) → rebuilt.added.items ≡ [] → rebuilt.gone.items ≡ [] → IsRebuilt old old rebuilt
unchanged old rebuilt top none_added none_gone = record {
  top = top;
  added = λ bytes. ((λ among. absurd (subst (λ ns. IsAmong (nodes_of ns) bytes) none_added among)), (λ both. absurd (both.1 both.0)));
  added_once = subst (λ ns. AreDifferent (nodes_of ns)) (sym none_added) tt;
  gone = λ key. ((λ among. absurd (subst (λ ds. IsAmong (digests_of ds) key) none_gone among)), (λ (bytes, of_old, not_new, is). absurd (not_new of_old)));
  gone_once = subst (λ ds. AreDifferent (digests_of ds)) (sym none_gone) tt;
}

pub some_changes : {X : Type 0} (xs : List X) → false ≡ eqb (length xs) 0 → 1 ≤ length xs
some_changes [] e = absurd cc
some_changes (x ∷ xs) e = omega arith

pub no_changes : {X : Type 0} (xs : List X) → true ≡ eqb (length xs) 0 → xs ≡ []
no_changes [] e = refl
no_changes (x ∷ xs) e = absurd (let n : length (x ∷ xs) ≡ 0 = eqb-true (length (x ∷ xs)) 0 (sym e) in omega (arith, n))
