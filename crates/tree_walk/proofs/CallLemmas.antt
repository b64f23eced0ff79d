-- From what a walk gathers to what the two calls promise.
use Rattle.std.proofs.Common.{◌≡◌, ◌+◌, ◌^◌, ◌≤◌, ℕ, true, false, List, [], ◌∷◌, length, Option, ◌↔◌, refl, sym, ap, subst, ◌∙◌}
use Rattle.std.specs.List.{AllByRecursion}
use Rattle.tree_node.specs.NodeRefs.{bindings_of, number_of}
use Rattle.tree_node.specs.Outcomes.{ShelfUse}
use Rattle.tree_node.specs.declared.tree.Tree.{Tree}
use Rattle.tree_node.specs.Nodes.{Binding, Link, Node}
use Rattle.tree_node.specs.declared.item.Item.{Item}
use Rattle.tree_walk.specs.Choices.{AreThose, IsCount}
use Rattle.tree_walk.specs.Ranges.{Range}
use Rattle.tree_walk.specs.Walks.{IsEntryIn, IsMet, IsMetCounted}
use Rattle.tree_walk.specs.internal.Accounts.{Account}
use Rattle.tree_walk.specs.Fetches.{AreDifferent, HasFetched, IsAmong, IsNodeText}
use Rattle.tree_walk.specs.Given.{GivesFrom, IsCoveredChild, IsNever, IsWalk, SoMany, These, saturating_u64, sum_stated}
use Rattle.tree_walk.specs.Reasons.{Top}
use Rattle.tree_walk.proofs.shared.GivenLaws.{never_closed}
use Rattle.tree_walk.specs.internal.Openings.{IsOpened}
use Rattle.tree_walk.proofs.AccountLemmas.{count_is, count_those}

-- where nothing stays closed, what is opened is what meets the range
pub met_is : (range : Range) (tree : List (List Node)) (bytes : List ℕ) → IsOpened false range tree bytes ↔ IsMet range tree bytes
met_is range tree bytes = ((λ is. (is.0, is.1, is.2, is.3.0)), (λ is. (is.0, is.1, is.2, (is.3, λ none. none))))

-- and where what is covered does, it is what a count needs
pub counted_is : (range : Range) (tree : List (List Node)) (bytes : List ℕ) → IsOpened true range tree bytes ↔ IsMetCounted range tree bytes
counted_is range tree bytes = ((λ is. (is.0, is.1, is.2, is.3.0, is.3.1)), (λ is. (is.0, is.1, is.2, (is.3, is.4))))

-- all that was found is all
pub found_all : (range : Range) (entries found all : List Binding) (closed : List (Option (List ℕ) × Link)) (items : List Item) → bindings_of items ≡ found → Account false closed found all → AreThose (IsEntryIn range) entries all
    → AreThose (IsEntryIn range) entries (bindings_of items)
found_all range entries found all closed items gathered account those = subst (λ (es : List Binding). AreThose (IsEntryIn range) entries es) (account.same refl ∙ sym gathered) those

-- what was counted is the number of all
pub counted_all : (range : Range) (entries found all : List Binding) (closed : List (Option (List ℕ) × Link)) (number : ℕ) → length entries ≤ 2 ^ 29 → number ≡ saturating_u64 (sum_stated closed + length found) → Account true closed found all
    → AreThose (IsEntryIn range) entries all → IsCount (IsEntryIn range) entries number
counted_all range entries found all closed number few gathered account those =
    count_is (IsEntryIn range) entries (length all) number few (gathered ∙ ap saturating_u64 (sym account.number)) (count_those (IsEntryIn range) entries all those)

-- the nodes that were fetched give the entries
pub walk_found : (shelf : ShelfUse) (from to : ℕ) (tree : Tree) (top : List ℕ) (range : Range) (nodes : List (List ℕ)) (closed : List (Option (List ℕ) × Link)) (found : List Binding) (items : List Item) → HasFetched shelf from to nodes → AreDifferent nodes → AllByRecursion IsNodeText nodes
    → GivesFrom IsNever (IsAmong nodes) (number_of tree) range (Top top ∷ []) closed found → bindings_of items ≡ found → IsWalk shelf from to tree top range (These (bindings_of items))
walk_found shelf from to tree top range nodes closed found items fetched differ texts gives gathered = record {
  nodes = nodes;
  fetched = fetched;
  differ = differ;
  texts = texts;
  gives = subst (λ (es : List Binding). GivesFrom IsNever (IsAmong nodes) (number_of tree) range (Top top ∷ []) [] es) (sym gathered)
      (subst (λ (cs : List (Option (List ℕ) × Link)). GivesFrom IsNever (IsAmong nodes) (number_of tree) range (Top top ∷ []) cs found) (never_closed (IsAmong nodes) (number_of tree) range (Top top ∷ []) closed found gives) gives);
}

-- and their number
pub walk_counted : (shelf : ShelfUse) (from to : ℕ) (tree : Tree) (top : List ℕ) (range : Range) (nodes : List (List ℕ)) (closed : List (Option (List ℕ) × Link)) (found : List Binding) (number : ℕ) → HasFetched shelf from to nodes → AreDifferent nodes → AllByRecursion IsNodeText nodes
    → GivesFrom (IsCoveredChild range) (IsAmong nodes) (number_of tree) range (Top top ∷ []) closed found → number ≡ saturating_u64 (sum_stated closed + length found) → IsWalk shelf from to tree top range (SoMany number)
walk_counted shelf from to tree top range nodes closed found number fetched differ texts gives gathered = record { nodes = nodes; fetched = fetched; differ = differ; texts = texts; gives = (closed, found, gives, gathered) }
