-- Which nodes of a level were fetched: one for each pending child so far, and no two the same.
use Rattle.std.proofs.Common.{Bool, ◌≡◌, ℕ, List, [], ◌∷◌, ◌++◌, Option, None, Some, inl, inr, Result, Ok, Err, refl, sym, subst, ◌∙◌, arith}
use Rattle.std.proofs.lemmas.List.{append-nil}
use Rattle.std.specs.List.{AllByRecursion}
use Rattle.tree_node.specs.Nodes.{Link, Node, Spells, level_of}
use Rattle.tree_node.specs.internal.OrderLemmas.{not_itself}
use Rattle.tree_node.specs.Outcomes.{ShelfUse}
use Rattle.tree_node.specs.Shelves.{Stays}
use Rattle.tree_node.specs.Trees.{greatest_of}
use Rattle.tree_node.proofs.shared.OutcomeLaws.{uses}
use Rattle.tree_node.proofs.shared.FieldLemmas.{ok_is}
use Rattle.tree_node.proofs.shared.NodeLaws.{node_again}
use Rattle.tree_walk.specs.Fetches.{AreDifferent, HasFetched, IsAmong}
use Rattle.tree_walk.specs.internal.Pendings.{AreInOrder, FetchedFew, FetchedNode, FetchesLevel, IsOfLevel}
use Rattle.tree_walk.specs.Ranges.{IsAboveLeft, IsAtMost, IsNoHigher}
use Rattle.tree_walk.specs.declared.fault.WalkFault.{WalkFault}
use Rattle.tree_walk.proofs.FetchLemmas.{all_append, all_weaker, among_parts, fetched_none, fetched_one, fetched_then}
use Rattle.tree_walk.proofs.shared.KeyLemmas.{at_most_below, at_most_trans, below_at_most}

-- the key isn't above the bound; above no bound there is none
abbrev pub IsUpTo : Option (List ℕ) → List ℕ → Type 0
IsUpTo None key = ⊥
IsUpTo (Some bound) key = IsAtMost key bound

-- a node of this level whose greatest key isn't above the bound
abbrev pub IsFetchedUpTo : ℕ → Option (List ℕ) → List ℕ → Type 0
IsFetchedUpTo level low bytes = (node : Node) × Spells bytes node × (level_of node ≡ level) × IsUpTo low (greatest_of node)

-- what was fetched so far, with greatest keys up to this one, and the pending children that are left
pub record FetchingLevel (level : ℕ) (low : Option (List ℕ)) (shelf : ShelfUse) (from to : ℕ) (rest : List (Option (List ℕ) × Link)) : Type 0 where
  pub done : List (List ℕ)
  pub fetched : HasFetched shelf from to done
  pub differ : AreDifferent done
  pub so_far : AllByRecursion (IsFetchedUpTo level low) done
  pub order : AreInOrder low rest

-- ---- different nodes

-- one after different ones
pub differ_after : (nodes : List (List ℕ)) (bytes : List ℕ) → AreDifferent nodes → ¬ IsAmong nodes bytes → AreDifferent (nodes ++ bytes ∷ [])
differ_after [] bytes differ new = ((λ none. none), tt)
differ_after (n ∷ ns) bytes differ new = (
  (λ is. elim (among_parts ns (bytes ∷ []) n is) [
    | inl among ↦ differ.0 among
    | inr one ↦ elim one [ inl here ↦ new (inl (sym here)) | inr none ↦ none ]
  ]),
  differ_after ns bytes differ.1 (λ is. new (inr is)),
)

-- bytes are one node at most
pub one_spelled : (bytes : List ℕ) (m n : Node) → Spells bytes m → Spells bytes n → m ≡ n
one_spelled bytes m n first second = ok_is m n (sym (node_again bytes m first) ∙ node_again bytes n second)

-- what is up to a bound isn't above it
not_above : (low left : Option (List ℕ)) (greatest : List ℕ) → IsNoHigher low left → IsAboveLeft left greatest → ¬ IsUpTo low greatest
not_above None left greatest no_higher above up = up
not_above (Some l) None greatest no_higher above up = no_higher
not_above (Some l) (Some k) greatest no_higher above up =
    not_itself k k (below_at_most k greatest k above (at_most_trans greatest l k up no_higher)) refl

-- nodes up to a bound aren't this one, whose greatest key is above it
pub new_one : (level : ℕ) (low left : Option (List ℕ)) (nodes : List (List ℕ)) (bytes : List ℕ) (node : Node) → AllByRecursion (IsFetchedUpTo level low) nodes
    → IsNoHigher low left → IsAboveLeft left (greatest_of node) → Spells bytes node → ¬ IsAmong nodes bytes
new_one level low left [] bytes node up no_higher above is none = none
new_one level low left (n ∷ ns) bytes node up no_higher above is (inl here) =
    let same : up.0.0 ≡ node = one_spelled bytes up.0.0 node (subst (λ (b : List ℕ). Spells b up.0.0) (sym here) up.0.1) is in
    not_above low left (greatest_of node) no_higher above (subst (λ (m : Node). IsUpTo low (greatest_of m)) same up.0.3)
new_one level low left (n ∷ ns) bytes node up no_higher above is (inr there) = new_one level low left ns bytes node up.1 no_higher above is there

-- a higher bound
pub higher : (level : ℕ) (low left : Option (List ℕ)) (greatest : List ℕ) → IsNoHigher low left → IsAboveLeft left greatest
    → (bytes : List ℕ) → IsFetchedUpTo level low bytes → IsFetchedUpTo level (Some greatest) bytes
higher level None left greatest no_higher above bytes is = absurd is.3
higher level (Some l) None greatest no_higher above bytes is = absurd no_higher
higher level (Some l) (Some k) greatest no_higher above bytes is =
    (is.0, is.1, is.2, at_most_trans (greatest_of is.0) l greatest is.3 (inl (at_most_below l k greatest no_higher above)))

-- ---- steps

module _ (level : ℕ) (old : List ℕ → Type 0) (from : ℕ) where
  -- at the start
  unfoldable pub level_start : (held : List ℕ → Type 0) (spots : List (Option (List ℕ) × Link)) → AreInOrder None spots → FetchingLevel level None (uses held old old) from from spots
  level_start held spots order = record {
    done = [];
    fetched = fetched_none held old old from (λ bytes. ((λ is. is), (λ is. is)));
    differ = tt;
    so_far = tt;
    order = order;
  }

  -- one more
  unfoldable pub level_step : {fixed : Bool} (low : Option (List ℕ)) (held after mid new : List ℕ → Type 0) (via to : ℕ) (spot : Option (List ℕ) × Link) (rest : List (Option (List ℕ) × Link)) (node : Node)
      → FetchingLevel level low (uses held old mid) from via (spot ∷ rest) → Stays fixed held after → FetchedNode node (uses after mid new) via to
      → level_of node ≡ level → greatest_of node ≡ spot.1.greatest → FetchingLevel level (Some spot.1.greatest) (uses after old new) from to rest
  level_step low held after mid new via to spot rest node so stays is at_level greatest =
      let above : IsAboveLeft spot.0 (greatest_of node) = subst (λ (g : List ℕ). IsAboveLeft spot.0 g) (sym greatest) so.order.1 in
      record {
        done = so.done ++ is.bytes ∷ [];
        fetched = fetched_then held after old mid new from via to so.done (is.bytes ∷ []) stays so.fetched (rw is.counted (fetched_one after mid new via is.bytes is.is_held is.grown));
        differ = differ_after so.done is.bytes so.differ (new_one level low spot.0 so.done is.bytes node so.so_far so.order.0 above is.spells);
        so_far = all_append (IsFetchedUpTo level (Some spot.1.greatest)) so.done (is.bytes ∷ [])
            (all_weaker (IsFetchedUpTo level low) (IsFetchedUpTo level (Some spot.1.greatest)) so.done (higher level low spot.0 spot.1.greatest so.order.0 so.order.1) so.so_far)
            ((node, is.spells, at_level, inr greatest), tt);
        order = so.order.2;
      }

  pub of_level : (low : Option (List ℕ)) (bytes : List ℕ) → IsFetchedUpTo level low bytes → IsOfLevel level bytes
  of_level low bytes is = (is.0, is.1, is.2)

  -- at the end
  pub level_end : {A : Type 0} (value : A) (low : Option (List ℕ)) (held new : List ℕ → Type 0) (to : ℕ) (rest : List (Option (List ℕ) × Link))
      → FetchingLevel level low (uses held old new) from to rest → FetchesLevel level (Ok value) (uses held old new) from to
  level_end value low held new to rest so =
      (so.done, so.fetched, so.differ, all_weaker (IsFetchedUpTo level low) (IsOfLevel level) so.done (of_level low) so.so_far)

  -- refused, after the last of them
  pub level_refused : {A : Type 0} (result : Result A WalkFault) (fault : WalkFault) (low : Option (List ℕ)) (held new : List ℕ → Type 0) (to : ℕ) (rest : List (Option (List ℕ) × Link))
      → result ≡ Err fault → FetchingLevel level low (uses held old new) from to rest → FetchesLevel level result (uses held old new) from to
  level_refused {A} result fault low held new to rest is so =
      subst (λ (r : Result A WalkFault). FetchesLevel level r (uses held old new) from to) (sym is) (
        so.done,
        [],
        subst (λ (ns : List (List ℕ)). HasFetched (uses held old new) from to ns) (sym (append-nil so.done)) so.fetched,
        so.differ,
        all_weaker (IsFetchedUpTo level low) (IsOfLevel level) so.done (of_level low) so.so_far,
        omega arith,
      )

  -- refused, perhaps at one more
  pub level_stopped : {fixed : Bool} {A : Type 0} (result : Result A WalkFault) (fault : WalkFault) (low : Option (List ℕ)) (held after mid new : List ℕ → Type 0) (via to : ℕ) (rest : List (Option (List ℕ) × Link))
      → result ≡ Err fault → FetchingLevel level low (uses held old mid) from via rest → Stays fixed held after → FetchedFew (uses after mid new) via to
      → FetchesLevel level result (uses after old new) from to
  level_stopped {A} result fault low held after mid new via to rest is so stays few =
      subst (λ (r : Result A WalkFault). FetchesLevel level r (uses after old new) from to) (sym is) (
        so.done,
        few.nodes,
        fetched_then held after old mid new from via to so.done few.nodes stays so.fetched few.fetched,
        so.differ,
        all_weaker (IsFetchedUpTo level low) (IsOfLevel level) so.done (of_level low) so.so_far,
        few.few,
      )
