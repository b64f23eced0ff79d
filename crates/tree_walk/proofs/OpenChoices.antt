-- The nodes of a list that are opened, each beside its left bound.
use Rattle.std.proofs.Common.{◌≡◌, ℕ, zero, suc, Bool, true, false, ◌<◌, List, [], ◌∷◌, ◌++◌, length, get_or, map, Option, Some, None, ◌↔◌, inl, inr, refl, sym, subst, arith}
use Rattle.std.specs.List.{AllByRecursion}
use Rattle.std.proofs.lemmas.List.{map-append}
use Rattle.tree_node.specs.Nodes.{AreRisingFrom, Link, Node, Inner, IsNode, greatests_of, level_of, spelling, tree_of}
use Rattle.tree_node.specs.Trees.{greatest_of, last_key, left_at, link_to, no_node}
use Rattle.tree_node.proofs.shared.PieceLaws.{IsSized, split_rising}
use Rattle.tree_node.proofs.shared.PieceLemmas.{join}
use Rattle.tree_walk.specs.Choices.{AreThose}
use Rattle.tree_walk.specs.internal.Openings.{IsClosed, IsOpen, IsOpenChild, IsOpenNode}
use Rattle.tree_walk.specs.internal.Pendings.{AreStated, IsOneOf, IsStated}
use Rattle.tree_walk.specs.Spans.{children_of_all, children_placed, placed}
use Rattle.tree_walk.specs.Ranges.{IsAboveLeft, IsAtMost, IsCovered, IsNoHigher, Range}
use Rattle.tree_walk.proofs.ChoiceLemmas.{those_append, those_split}
use Rattle.tree_walk.proofs.shared.KeyLemmas.{at_most_trans}
use Rattle.tree_walk.proofs.BoundLemmas.{StartEachAbove, all_at_most, children_append, left_from, left_none, no_higher_itself, no_higher_next}
use Rattle.tree_walk.proofs.MeetLemmas.{above_outer, covered_is_in, meets_wider}

-- a covered span covers those that it has in it
pub covered_narrower : (range : Range) (left outer : Option (List ℕ)) (greatest most : List ℕ) → IsCovered range outer most → IsNoHigher outer left → IsAboveLeft left greatest → IsAtMost greatest most
    → IsCovered range left greatest
covered_narrower range left None greatest most is no_higher above wide = absurd is
covered_narrower range None (Some o) greatest most is no_higher above wide = absurd no_higher
covered_narrower range (Some l) (Some o) greatest most is no_higher above wide =
    (at_most_trans range.lo o l is.0 no_higher, covered_is_in range (Some o) most greatest is (above_outer (Some o) (Some l) greatest no_higher above) wide)

-- so what lies in a span that stays closed does
closed_narrower : (closing : Bool) (range : Range) (left outer : Option (List ℕ)) (greatest most : List ℕ) → IsClosed closing range outer most → IsNoHigher outer left → IsAboveLeft left greatest → IsAtMost greatest most
    → IsClosed closing range left greatest
closed_narrower true range left outer greatest most is no_higher above wide = covered_narrower range left outer greatest most is no_higher above wide
closed_narrower false range left outer greatest most is no_higher above wide = absurd is

module _ (closing : Bool) where
  -- what is opened stands in what is opened
  pub open_wider : (range : Range) (left outer : Option (List ℕ)) (greatest most : List ℕ) → IsOpen closing range left greatest → IsNoHigher outer left → IsAboveLeft left greatest → IsAtMost greatest most → IsOpen closing range outer most
  open_wider range left outer greatest most is no_higher above wide =
      (meets_wider range left outer greatest most is.0 no_higher wide, λ closed. is.1 (closed_narrower closing range left outer greatest most closed no_higher above wide))

  -- ---- the nodes that pending links state

  -- the nodes of a list that are opened are those that the pending links state
  pub open_stated_from : (range : Range) (tree level : ℕ) (left : Option (List ℕ)) (nodes : List Node) (pending : List (Option (List ℕ) × Link))
      → AllByRecursion IsNode nodes → AllByRecursion (λ (n : Node). (level_of n ≡ level) × (tree_of n ≡ tree)) nodes → StartEachAbove left nodes
      → AreThose (IsOpenChild closing range) (children_placed left (map link_to nodes)) pending
      → (spots : List (Option (List ℕ) × Node)) × AreThose (IsOpenNode closing range) (placed greatest_of left nodes) spots × AreStated tree level pending spots
  open_stated_from range tree level left [] pending are kinds start those = ([], refl, subst (λ (ps : List (Option (List ℕ) × Link)). AreStated tree level ps []) (sym those) refl)
  open_stated_from range tree level left (n ∷ ns) pending are kinds start (inl met) =
      let rest = open_stated_from range tree level (Some (greatest_of n)) ns met.1.0 are.1 kinds.1 start.1 met.1.2 in
      let is : IsStated tree level (left, link_to n) n = record { is = are.0; in_tree = kinds.0.1; at_level = kinds.0.0; link = refl; above = start.0 } in (
        (left, n) ∷ rest.0,
        inl (met.0, (rest.0, refl, rest.1)),
        subst (λ (ps : List (Option (List ℕ) × Link)). AreStated tree level ps ((left, n) ∷ rest.0)) (sym met.1.1) (n, rest.0, refl, is, rest.2),
      )
  open_stated_from range tree level left (n ∷ ns) pending are kinds start (inr unmet) =
      let rest = open_stated_from range tree level (Some (greatest_of n)) ns pending are.1 kinds.1 start.1 unmet.1 in
      (rest.0, inr (unmet.0, rest.1), rest.2)

  -- ---- what stands below them

  -- no child in a span that isn't opened is
  pub no_child_open : (range : Range) (outer left : Option (List ℕ)) (most : List ℕ) (links : List Link) → (¬ IsOpen closing range outer most) → IsNoHigher outer left → AreRisingFrom left (greatests_of links)
      → AllByRecursion (λ (key : List ℕ). IsAtMost key most) (greatests_of links) → AreThose (IsOpenChild closing range) (children_placed left links) []
  no_child_open range outer left most [] closed no_higher rise below = refl
  no_child_open range outer left most (l ∷ ls) closed no_higher rise below =
      inr (
        (λ is. closed (open_wider range left outer l.greatest most is no_higher rise.0 below.0)),
        no_child_open range outer (Some l.greatest) most ls closed (no_higher_next outer left l.greatest no_higher rise.0) rise.1 below.1,
      )

  -- the children of the nodes that are opened are, of all children, those that may be opened
  pub open_children_from : (range : Range) (tree level : ℕ) (left : Option (List ℕ)) (ps : List (List Link)) (spots : List (Option (List ℕ) × Node)) (pending : List (Option (List ℕ) × Link))
      → AllByRecursion IsSized ps → AreRisingFrom left (greatests_of (join ps)) → AreThose (IsOpenNode closing range) (placed greatest_of left (map (Inner tree level) ps)) spots
      → AreThose (IsOpenChild closing range) (children_of_all spots) pending → AreThose (IsOpenChild closing range) (children_placed left (join ps)) pending
  open_children_from range tree level left [] spots pending sized rise those found =
      subst (λ (ss : List (Option (List ℕ) × Node)). AreThose (IsOpenChild closing range) (children_of_all ss) pending) those found
  open_children_from range tree level left ([] ∷ ps) spots pending sized rise those found = absurd (omega (arith, sized.0.0))
  open_children_from range tree level left ((l ∷ ls) ∷ ps) spots pending sized rise those found =
      let node : Node = Inner tree level (l ∷ ls) in
      let last : List ℕ = last_key (greatests_of (l ∷ ls)) in
      let keys : AreRisingFrom left (greatests_of (l ∷ ls) ++ greatests_of (join ps)) = subst (λ (ks : List (List ℕ)). AreRisingFrom left ks) (map-append (λ (c : Link). c.greatest) (l ∷ ls) (join ps)) rise in
      let parts = split_rising left l.greatest (greatests_of ls) (greatests_of (join ps)) keys in
      let joined : (first more : List (Option (List ℕ) × Link)) → pending ≡ first ++ more → AreThose (IsOpenChild closing range) (children_placed left (l ∷ ls)) first
      → AreThose (IsOpenChild closing range) (children_placed (Some last) (join ps)) more → AreThose (IsOpenChild closing range) (children_placed left ((l ∷ ls) ++ join ps)) pending =
      λ first more e here after.
      subst (λ (cs : List (Option (List ℕ) × Link)). AreThose (IsOpenChild closing range) cs pending) (sym (children_append left l ls (join ps)))
      (subst (λ (fs : List (Option (List ℕ) × Link)). AreThose (IsOpenChild closing range) (children_placed left (l ∷ ls) ++ children_placed (Some last) (join ps)) fs) (sym e)
      (those_append (IsOpenChild closing range) (children_placed left (l ∷ ls)) (children_placed (Some last) (join ps)) first more here after)) in
      elim those [
        | inl met ↦
            let all : AreThose (IsOpenChild closing range) (children_placed left (l ∷ ls) ++ children_of_all met.1.0) pending =
            subst (λ (ss : List (Option (List ℕ) × Node)). AreThose (IsOpenChild closing range) (children_of_all ss) pending) met.1.1 found in
            let split = those_split (IsOpenChild closing range) (children_placed left (l ∷ ls)) (children_of_all met.1.0) pending all in
            joined split.0 split.1 split.2 split.3 (open_children_from range tree level (Some last) ps met.1.0 split.1 sized.1 parts.1 met.1.2 split.4)
        | inr unmet ↦
            joined [] pending refl
            (no_child_open range left left last (l ∷ ls) unmet.0 (no_higher_itself left) parts.0 (all_at_most left (greatests_of (l ∷ ls)) parts.0))
            (open_children_from range tree level (Some last) ps spots pending sized.1 parts.1 unmet.1 found)
      ]

  -- ---- the places of the nodes that are opened

  -- the bytes are a node of the list that is opened
  abbrev OpensIn : Range → Option (List ℕ) → List Node → List ℕ → ℕ → Type 0
  OpensIn range left nodes bytes place =
      (place < length nodes) × (bytes ≡ spelling (get_or nodes place no_node)) × IsOpen closing range (left_from left nodes place) (greatest_of (get_or nodes place no_node))

  -- each of the nodes that are opened has a place where it is,
  open_place_of : (range : Range) (left : Option (List ℕ)) (nodes : List Node) (spots : List (Option (List ℕ) × Node)) (bytes : List ℕ)
      → AreThose (IsOpenNode closing range) (placed greatest_of left nodes) spots → IsOneOf spots bytes → (place : ℕ) × OpensIn range left nodes bytes place
  open_place_of range left [] spots bytes those one = absurd (subst (λ (ss : List (Option (List ℕ) × Node)). IsOneOf ss bytes) those one)
  open_place_of range left (n ∷ ns) spots bytes (inl met) one =
      elim (subst (λ (ss : List (Option (List ℕ) × Node)). IsOneOf ss bytes) met.1.1 one) [
        | inl here ↦ (0, (omega arith, here, met.0))
        | inr after ↦ let rest = open_place_of range (Some (greatest_of n)) ns met.1.0 bytes met.1.2 after in (suc rest.0, (omega (arith, rest.1.0), rest.1.1, rest.1.2))
      ]
  open_place_of range left (n ∷ ns) spots bytes (inr unmet) one =
      let rest = open_place_of range (Some (greatest_of n)) ns spots bytes unmet.1 one in (suc rest.0, (omega (arith, rest.1.0), rest.1.1, rest.1.2))

  -- and what is opened at a place is one of them
  open_at : (range : Range) (left : Option (List ℕ)) (nodes : List Node) (spots : List (Option (List ℕ) × Node)) (bytes : List ℕ)
      → AreThose (IsOpenNode closing range) (placed greatest_of left nodes) spots → (place : ℕ) → OpensIn range left nodes bytes place → IsOneOf spots bytes
  open_at range left [] spots bytes those place (lt, is, meets) = absurd (omega arith)
  open_at range left (n ∷ ns) spots bytes (inl met) zero (lt, is, meets) = subst (λ (ss : List (Option (List ℕ) × Node)). IsOneOf ss bytes) (sym met.1.1) (inl is)
  open_at range left (n ∷ ns) spots bytes (inr unmet) zero (lt, is, meets) = absurd (unmet.0 meets)
  open_at range left (n ∷ ns) spots bytes (inl met) (suc place) (lt, is, meets) =
      subst (λ (ss : List (Option (List ℕ) × Node)). IsOneOf ss bytes) (sym met.1.1) (inr (open_at range (Some (greatest_of n)) ns met.1.0 bytes met.1.2 place (omega arith, is, meets)))
  open_at range left (n ∷ ns) spots bytes (inr unmet) (suc place) (lt, is, meets) = open_at range (Some (greatest_of n)) ns spots bytes unmet.1 place (omega arith, is, meets)

  -- the nodes of a list that are opened are those that are opened at a place
  pub open_where : (range : Range) (nodes : List Node) (spots : List (Option (List ℕ) × Node)) (bytes : List ℕ) → AreThose (IsOpenNode closing range) (placed greatest_of None nodes) spots
      → IsOneOf spots bytes ↔ ((place : ℕ) × (place < length nodes) × (bytes ≡ spelling (get_or nodes place no_node)) × IsOpen closing range (left_at nodes place) (greatest_of (get_or nodes place no_node)))
  open_where range nodes spots bytes those = (
    (λ one.
        let at = open_place_of range None nodes spots bytes those one in
        (at.0, at.1.0, at.1.1, subst (λ (left : Option (List ℕ)). IsOpen closing range left (greatest_of (get_or nodes at.0 no_node))) (left_none nodes at.0 at.1.0) at.1.2)),
    (λ at.
        open_at range None nodes spots bytes those at.0
        (at.1, at.2, subst (λ (left : Option (List ℕ)). IsOpen closing range left (greatest_of (get_or nodes at.0 no_node))) (sym (left_none nodes at.0 at.1)) at.3)),
  )
