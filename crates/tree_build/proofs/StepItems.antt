-- The nodes of a level and their items: what rising keys say of parts of them.
use Rattle.std.proofs.Common.{◌≡◌, ℕ, ◌≤◌, List, [], ◌∷◌, ◌++◌, length, map, inl, inr, Bool, Option, None, Some, refl, sym, ap, subst, ◌∙◌, append_assoc, length-append, arith}
use Rattle.std.specs.List.{flat_map, AllByRecursion}
use Rattle.std.proofs.lemmas.Grind.{flat_map-append}
use Rattle.std.proofs.lemmas.List.{map-append}
use Rattle.tree_node.specs.Nodes.{AreRisingFrom, Node}
use Rattle.tree_node.specs.Order.{IsBelow}
use Rattle.tree_node.specs.internal.OrderLemmas.{order_trans}
use Rattle.tree_node.specs.Trees.{greatest_of, last_key}
use Rattle.tree_node.proofs.shared.PieceLemmas.{join}
use Rattle.tree_build.specs.internal.Cutting.{ArePieces}
use Rattle.tree_build.specs.internal.RisingChanges.{IsUpTo}
use Rattle.tree_build.specs.internal.Seeking.{IsSought, LiesBefore}
use Rattle.tree_build.specs.internal.Steps.{IsLevel}
use Rattle.tree_build.proofs.ChangeLemmas.{all_of}
use Rattle.tree_build.proofs.DescentLemmas.{all_parts, all_up_to_last}
use Rattle.tree_build.proofs.NextLemmas.{never_both}
use Rattle.tree_build.proofs.RecutLemmas.{pieces_back}

-- ---- rising keys

module _ {X : Type 0} (key : X → List ℕ) where
  abbrev pub Rise : Option (List ℕ) → List X → Type 0
  Rise low xs = AreRisingFrom low (map key xs)

  pub all_above : (low : List ℕ) (xs : List X) → Rise (Some low) xs → AllByRecursion (λ (y : X). IsBelow low (key y)) xs
  all_above low [] rise = tt
  all_above low (x ∷ xs) rise =
      (rise.0, all_of key (λ (y : X). IsBelow (key x) (key y)) (λ (y : X). IsBelow low (key y)) (λ y below. order_trans low (key x) (key y) rise.0 below) xs (all_above (key x) xs rise.1))

  pub rise_loose : (low : Option (List ℕ)) (xs : List X) → Rise low xs → Rise None xs
  rise_loose low [] rise = tt
  rise_loose low (x ∷ xs) rise = (tt, rise.1)

  pub rise_front : (low : Option (List ℕ)) (xs ys : List X) → Rise low (xs ++ ys) → Rise low xs
  rise_front low [] ys rise = tt
  rise_front low (x ∷ xs) ys rise = (rise.0, rise_front (Some (key x)) xs ys rise.1)

  pub rise_back : (low : Option (List ℕ)) (xs ys : List X) → Rise low (xs ++ ys) → Rise None ys
  rise_back low [] ys rise = rise_loose low ys rise
  rise_back low (x ∷ xs) ys rise = rise_back (Some (key x)) xs ys rise.1

  -- what comes after some items is above the last of them
  pub above_last : (low : Option (List ℕ)) (xs ys : List X) → Rise low (xs ++ ys) → 1 ≤ length xs → AllByRecursion (λ (y : X). IsBelow (last_key (map key xs)) (key y)) ys
  above_last low [] ys rise some = absurd (omega arith)
  above_last low (x ∷ []) ys rise some = all_above (key x) ys rise.1
  above_last low (x ∷ y ∷ xs) ys rise some = above_last (Some (key x)) (y ∷ xs) ys rise.1 (omega arith)

-- what is sought lies behind a front that lies before the wanted key
pub record IsBehind {X : Type 0} (front back others : List X) (x : X) (rest : List X) : Type 0 where
  pub more : List X
  pub others_are : others ≡ front ++ more
  pub back_is : back ≡ more ++ x ∷ rest

none_after : {X : Type 0} (xs ys : List X) → xs ++ ys ≡ [] → ys ≡ []
none_after [] ys e = e
none_after (x ∷ xs) ys e = absurd cc

pub sought_behind : {X : Type 0} (key : X → List ℕ) (wanted : List ℕ) (above : Bool) (front back : List X) → 1 ≤ length back → AllByRecursion (λ (x : X). LiesBefore wanted above (key x)) front
    → (others : List X) (x : X) (rest : List X) → IsSought key wanted above (front ++ back) others x rest → IsBehind front back others x rest
sought_behind key wanted above [] back some before others x rest sought = record { more = others; others_are = refl; back_is = sought.whole }
sought_behind {X} key wanted above (f ∷ front) back some before [] x rest sought =
    let whole : f ∷ (front ++ back) ≡ x ∷ rest = sought.whole in
    let head : f ≡ x = cc in
    let tail : front ++ back ≡ rest = cc in
    elim sought.reached [
      | inl does ↦ absurd (never_both wanted above (key x) (subst (λ (y : X). LiesBefore wanted above (key y)) head before.0) does)
      | inr none ↦ let no : back ≡ [] = none_after front back (tail ∙ none) in absurd (omega (arith, ap (length {A = X}) no))
    ]
sought_behind {X} key wanted above (f ∷ front) back some before (o ∷ others) x rest sought =
    let whole : f ∷ (front ++ back) ≡ o ∷ (others ++ x ∷ rest) = sought.whole in
    let head : f ≡ o = cc in
    let tail : front ++ back ≡ others ++ x ∷ rest = cc in
    let found = sought_behind key wanted above front back some before.1 others x rest (record { whole = tail; before = sought.before.1; reached = sought.reached }) in
    record { more = found.more; others_are = ap (λ (y : X). y ∷ others) (sym head) ∙ ap (λ (ys : List X). f ∷ ys) found.others_are; back_is = found.back_is }

-- ---- a node among the nodes of its level

pub join_mapped : {X Y : Type 0} (f : X → List Y) (xs : List X) → join (map f xs) ≡ flat_map f xs
join_mapped f [] = refl
join_mapped {X} {Y} f (x ∷ xs) = ap (λ (ys : List Y). f x ++ ys) (join_mapped f xs)

module _ {X : Type 0} (key : X → List ℕ) (ends : ℕ → X → Bool) (items : Node → List X) (over : List X → Node) (nodes : List Node) (level : IsLevel key ends items over nodes) where
  pub map_made : (ns : List Node) → AllByRecursion (λ (n : Node). over (items n) ≡ n) ns → map over (map items ns) ≡ ns
  map_made [] all = refl
  map_made (n ∷ ns) all = ap (λ (m : Node). m ∷ map over (map items ns)) all.0 ∙ ap (λ (ms : List Node). n ∷ ms) (map_made ns all.1)

  module _ (front : List Node) (node : Node) (back : List Node) (whole : nodes ≡ front ++ node ∷ back) where
    own : AllByRecursion (λ (n : Node). greatest_of n ≡ last_key (map key (items n))) (front ++ node ∷ back)
    own = subst (λ (ns : List Node). AllByRecursion (λ (n : Node). greatest_of n ≡ last_key (map key (items n))) ns) whole level.greatest

    pub own_greatest : greatest_of node ≡ last_key (map key (items node))
    own_greatest = (all_parts (λ (n : Node). greatest_of n ≡ last_key (map key (items n))) front (node ∷ back) own).1.0

    from_here : AreRisingFrom None (map key (items node ++ flat_map items back))
    from_here = rise_back key None (flat_map items front) (items node ++ flat_map items back)
        (subst (λ (xs : List X). AreRisingFrom None (map key xs)) (ap (flat_map items) whole ∙ flat_map-append items front (node ∷ back)) level.rising)

    -- its items are up to its greatest key
    pub items_up_to : AllByRecursion (λ (x : X). IsUpTo (key x) (greatest_of node)) (items node)
    items_up_to = subst (λ (k : List ℕ). AllByRecursion (λ (x : X). IsUpTo (key x) k) (items node)) (sym own_greatest)
        (all_up_to_last key None (items node) (rise_front key None (items node) (flat_map items back) from_here))

    -- and those of the nodes after it are above
    pub items_above : AllByRecursion (λ (y : X). IsBelow (greatest_of node) (key y)) (flat_map items back)
    items_above = elim level.cut [
      | inl one ↦ none back (omega (arith, one, ap (length {A = Node}) whole, length-append front (node ∷ back)))
      | inr pieces ↦
          let some = (all_parts (λ (n : Node). 1 ≤ length (items n)) front (node ∷ back) (subst (λ (ns : List Node). AllByRecursion (λ (n : Node). 1 ≤ length (items n)) ns) whole pieces.some)).1.0 in
          subst (λ (k : List ℕ). AllByRecursion (λ (y : X). IsBelow k (key y)) (flat_map items back)) (sym own_greatest) (above_last key None (items node) (flat_map items back) from_here some)
    ]
      where
        none : (ns : List Node) → length ns ≤ 0 → AllByRecursion (λ (y : X). IsBelow (greatest_of node) (key y)) (flat_map items ns)
        none [] le = tt
        none (n ∷ ns) le = absurd (omega arith)

  -- items of nodes are below what the nodes' greatest keys are below
  pub items_below : (k : List ℕ) (done front back : List Node) → nodes ≡ done ++ (front ++ back) → AllByRecursion (λ (n : Node). IsBelow (greatest_of n) k) front → AllByRecursion (λ (x : X). IsBelow (key x) k) (flat_map items front)
  items_below k done [] back whole all = tt
  items_below k done (n ∷ front) back whole all =
      both (items n) (flat_map items front) (up (items n) (items_up_to done n (front ++ back) whole) all.0)
      (items_below k (done ++ n ∷ []) front back (whole ∙ sym (append_assoc done (n ∷ []) (front ++ back))) all.1)
    where
      up : (xs : List X) → AllByRecursion (λ (x : X). IsUpTo (key x) (greatest_of n)) xs → IsBelow (greatest_of n) k → AllByRecursion (λ (x : X). IsBelow (key x) k) xs
      up [] all below = tt
      up (x ∷ xs) all below = (elim all.0 [ inl less ↦ order_trans (key x) (greatest_of n) k less below | inr same ↦ subst (λ (l : List ℕ). IsBelow l k) (sym same) below ], up xs all.1 below)

      both : (xs ys : List X) → AllByRecursion (λ (x : X). IsBelow (key x) k) xs → AllByRecursion (λ (x : X). IsBelow (key x) k) ys → AllByRecursion (λ (x : X). IsBelow (key x) k) (xs ++ ys)
      both [] ys one two = two
      both (x ∷ xs) ys one two = (one.0, both xs ys one.1 two)

  -- the pieces of nodes after some
  pub pieces_after : (front back : List Node) → nodes ≡ front ++ back → 2 ≤ length nodes → ArePieces ends (map items back)
  pieces_after front back whole two = elim level.cut [
    | inl one ↦ absurd (omega (arith, one))
    | inr pieces ↦ pieces_back ends (map items front) (map items back) (subst (λ (ps : List (List X)). ArePieces ends ps) (ap (map items) whole ∙ map-append items front back) pieces.are)
  ]
