-- The node that is sought is the only one, so what is sought above a node's greatest key is the node behind it.
use Rattle.std.proofs.Common.{◌≡◌, ℕ, List, [], ◌∷◌, ◌++◌, map, ◌⊎◌, inl, inr, Bool, true, false, Option, None, Some, refl, sym, ap, subst, ◌∙◌, append_assoc}
use Rattle.std.specs.List.{AllByRecursion}
use Rattle.tree_node.specs.Nodes.{AreRisingFrom}
use Rattle.std.specs.declared.cmp.Ordering.{Ordering}
use Rattle.std.specs.declared.cmp.Ordering.TheVariants.{Less, Equal, Greater}
use Rattle.tree_node.specs.Order.{order, IsBelow}
use Rattle.tree_node.specs.internal.OrderLemmas.{not_itself, order_above, order_same, order_trans}
use Rattle.tree_node.specs.Trees.{last_key}
use Rattle.tree_build.specs.internal.RisingChanges.{IsUpTo}
use Rattle.tree_build.specs.internal.Seeking.{IsSought, LiesBefore, Reaches}
use Rattle.tree_build.specs.internal.Weaving.{IsIn}
use Rattle.tree_build.proofs.ChangeLemmas.{all_append}

-- what lies before a key doesn't reach it
pub never_both : (wanted : List ℕ) (above : Bool) (k : List ℕ) → LiesBefore wanted above k → Reaches wanted above k → ⊥
never_both wanted false k before (inl up) = not_itself k k (order_trans k wanted k before up) refl
never_both wanted false k before (inr same) = not_itself k wanted before (sym same)
never_both wanted true k (inl before) up = not_itself k k (order_trans k wanted k before up) refl
never_both wanted true k (inr same) up = not_itself wanted k up (sym same)

none_behind : {X : Type 0} (xs : List X) (x : X) (ys : List X) → xs ++ x ∷ ys ≡ [] → ⊥
none_behind [] x ys e = absurd cc
none_behind (z ∷ xs) x ys e = absurd cc

module _ {X : Type 0} (key : X → List ℕ) where
  pub record AreSame (front others : List X) (x y : X) (back rest : List X) : Type 0 where
    pub fronts : front ≡ others
    pub at : x ≡ y
    pub backs : back ≡ rest

  -- there is one place only
  pub one_place : (wanted : List ℕ) (above : Bool) (front others : List X) (x y : X) (back rest : List X) → front ++ x ∷ back ≡ others ++ y ∷ rest
      → AllByRecursion (λ (z : X). LiesBefore wanted above (key z)) front → Reaches wanted above (key x) ⊎ (back ≡ [])
      → AllByRecursion (λ (z : X). LiesBefore wanted above (key z)) others → Reaches wanted above (key y) ⊎ (rest ≡ []) → AreSame front others x y back rest
  one_place wanted above [] [] x y back rest e low reach before here = record { fronts = refl; at = cc; backs = cc }
  one_place wanted above [] (z ∷ others) x y back rest e low (inr end) before here =
      let tail : others ++ y ∷ rest ≡ back = cc in
      absurd (none_behind others y rest (tail ∙ end))
  one_place wanted above [] (z ∷ others) x y back rest e low (inl reach) before here =
      let same : z ≡ x = cc in
      absurd (never_both wanted above (key x) (subst (λ (w : X). LiesBefore wanted above (key w)) same before.0) reach)
  one_place wanted above (w ∷ front) [] x y back rest e low reach before (inl does) =
      let same : w ≡ y = cc in
      absurd (never_both wanted above (key y) (subst (λ (z : X). LiesBefore wanted above (key z)) same low.0) does)
  one_place wanted above (w ∷ front) [] x y back rest e low reach before (inr end) =
      let tail : front ++ x ∷ back ≡ rest = cc in
      absurd (none_behind front x back (tail ∙ end))
  one_place wanted above (w ∷ front) (z ∷ others) x y back rest e low reach before here =
      let tail : front ++ x ∷ back ≡ others ++ y ∷ rest = cc in
      let head : w ≡ z = cc in
      let more = one_place wanted above front others x y back rest tail low.1 reach before.1 here in
      record { fronts = ap (λ (v : X). v ∷ front) head ∙ ap (λ (vs : List X). z ∷ vs) more.fronts; at = more.at; backs = more.backs }

  abbrev Rise : Option (List ℕ) → List X → Type 0
  Rise low xs = AreRisingFrom low (map key xs)

  below_later : (low : List ℕ) (front : List X) (p : X) (rest : List X) → Rise (Some low) (front ++ p ∷ rest) → IsBelow low (key p)
  below_later low [] p rest rise = rise.0
  below_later low (x ∷ front) p rest rise = order_trans low (key x) (key p) rise.0 (below_later (key x) front p rest rise.1)

  up_to_here : (low : Option (List ℕ)) (front : List X) (p : X) (rest : List X) → Rise low (front ++ p ∷ rest) → AllByRecursion (λ (x : X). IsUpTo (key x) (key p)) (front ++ p ∷ [])
  up_to_here low [] p rest rise = (inr refl, tt)
  up_to_here low (x ∷ front) p rest rise = (inl (below_later (key x) front p rest rise.1), up_to_here (Some (key x)) front p rest rise.1)

  then_above : (low : Option (List ℕ)) (front : List X) (p q : X) (rest : List X) → Rise low (front ++ p ∷ q ∷ rest) → IsBelow (key p) (key q)
  then_above low [] p q rest rise = rise.1.0
  then_above low (x ∷ front) p q rest rise = then_above (Some (key x)) front p q rest rise.1

  -- what is sought above the key of one is the next one
  pub sought_next : (xs : List X) → Rise None xs → (front : List X) (p q : X) (back : List X) → xs ≡ front ++ p ∷ q ∷ back
      → (others : List X) (x : X) (rest : List X) → IsSought key (key p) true xs others x rest → AreSame (front ++ p ∷ []) others q x back rest
  sought_next xs rise front p q back e others x rest sought =
      let up = subst (λ (ys : List X). Rise None ys) e rise in
      one_place (key p) true (front ++ p ∷ []) others q x back rest (append_assoc front (p ∷ []) (q ∷ back) ∙ sym e ∙ sought.whole)
      (up_to_here None front p (q ∷ back) up) (inl (then_above None front p q back up)) sought.before sought.reached

  -- ---- a key within the span of a run of items is sought in the run

  pub either_way : (wanted : List ℕ) (above : Bool) (k : List ℕ) → LiesBefore wanted above k ⊎ Reaches wanted above k
  either_way wanted false k = by (order k wanted) refl
    where
      by : (o : Ordering) → order k wanted ≡ o → IsBelow k wanted ⊎ IsUpTo wanted k
      by Less e = inl e
      by Equal e = inr (inr (sym (order_same k wanted e)))
      by Greater e = inr (inl (order_above k wanted e))
  either_way wanted true k = by (order k wanted) refl
    where
      by : (o : Ordering) → order k wanted ≡ o → IsUpTo k wanted ⊎ IsBelow wanted k
      by Less e = inl (inl e)
      by Equal e = inl (inr (order_same k wanted e))
      by Greater e = inr (order_above k wanted e)

  pub record FoundIn (wanted : List ℕ) (above : Bool) (run back : List X) : Type 0 where
    pub front : List X
    pub x : X
    pub rest : List X
    pub whole : run ≡ front ++ x ∷ rest
    pub before : AllByRecursion (λ (z : X). LiesBefore wanted above (key z)) front
    pub reached : Reaches wanted above (key x) ⊎ (rest ++ back ≡ [])

  -- the first of the run that reaches the key, or its last one, where the run's last reaches it or ends the list
  find_in : (wanted : List ℕ) (above : Bool) (x : X) (run back : List X) → Reaches wanted above (last_key (map key (x ∷ run))) ⊎ (back ≡ []) → FoundIn wanted above (x ∷ run) back
  find_in wanted above x [] back reached = record { front = []; x = x; rest = []; whole = refl; before = tt; reached = reached }
  find_in wanted above x (y ∷ run) back reached = elim (either_way wanted above (key x)) [
    | inr does ↦ record { front = []; x = x; rest = y ∷ run; whole = refl; before = tt; reached = inl does }
    | inl low ↦ more low (find_in wanted above y run back reached)
  ]
    where
      more : LiesBefore wanted above (key x) → FoundIn wanted above (y ∷ run) back → FoundIn wanted above (x ∷ y ∷ run) back
      more low found = record { front = x ∷ found.front; x = found.x; rest = found.rest; whole = ap (λ (zs : List X). x ∷ zs) found.whole; before = (low, found.before); reached = found.reached }

  -- so what is sought is one of the run
  pub sought_in_run : (wanted : List ℕ) (above : Bool) (front : List X) (x : X) (run back : List X) (others : List X) (y : X) (rest : List X)
      → AllByRecursion (λ (z : X). LiesBefore wanted above (key z)) front → Reaches wanted above (last_key (map key (x ∷ run))) ⊎ (back ≡ [])
      → IsSought key wanted above (front ++ ((x ∷ run) ++ back)) others y rest → IsIn y (x ∷ run)
  sought_in_run wanted above front x run back others y rest low reached sought =
      let found = find_in wanted above x run back reached in
      let e : (front ++ found.front) ++ found.x ∷ (found.rest ++ back) ≡ others ++ y ∷ rest =
      append_assoc front found.front (found.x ∷ (found.rest ++ back))
      ∙ ap (λ (zs : List X). front ++ zs) (sym (append_assoc found.front (found.x ∷ found.rest) back) ∙ ap (λ (zs : List X). zs ++ back) (sym found.whole))
      ∙ sought.whole in
      let same = one_place wanted above (front ++ found.front) others found.x y (found.rest ++ back) rest e
      (all_append (λ (z : X). LiesBefore wanted above (key z)) front found.front low found.before) found.reached sought.before sought.reached in
      subst (λ (zs : List X). IsIn y zs) (sym found.whole) (in_middle found.front found.x found.rest (sym same.at))
    where
      in_middle : (xs : List X) (z : X) (zs : List X) → y ≡ z → IsIn y (xs ++ z ∷ zs)
      in_middle [] z zs e = inl e
      in_middle (w ∷ xs) z zs e = inr (in_middle xs z zs e)
