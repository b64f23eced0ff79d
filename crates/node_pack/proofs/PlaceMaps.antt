-- What is known after a place is remembered.
use Rattle.std.proofs.Common.{◌≡◌, ◌⊎◌, ℕ, List, [], ◌∷◌, ◌++◌, Bool, true, false, cond, Option, Some, None, IsSome, refl, sym, ap, subst, ◌∙◌, inl, inr}
use Rattle.std.specs.HashMap.{HashMap, IsEmpty, get, Updates}
use Rattle.std.specs.List.{AllByRecursion}
use Rattle.std.specs.Map.{lookup}
use Rattle.tree_node.specs.Keys.{digest_eq}
use Rattle.tree_node.specs.declared.digest.Digest.{Digest}
use Rattle.tree_node.proofs.shared.MapLemmas.{eq_is}
use Rattle.node_pack.specs.Known.{AreTrue, IsKnown, key_with}
use Rattle.node_pack.specs.declared.place.Place.{Place}

-- an option has one value
one_value : (a b : Place) → Some a ≡ Some b → a ≡ b
one_value a b e = Prim.cc

some_either : (b : Bool) (p : Place) (o : Option Place) → IsSome o → IsSome (cond b (Some p) o)
some_either true p o h = refl
some_either false p o h = h

module _ {S : Type 0} (m n : HashMap Digest Place S) (k : Digest) (p : Place) (up : Updates digest_eq m n k (Some p)) where
  -- what was known is known
  pub known_stays : (other : List ℕ) → IsKnown m other → IsKnown n other
  known_stays other known =
      subst (λ (o : Option Place). IsSome o) (sym (up.0 (key_with other))) (some_either (digest_eq k (key_with other)) p (get digest_eq m (key_with other)) known)

  true_by : (place_of : List ℕ → Option Place) (q : Digest) (x : Place) (b : Bool) → digest_eq k q ≡ b → cond b (Some p) (get digest_eq m q) ≡ Some x
      → AreTrue place_of m → place_of k.0 ≡ Some p → place_of q.0 ≡ Some x
  true_by place_of q x true hit is old here = ap (λ (d : Digest). place_of d.0) (sym (eq_is k q hit)) ∙ here ∙ is
  true_by place_of q x false miss is old here = old q x is

  -- where what was known is true, and what is remembered too, all is true
  pub trues_stay : (place_of : List ℕ → Option Place) → AreTrue place_of m → place_of k.0 ≡ Some p → AreTrue place_of n
  trues_stay place_of old here q x is = true_by place_of q x (digest_eq k q) refl (sym (up.0 q) ∙ is) old here

-- what is known was known, or is what was remembered
module _ {S : Type 0} (m n : HashMap Digest Place S) (k : Digest) (p : Place) (up : Updates digest_eq m n k (Some p)) where
  known_by : (other : List ℕ) (b : Bool) → digest_eq k (key_with other) ≡ b → IsSome (cond b (Some p) (get digest_eq m (key_with other))) → IsKnown m other ⊎ (other ≡ k.0)
  known_by other true hit known = inr (ap (λ (d : Digest). d.0) (sym (eq_is k (key_with other) hit)))
  known_by other false miss known = inl known

  pub known_only : (other : List ℕ) → IsKnown n other → IsKnown m other ⊎ (other ≡ k.0)
  known_only other known =
      known_by other (digest_eq k (key_with other)) refl (subst (λ (o : Option Place). IsSome o) (up.0 (key_with other)) known)

-- where nothing was known, the one that was remembered is
pub only_known : {S : Type 0} (m n : HashMap Digest Place S) (k : Digest) → IsEmpty m → ((other : List ℕ) → IsKnown n other → IsKnown m other ⊎ (other ≡ k.0))
    → (other : List ℕ) → IsKnown n other → other ≡ k.0
only_known m n k empty only other known =
    elim (only other known) [
      | inl was ↦ absurd (let none : lookup (digest_eq (key_with other)) m.entries ≡ None = ap (lookup (digest_eq (key_with other))) empty in cc)
      | inr is ↦ is
    ]

-- all that is known stays known
pub all_known_stay : {S : Type 0} (m n : HashMap Digest Place S) → ((key : List ℕ) → IsKnown m key → IsKnown n key)
    → (keys : List (List ℕ)) → AllByRecursion (IsKnown m) keys → AllByRecursion (IsKnown n) keys
all_known_stay m n keeps [] all = tt
all_known_stay m n keeps (key ∷ keys) all = (keeps key all.0, all_known_stay m n keeps keys all.1)

-- what is so of each of a list, and of one more
pub all_and : {X : Type 0} (P : X → Type 0) (xs : List X) (x : X) → AllByRecursion P xs → P x → AllByRecursion P (xs ++ x ∷ [])
all_and P [] x all one = (one, tt)
all_and P (y ∷ xs) x all one = (all.0, all_and P xs x all.1 one)
