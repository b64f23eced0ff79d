-- The members of a changed list: what a change puts, and what was there under a key that no change names.
use Rattle.std.proofs.Common.{◌≡◌, ◌↔◌, ◌⊎◌, inl, inr, ℕ, zero, suc, ◌<◌, List, [], ◌∷◌, length, map, get_or, Option, None, Some, refl, sym, ap, ◌∙◌, arith}
use Rattle.std.specs.List.{Contains}
use Rattle.tree_node.specs.Nodes.{AreRisingFrom, Binding, keys_of}
use Rattle.tree_build.specs.Changing.{Change, IsPutBy, one_or_none}
use Rattle.tree_build.specs.Rebuilding.{changed_entries, changes_of, keys_of_changes}
use Rattle.tree_build.specs.declared.change.EntryChange.{EntryChange}
use Rattle.tree_build.specs.internal.Weaving.{IsIn}
use Rattle.tree_build.proofs.ChangedLaw.{IsFree, IsPut, changed_holds}
use Rattle.tree_build.proofs.DifferChanges.{changed_rises}
use Rattle.tree_build.proofs.OldLevels.{own_changes}

contains_in : {X : Type 0} (x : X) (xs : List X) → IsIn x xs → Contains xs x
contains_in x [] is = absurd is
contains_in x (y ∷ ys) (inl here) = (0, omega arith, sym here)
contains_in x (y ∷ ys) (inr there) = let rest = contains_in x ys there in (suc rest.0, omega (arith, rest.1), rest.2)

in_contained : {X : Type 0} (x : X) (xs : List X) → Contains xs x → IsIn x xs
in_contained {X = X} x xs is = at xs is.0 is.1 is.2
  where
    at : (ys : List X) (k : ℕ) → k < length ys → get_or ys k x ≡ x → IsIn x ys
    at [] k lt e = omega (arith, lt)
    at (y ∷ ys) zero lt e = inl (sym e)
    at (y ∷ ys) (suc k) lt e = inr (at ys k (omega (arith, lt)) e)

module _ {X : Type 0} (key : X → List ℕ) where
  some_put : (put : Option X) (x : X) → IsIn x (one_or_none put) → put ≡ Some x
  some_put None x is = absurd is
  some_put (Some y) x (inl here) = ap (λ (z : X). Some z) (sym here)
  some_put (Some y) x (inr never) = absurd never

  put_is : (put : Option X) (x : X) → put ≡ Some x → IsIn x (one_or_none put)
  put_is None x e = absurd (Prim.cc)
  put_is (Some y) x e = inl (Prim.cc)

  put_by : (changes : List (Change X)) (x : X) → IsPut key changes x → IsPutBy changes x
  put_by [] x is = absurd is
  put_by (c ∷ cs) x (inl here) = (c, contains_in c (c ∷ cs) (inl refl), some_put c.put x here)
  put_by (c ∷ cs) x (inr there) = let rest = put_by cs x there in (rest.0, contains_in rest.0 (c ∷ cs) (inr (in_contained rest.0 cs rest.1)), rest.2)

  by_put : (changes : List (Change X)) (x : X) (c : Change X) → IsIn c changes → c.put ≡ Some x → IsPut key changes x
  by_put [] x c is e = absurd is
  by_put (d ∷ ds) x c (inl here) e = inl (put_is d.put x (ap (λ (f : Change X). f.put) (sym here) ∙ e))
  by_put (d ∷ ds) x c (inr there) e = inr (by_put ds x c there e)

  free_of : (changes : List (Change X)) (k : List ℕ) → (IsIn k (map (λ (c : Change X). c.key) changes) → ⊥) → IsFree key changes k
  free_of [] k unnamed = tt
  free_of (c ∷ cs) k unnamed = ((λ same. unnamed (inl same)), free_of cs k (λ there. unnamed (inr there)))

  unnamed_of : (changes : List (Change X)) (k : List ℕ) → IsFree key changes k → IsIn k (map (λ (c : Change X). c.key) changes) → ⊥
  unnamed_of [] k free is = is
  unnamed_of (c ∷ cs) k free (inl same) = free.0 same
  unnamed_of (c ∷ cs) k free (inr there) = unnamed_of cs k free.1 there

module _ (entries : List Binding) (changes : List EntryChange) (rise : AreRisingFrom None (keys_of entries)) (all : AreRisingFrom None (keys_of_changes (changes_of changes))) where
  pub changed_members : (e : Binding) → Contains (changed_entries entries (changes_of changes)) e
      ↔ (IsPutBy (changes_of changes) e ⊎ (Contains entries e × ¬ Contains (keys_of_changes (changes_of changes)) e.key))
  changed_members e =
      let cs = changes_of changes in
      let names = keys_of_changes cs in
      let holds = changed_holds (λ (b : Binding). b.key) entries cs rise (own_changes changes all) e in (
        (λ is. elim (holds.0 (in_contained e (changed_entries entries cs) is)) [
          | inl put ↦ inl (put_by (λ (b : Binding). b.key) cs e put)
          | inr was ↦ inr (contains_in e entries was.0, λ named. unnamed_of (λ (b : Binding). b.key) cs e.key was.1 (in_contained e.key names named))
        ]),
        (λ is. elim is [
          | inl put ↦ contains_in e (changed_entries entries cs) (holds.1 (inl (by_put (λ (b : Binding). b.key) cs e put.0 (in_contained put.0 cs put.1) put.2)))
          | inr was ↦ contains_in e (changed_entries entries cs)
              (holds.1 (inr (in_contained e entries was.0, free_of (λ (b : Binding). b.key) cs e.key (λ named. was.1 (contains_in e.key names named)))))
        ]),
      )

  pub changed_keys_rise : AreRisingFrom None (keys_of (changed_entries entries (changes_of changes)))
  changed_keys_rise = changed_rises (λ (b : Binding). b.key) entries (changes_of changes) rise (own_changes changes all)
