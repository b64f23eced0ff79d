-- Records whose keys rise, as entries of which each comes once.
use Rattle.std.proofs.Common.{◌≡◌, ◌↔◌, ◌⊎◌, inl, inr, ℕ, Bool, true, false, cond, List, [], ◌∷◌, ◌++◌, Option, Some, None, IfSome, refl, sym, ap, subst, ◌∙◌, ◌≤◌, length, arith}
use Rattle.std.specs.List.{AllByRecursion, Contains}
use Rattle.std.specs.Ordering.{is_lt, ordering_reverse}
use Rattle.std.specs.declared.cmp.Ordering.{Ordering}
use Rattle.std.specs.declared.cmp.Ordering.TheVariants.{Less, Equal, Greater}
use Rattle.tree_node.specs.Nodes.{AreRisingFrom, Binding, keys_of}
use Rattle.tree_node.specs.Order.{IsBelow, order}
use Rattle.tree_node.specs.internal.OrderLemmas.{order_flip, order_same}
use Rattle.osm_keys.proofs.shared.Members.{first_or_in_rest, here, in_rest, none}
use Rattle.osm_index.specs.EntryLists.{IsKeyed}
use Rattle.external_sort.specs.Records.{Entry, Rises}
use Rattle.entry_sort.specs.internal.Once.{added, binding_of, bindings_of, is_new, key_after, once_from}

pub less : (o : Ordering) → is_lt o ≡ true → o ≡ Less
less Less t = refl
less Equal t = cc
less Greater t = cc

-- of two none below the other
neither : (o p : Ordering) → p ≡ ordering_reverse o → is_lt o ≡ false → is_lt p ≡ false → o ≡ Equal
neither Less p e f g = cc
neither Equal p e f g = refl
neither Greater p e f g = let h : is_lt (ordering_reverse Greater) ≡ false = sym (ap is_lt e) ∙ g in cc

pub same_key : (a b : List ℕ) → is_lt (order a b) ≡ false → is_lt (order b a) ≡ false → a ≡ b
same_key a b f g = order_same a b (neither (order a b) (order b a) (order_flip b a) f g)

above : (last : Option (List ℕ)) (key : List ℕ) → is_new last key ≡ true → IfSome last (λ (l : List ℕ). IsBelow l key)
above None key t = tt
above (Some l) key t = less (order l key) t

rises_on : (last : Option (List ℕ)) (e : Entry) (es : List Entry) (b : Bool) → is_new last e.key ≡ b → AreRisingFrom (Some e.key) (keys_of (once_from (Some e.key) es)) → AreRisingFrom last (keys_of (once_from last es))
    → AreRisingFrom last (keys_of (once_from last (e ∷ es)))
rises_on last e es true t more less = rw t (above last e.key t, more)
rises_on last e es false f more less = rw f less

-- what is added rises from the last key on
pub once_rises : (last : Option (List ℕ)) (es : List Entry) → AreRisingFrom last (keys_of (once_from last es))
once_rises last [] = tt
once_rises last (e ∷ es) = rises_on last e es (is_new last e.key) refl (once_rises (Some e.key) es) (once_rises last es)

drawn_on : (last : Option (List ℕ)) (e : Entry) (es : List Entry) (b : Binding) (n : Bool) → is_new last e.key ≡ n → (Contains (once_from (Some e.key) es) b → Contains (bindings_of es) b) → (Contains (once_from last es) b → Contains (bindings_of es) b)
    → Contains (once_from last (e ∷ es)) b → Contains (bindings_of (e ∷ es)) b
drawn_on last e es b true t more less h =
    elim (first_or_in_rest (binding_of e) (once_from (Some e.key) es) b (rw t at h)) [
      | inl same ↦ subst (λ (x : Binding). Contains (bindings_of (e ∷ es)) x) same (here (binding_of e) (bindings_of es))
      | inr rest ↦ in_rest (binding_of e) (bindings_of es) b (more rest)
    ]
drawn_on last e es b false f more less h = in_rest (binding_of e) (bindings_of es) b (less (rw f at h))

-- it is drawn from the records
pub once_drawn : (last : Option (List ℕ)) (es : List Entry) (b : Binding) → Contains (once_from last es) b → Contains (bindings_of es) b
once_drawn last [] b h = h
once_drawn last (e ∷ es) b h = drawn_on last e es b (is_new last e.key) refl (once_drawn (Some e.key) es b) (once_drawn last es b) h

-- a new key adds an entry
pub once_some : (last : Option (List ℕ)) (e : Entry) (es : List Entry) → is_new last e.key ≡ true → 1 ≤ length (once_from last (e ∷ es))
once_some last e es t = rw t (omega arith)

keyed_rest : (x : Binding) (xs : List Binding) → IsKeyed (x ∷ xs) → IsKeyed xs
keyed_rest x xs keyed a b h k = keyed a b (in_rest x xs a h) (in_rest x xs b k)

without : (x y : Binding) (xs : List Binding) (b : Binding) → Contains (x ∷ xs) b → Contains (x ∷ y ∷ xs) b
without x y xs b h =
    elim (first_or_in_rest x xs b h) [
      | inl same ↦ subst (λ (z : Binding). Contains (x ∷ y ∷ xs) z) same (here x (y ∷ xs))
      | inr more ↦ in_rest x (y ∷ xs) b (in_rest y xs b more)
    ]

-- nothing is lost after the lowest record
abbrev IsKept : Entry → List Entry → Type 0
IsKept low es = Rises (low ∷ es) → IsKeyed (bindings_of (low ∷ es)) → (b : Binding) → Contains (bindings_of (low ∷ es)) b → Contains (binding_of low ∷ once_from (Some low.key) es) b

kept_on : (low e : Entry) (es : List Entry) → IsKept e es → IsKept low es → Rises (low ∷ e ∷ es) → IsKeyed (bindings_of (low ∷ e ∷ es)) → (b : Binding) (n : Bool) → is_new (Some low.key) e.key ≡ n
    → (binding_of low ≡ b) ⊎ Contains (bindings_of (e ∷ es)) b → Contains (binding_of low ∷ once_from (Some low.key) (e ∷ es)) b
kept_on low e es more less r keyed b n f (inl same) = subst (λ (x : Binding). Contains (binding_of low ∷ once_from (Some low.key) (e ∷ es)) x) same (here (binding_of low) (once_from (Some low.key) (e ∷ es)))
kept_on low e es more less r keyed b true t (inr rest) =
    rw t (in_rest (binding_of low) (binding_of e ∷ once_from (Some e.key) es) b (more r.1 (keyed_rest (binding_of low) (bindings_of (e ∷ es)) keyed) b rest))
kept_on low e es more less r keyed b false f (inr rest) =
    let keys : e.key ≡ low.key = sym (same_key low.key e.key f r.0.0) in
    let one : binding_of e ≡ binding_of low = keyed (binding_of e) (binding_of low) (in_rest (binding_of low) (bindings_of (e ∷ es)) (binding_of e) (here (binding_of e) (bindings_of es))) (here (binding_of low) (bindings_of (e ∷ es))) keys in
    let there : Contains (bindings_of (low ∷ es)) b = subst (λ (x : Binding). Contains (x ∷ bindings_of es) b) one rest in
    let sub : IsKeyed (bindings_of (low ∷ es)) = λ x y p q. keyed x y (without (binding_of low) (binding_of e) (bindings_of es) x p) (without (binding_of low) (binding_of e) (bindings_of es) y q) in
    rw f (less (r.0.1, r.1.1) sub b there)

kept : (low : Entry) (es : List Entry) → IsKept low es
kept low [] = λ r keyed b h. h
kept low (e ∷ es) = λ r keyed b h. kept_on low e es (kept e es) (kept low es) r keyed b (is_new (Some low.key) e.key) refl (first_or_in_rest (binding_of low) (bindings_of (e ∷ es)) b h)

-- the records' entries, each once
pub once_whole : (es : List Entry) → Rises es → IsKeyed (bindings_of es) → (b : Binding) → Contains (once_from None es) b ↔ Contains (bindings_of es) b
once_whole [] r keyed b = ((λ h. h), (λ h. h))
once_whole (e ∷ es) r keyed b = ((λ h. once_drawn None (e ∷ es) b h), (λ h. kept e es r keyed b h))
