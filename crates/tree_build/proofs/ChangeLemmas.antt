-- Lists that are changed by key, in parts.
use Rattle.std.proofs.Common.{◌≡◌, ℕ, List, [], ◌∷◌, ◌++◌, inl, inr, Option, Some, None, refl, sym, ap, subst, ◌∙◌, append_assoc}
use Rattle.std.specs.Prelude.{IfSome}
use Rattle.std.specs.List.{AllByRecursion}
use Rattle.std.specs.Ordering.{ordering_reverse}
use Rattle.std.specs.declared.cmp.Ordering.{Ordering}
use Rattle.std.specs.declared.cmp.Ordering.TheVariants.{Less, Equal, Greater}
use Rattle.std.proofs.lemmas.List.{append-nil}
use Rattle.tree_node.specs.Order.{order, IsBelow}
use Rattle.tree_node.specs.internal.OrderLemmas.{order_trans, order_flip, order_itself}
use Rattle.tree_build.specs.Changing.{Change, one_or_none, by_order, changed_once, changed}
use Rattle.tree_build.specs.internal.RisingChanges.{AreOwnAndRising, IsOwn, IsUpTo}

-- ---- order

-- what is below another is compared from the other side
pub order_over : (a b : List ℕ) → IsBelow a b → order b a ≡ Greater
order_over a b below = order_flip b a ∙ ap ordering_reverse below

pub up_to_below : (a b c : List ℕ) → IsUpTo a b → IsBelow b c → IsBelow a c
up_to_below a b c (inl p) q = order_trans a b c p q
up_to_below a b c (inr e) q = subst (λ (k : List ℕ). IsBelow k c) (sym e) q

pub all_append : {X : Type 0} (P : X → Type 0) (xs ys : List X) → AllByRecursion P xs → AllByRecursion P ys → AllByRecursion P (xs ++ ys)
all_append P [] ys p q = q
all_append P (x ∷ xs) ys p q = (p.0, all_append P xs ys p.1 q)

module _ {X : Type 0} (key : X → List ℕ) where
  -- ---- all of some items, all of some changes

  pub all_of : (P Q : X → Type 0) → ((x : X) → P x → Q x) → (xs : List X) → AllByRecursion P xs → AllByRecursion Q xs
  all_of P Q f [] all = tt
  all_of P Q f (x ∷ xs) all = (f x all.0, all_of P Q f xs all.1)

  -- ---- one change

  -- a change before all items of a part is one of the part before
  pub once_front : (xs ys : List X) (change : Change X) → AllByRecursion (λ (y : X). IsBelow change.key (key y)) ys → changed_once key (xs ++ ys) change ≡ changed_once key xs change ++ ys
  once_front [] [] change all = sym (append-nil (one_or_none change.put))
  once_front [] (y ∷ ys) change all = ap (λ (o : Ordering). by_order o (one_or_none change.put ++ y ∷ ys) (one_or_none change.put ++ ys) (y ∷ changed_once key ys change)) all.0
  once_front (x ∷ xs) ys change all = step (order change.key (key x)) (once_front xs ys change all)
    where
      step : (o : Ordering) → changed_once key (xs ++ ys) change ≡ changed_once key xs change ++ ys
          → by_order o (one_or_none change.put ++ x ∷ (xs ++ ys)) (one_or_none change.put ++ (xs ++ ys)) (x ∷ changed_once key (xs ++ ys) change)
          ≡ by_order o (one_or_none change.put ++ x ∷ xs) (one_or_none change.put ++ xs) (x ∷ changed_once key xs change) ++ ys
      step Less e = sym (append_assoc (one_or_none change.put) (x ∷ xs) ys)
      step Equal e = sym (append_assoc (one_or_none change.put) xs ys)
      step Greater e = ap (λ (zs : List X). x ∷ zs) e

  -- a change behind all items of a part is one of the part behind
  pub once_behind : (xs ys : List X) (change : Change X) → AllByRecursion (λ (x : X). IsBelow (key x) change.key) xs → changed_once key (xs ++ ys) change ≡ xs ++ changed_once key ys change
  once_behind [] ys change all = refl
  once_behind (x ∷ xs) ys change all =
      ap (λ (o : Ordering). by_order o (one_or_none change.put ++ x ∷ (xs ++ ys)) (one_or_none change.put ++ (xs ++ ys)) (x ∷ changed_once key (xs ++ ys) change)) (order_over (key x) change.key all.0)
      ∙ ap (λ (zs : List X). x ∷ zs) (once_behind xs ys change all.1)

  -- a property of the items that what is put has too stays
  pub once_all : (P : X → Type 0) (xs : List X) (change : Change X) → AllByRecursion P xs → AllByRecursion P (one_or_none change.put) → AllByRecursion P (changed_once key xs change)
  once_all P [] change all put = put
  once_all P (x ∷ xs) change all put = step (order change.key (key x)) (once_all P xs change all.1 put)
    where
      step : (o : Ordering) → AllByRecursion P (changed_once key xs change) → AllByRecursion P (by_order o (one_or_none change.put ++ x ∷ xs) (one_or_none change.put ++ xs) (x ∷ changed_once key xs change))
      step Less rest = all_append P (one_or_none change.put) (x ∷ xs) put all
      step Equal rest = all_append P (one_or_none change.put) xs put all.1
      step Greater rest = (all.0, rest)

  -- ---- several changes

  pub changed_append : (xs : List X) (before behind : List (Change X)) → changed key xs (before ++ behind) ≡ changed key (changed key xs before) behind
  changed_append xs [] behind = refl
  changed_append xs (c ∷ cs) behind = changed_append (changed_once key xs c) cs behind

  -- changes before all items of a part are of the part before
  pub changed_front : (xs ys : List X) (changes : List (Change X)) → AllByRecursion (λ (c : Change X). AllByRecursion (λ (y : X). IsBelow c.key (key y)) ys) changes
      → changed key (xs ++ ys) changes ≡ changed key xs changes ++ ys
  changed_front xs ys [] all = refl
  changed_front xs ys (c ∷ cs) all = ap (λ (zs : List X). changed key zs cs) (once_front xs ys c all.0) ∙ changed_front (changed_once key xs c) ys cs all.1

  -- changes behind all items of a part are of the part behind
  pub changed_behind : (xs ys : List X) (changes : List (Change X)) → AllByRecursion (λ (c : Change X). AllByRecursion (λ (x : X). IsBelow (key x) c.key) xs) changes
      → changed key (xs ++ ys) changes ≡ xs ++ changed key ys changes
  changed_behind xs ys [] all = refl
  changed_behind xs ys (c ∷ cs) all = ap (λ (zs : List X). changed key zs cs) (once_behind xs ys c all.0) ∙ changed_behind xs (changed_once key ys c) cs all.1

  put_all : (P : X → Type 0) (put : Option X) → IfSome put P → AllByRecursion P (one_or_none put)
  put_all P None h = tt
  put_all P (Some x) h = (h, tt)

  if_some : (put : Option X) (k l : List ℕ) → IfSome put (λ x. key x ≡ k) → IsUpTo k l → IfSome put (λ x. IsUpTo (key x) l)
  if_some None k l own h = tt
  if_some (Some x) k l own h = subst (λ (m : List ℕ). IsUpTo m l) (sym own) h

  -- a change up to a key
  pub record IsUpToOwn (last : List ℕ) (change : Change X) : Type 0 where
    pub up_to : IsUpTo change.key last
    pub own : IsOwn key change

  pub changed_up_to : (last : List ℕ) (xs : List X) (changes : List (Change X)) → AllByRecursion (λ (x : X). IsUpTo (key x) last) xs → AllByRecursion (IsUpToOwn last) changes
      → AllByRecursion (λ (x : X). IsUpTo (key x) last) (changed key xs changes)
  changed_up_to last xs [] all are = all
  changed_up_to last xs (c ∷ cs) all are =
      changed_up_to last (changed_once key xs c) cs
      (once_all (λ (x : X). IsUpTo (key x) last) xs c all (put_all (λ (x : X). IsUpTo (key x) last) c.put (if_some c.put c.key last are.0.own are.0.up_to))) are.1

  -- A list in two parts, of which the first goes up to a key: the changes up to that key are of the first part, those
  -- above it of the second.
  pub changed_split : (last : List ℕ) (xs ys : List X) (before behind : List (Change X))
      → AllByRecursion (λ (x : X). IsUpTo (key x) last) xs → AllByRecursion (λ (y : X). IsBelow last (key y)) ys
      → AllByRecursion (IsUpToOwn last) before → AllByRecursion (λ (c : Change X). IsBelow last c.key) behind
      → changed key (xs ++ ys) (before ++ behind) ≡ changed key xs before ++ changed key ys behind
  changed_split last xs ys before behind low high are above =
      changed_append (xs ++ ys) before behind
      ∙ ap (λ (zs : List X). changed key zs behind) (changed_front xs ys before (fronts before are))
      ∙ changed_behind (changed key xs before) ys behind (behinds behind above)
    where
      fronts : (cs : List (Change X)) → AllByRecursion (IsUpToOwn last) cs → AllByRecursion (λ (c : Change X). AllByRecursion (λ (y : X). IsBelow c.key (key y)) ys) cs
      fronts [] all = tt
      fronts (c ∷ cs) all = (all_of (λ (y : X). IsBelow last (key y)) (λ (y : X). IsBelow c.key (key y)) (λ y below. up_to_below c.key last (key y) all.0.up_to below) ys high, fronts cs all.1)

      behinds : (cs : List (Change X)) → AllByRecursion (λ (c : Change X). IsBelow last c.key) cs → AllByRecursion (λ (c : Change X). AllByRecursion (λ (x : X). IsBelow (key x) c.key) (changed key xs before)) cs
      behinds [] all = tt
      behinds (c ∷ cs) all =
          (all_of (λ (x : X). IsUpTo (key x) last) (λ (x : X). IsBelow (key x) c.key) (λ x up. up_to_below (key x) last c.key up all.0) (changed key xs before) (changed_up_to last xs before low are), behinds cs all.1)

  -- ---- as a loop over both lists meets them

  -- a change below the first item
  pub merge_below : (x : X) (xs : List X) (change : Change X) → IsBelow change.key (key x) → changed_once key (x ∷ xs) change ≡ one_or_none change.put ++ x ∷ xs
  merge_below x xs change below = ap (λ (o : Ordering). by_order o (one_or_none change.put ++ x ∷ xs) (one_or_none change.put ++ xs) (x ∷ changed_once key xs change)) below

  -- a change of the first item
  pub merge_same : (x : X) (xs : List X) (change : Change X) → change.key ≡ key x → changed_once key (x ∷ xs) change ≡ one_or_none change.put ++ xs
  merge_same x xs change same =
      ap (λ (o : Ordering). by_order o (one_or_none change.put ++ x ∷ xs) (one_or_none change.put ++ xs) (x ∷ changed_once key xs change))
      (ap (λ (k : List ℕ). order k (key x)) same ∙ order_itself (key x))

  -- changes above the first item
  pub merge_above : (x : X) (xs : List X) (changes : List (Change X)) → AllByRecursion (λ (c : Change X). IsBelow (key x) c.key) changes → changed key (x ∷ xs) changes ≡ x ∷ changed key xs changes
  merge_above x xs changes above = changed_behind (x ∷ []) xs changes (lone changes above)
    where
      lone : (cs : List (Change X)) → AllByRecursion (λ (c : Change X). IsBelow (key x) c.key) cs → AllByRecursion (λ (c : Change X). AllByRecursion (λ (z : X). IsBelow (key z) c.key) (x ∷ [])) cs
      lone [] all = tt
      lone (c ∷ cs) all = ((all.0, tt), lone cs all.1)

  -- what was put stays before the changes that are above it
  pub merge_put : (change : Change X) (xs : List X) (changes : List (Change X)) → IsOwn key change → AllByRecursion (λ (c : Change X). IsBelow change.key c.key) changes
      → changed key (one_or_none change.put ++ xs) changes ≡ one_or_none change.put ++ changed key xs changes
  merge_put change xs changes own above = changed_behind (one_or_none change.put) xs changes (lone changes above)
    where
      put_below : (put : Option X) (k : List ℕ) → IfSome put (λ x. key x ≡ change.key) → IsBelow change.key k → AllByRecursion (λ (z : X). IsBelow (key z) k) (one_or_none put)
      put_below None k own below = tt
      put_below (Some z) k own below = (subst (λ (m : List ℕ). IsBelow m k) (sym own) below, tt)

      lone : (cs : List (Change X)) → AllByRecursion (λ (c : Change X). IsBelow change.key c.key) cs → AllByRecursion (λ (c : Change X). AllByRecursion (λ (z : X). IsBelow (key z) c.key) (one_or_none change.put)) cs
      lone [] all = tt
      lone (c ∷ cs) all = (put_below change.put c.key own all.0, lone cs all.1)

  -- ---- from two lists to the changes between them

  -- taking away the first of what is left of the old items, behind the new ones that came so far
  pub differ_gone : (news : List X) (x : X) (olds : List X) (change : Change X) → change.key ≡ key x → change.put ≡ None → AllByRecursion (λ (y : X). IsBelow (key y) change.key) news
      → changed_once key (news ++ x ∷ olds) change ≡ news ++ olds
  differ_gone news x olds change same none all =
      once_behind news (x ∷ olds) change all ∙ ap (λ (zs : List X). news ++ zs) (merge_same x olds change same ∙ ap (λ (put : Option X). one_or_none put ++ olds) none)

  -- putting a new item before what is left of the old ones
  pub differ_came : (news : List X) (y : X) (olds : List X) (change : Change X) → change.put ≡ Some y
      → AllByRecursion (λ (z : X). IsBelow (key z) change.key) news → AllByRecursion (λ (x : X). IsBelow change.key (key x)) olds
      → changed_once key (news ++ olds) change ≡ (news ++ y ∷ []) ++ olds
  differ_came news y olds change put all high =
      once_behind news olds change all
      ∙ ap (λ (zs : List X). news ++ zs) (once_front [] olds change high ∙ ap (λ (p : Option X). one_or_none p ++ olds) put)
      ∙ sym (append_assoc news (y ∷ []) olds)

  -- putting a new item in the place of the first of the old ones
  pub differ_replaced : (news : List X) (y x : X) (olds : List X) (change : Change X) → change.key ≡ key x → change.put ≡ Some y → AllByRecursion (λ (z : X). IsBelow (key z) change.key) news
      → changed_once key (news ++ x ∷ olds) change ≡ (news ++ y ∷ []) ++ olds
  differ_replaced news y x olds change same put all =
      once_behind news (x ∷ olds) change all
      ∙ ap (λ (zs : List X). news ++ zs) (merge_same x olds change same ∙ ap (λ (p : Option X). one_or_none p ++ olds) put)
      ∙ sym (append_assoc news (y ∷ []) olds)

  -- one change more, where it falls between two parts of what is left
  pub merge_step : (rest before behind : List X) (change : Change X) (changes : List (Change X)) → changed_once key rest change ≡ before ++ (one_or_none change.put ++ behind)
      → AllByRecursion (λ (x : X). IsBelow (key x) change.key) before → AreOwnAndRising key (change ∷ changes)
      → changed key rest (change ∷ changes) ≡ (before ++ one_or_none change.put) ++ changed key behind changes
  merge_step rest before behind change changes e low are =
      ap (λ (ys : List X). changed key ys changes) (e ∙ sym (append_assoc before (one_or_none change.put) behind))
      ∙ changed_behind (before ++ one_or_none change.put) behind changes (all changes are.1)
    where
      put_low : (put : Option X) (k : List ℕ) → IfSome put (λ x. key x ≡ change.key) → IsBelow change.key k → AllByRecursion (λ (z : X). IsBelow (key z) k) (one_or_none put)
      put_low None k own below = tt
      put_low (Some z) k own below = (subst (λ (m : List ℕ). IsBelow m k) (sym own) below, tt)

      all : (cs : List (Change X)) → AllByRecursion (λ (c : Change X). IsBelow change.key c.key) cs → AllByRecursion (λ (c : Change X). AllByRecursion (λ (x : X). IsBelow (key x) c.key) (before ++ one_or_none change.put)) cs
      all [] above = tt
      all (c ∷ cs) above = (
        all_append (λ (x : X). IsBelow (key x) c.key) before (one_or_none change.put)
            (all_of (λ (x : X). IsBelow (key x) change.key) (λ (x : X). IsBelow (key x) c.key) (λ x below. order_trans (key x) change.key c.key below above.0) before low)
            (put_low change.put c.key are.0 above.0),
        all cs above.1,
      )
