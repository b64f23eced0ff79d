-- The changes that two lists of nodes differ by take the items of the one level to those of the other; the nodes that
-- the one list has and the other hasn't.
use Rattle.std.proofs.Common.{◌≡◌, ◌≢◌, ℕ, List, [], ◌∷◌, map, ◌⊎◌, inl, inr, Option, None, Some, refl, sym, ap, subst, ◌∙◌}
use Rattle.std.specs.Prelude.{IfSome}
use Rattle.std.specs.List.{AllByRecursion}
use Rattle.tree_node.specs.Nodes.{AreRisingFrom, Link, Node}
use Rattle.tree_node.specs.Order.{IsBelow}
use Rattle.tree_node.specs.internal.OrderLemmas.{not_itself, order_trans}
use Rattle.tree_node.specs.Trees.{greatest_of, link_to}
use Rattle.tree_build.specs.Changing.{Change, changed, changed_once}
use Rattle.tree_build.specs.internal.Differing.{Differ, nothing, gone_last, gone, came_last, came, same, replaced}
use Rattle.tree_build.specs.internal.RisingChanges.{AreOwnAndRising}
use Rattle.tree_build.specs.internal.Weaving.{IsIn, Woven}
use Rattle.tree_build.proofs.ChangedLaw.{IsFree, IsPut, changed_holds, once_rises}
use Rattle.tree_build.proofs.WeaveLemmas.{above_low, in_woven, woven_apart, woven_first, woven_second}

abbrev link_key : Link → List ℕ
link_key link = link.greatest

abbrev Rise : Option (List ℕ) → List Node → Type 0
Rise low ns = AreRisingFrom low (map greatest_of ns)

-- ---- the changes rise

all_lower : (low : Option (List ℕ)) (k : List ℕ) (cs : List (Change Link)) → IfSome low (λ l. IsBelow l k) → AllByRecursion (λ (c : Change Link). IsBelow k c.key) cs → AllByRecursion (λ (c : Change Link). IfSome low (λ l. IsBelow l c.key)) cs
all_lower low k [] below all = tt
all_lower None k (c ∷ cs) below all = (tt, all_lower None k cs below all.1)
all_lower (Some l) k (c ∷ cs) below all = (order_trans l k c.key below all.0, all_lower (Some l) k cs below all.1)

pub differ_rises : (low : Option (List ℕ)) (olds news lost gained : List Node) (cs : List (Change Link)) → Differ olds news lost gained cs → Rise low olds → Rise low news
    → AllByRecursion (λ (c : Change Link). IfSome low (λ l. IsBelow l c.key)) cs × AreOwnAndRising link_key cs
differ_rises low _ _ _ _ _ nothing one two = (tt, tt)
differ_rises low _ _ _ _ _ (gone_last o os lost gained cs d) one two =
    let rest = differ_rises (Some (greatest_of o)) os [] lost gained cs d one.1 tt in
    ((one.0, all_lower low (greatest_of o) cs one.0 rest.0), (tt, rest.0, rest.1))
differ_rises low _ _ _ _ _ (gone o os n ns lost gained cs below d) one two =
    let rest = differ_rises (Some (greatest_of o)) os (n ∷ ns) lost gained cs d one.1 (below, two.1) in
    ((one.0, all_lower low (greatest_of o) cs one.0 rest.0), (tt, rest.0, rest.1))
differ_rises low _ _ _ _ _ (came_last n ns lost gained cs d) one two =
    let rest = differ_rises (Some (greatest_of n)) [] ns lost gained cs d tt two.1 in
    ((two.0, all_lower low (greatest_of n) cs two.0 rest.0), (refl, rest.0, rest.1))
differ_rises low _ _ _ _ _ (came o os n ns lost gained cs below d) one two =
    let rest = differ_rises (Some (greatest_of n)) (o ∷ os) ns lost gained cs d (below, one.1) two.1 in
    ((two.0, all_lower low (greatest_of n) cs two.0 rest.0), (refl, rest.0, rest.1))
differ_rises low _ _ _ _ _ (same o os n ns lost gained cs equal d) one two =
    let rest = differ_rises (Some (greatest_of o)) os ns lost gained cs d one.1 (subst (λ (m : Node). Rise (Some (greatest_of m)) ns) (sym equal) two.1) in
    (all_lower low (greatest_of o) cs one.0 rest.0, rest.1)
differ_rises low _ _ _ _ _ (replaced o os n ns lost gained cs equal other d) one two =
    let rest = differ_rises (Some (greatest_of n)) os ns lost gained cs d (subst (λ (k : List ℕ). Rise (Some k) os) equal one.1) two.1 in
    ((two.0, all_lower low (greatest_of n) cs two.0 rest.0), (refl, rest.0, rest.1))

-- ---- what they put, and which keys they have

-- what is put stands for a new node
put_new : (olds news lost gained : List Node) (cs : List (Change Link)) → Differ olds news lost gained cs → (l : Link) → IsPut link_key cs l → (n : Node) × IsIn n news × (l ≡ link_to n)
put_new _ _ _ _ _ nothing l is = absurd is
put_new _ _ _ _ _ (gone_last o os lost gained cs d) l is = elim is [ inl never ↦ absurd never | inr there ↦ put_new os [] lost gained cs d l there ]
put_new _ _ _ _ _ (gone o os n ns lost gained cs below d) l is = elim is [ inl never ↦ absurd never | inr there ↦ put_new os (n ∷ ns) lost gained cs d l there ]
put_new _ _ _ _ _ (came_last n ns lost gained cs d) l is = elim is [
  | inl here ↦ elim here [ inl it ↦ (n, inl refl, it) | inr never ↦ absurd never ]
  | inr there ↦ let found = put_new [] ns lost gained cs d l there in (found.0, inr found.1, found.2)
]
put_new _ _ _ _ _ (came o os n ns lost gained cs below d) l is = elim is [
  | inl here ↦ elim here [ inl it ↦ (n, inl refl, it) | inr never ↦ absurd never ]
  | inr there ↦ let found = put_new (o ∷ os) ns lost gained cs d l there in (found.0, inr found.1, found.2)
]
put_new _ _ _ _ _ (same o os n ns lost gained cs equal d) l is = let found = put_new os ns lost gained cs d l is in (found.0, inr found.1, found.2)
put_new _ _ _ _ _ (replaced o os n ns lost gained cs equal other d) l is = elim is [
  | inl here ↦ elim here [ inl it ↦ (n, inl refl, it) | inr never ↦ absurd never ]
  | inr there ↦ let found = put_new os ns lost gained cs d l there in (found.0, inr found.1, found.2)
]

-- an old node is new too, or a change has its key
old_free : (olds news lost gained : List Node) (cs : List (Change Link)) → Differ olds news lost gained cs → (m : Node) → IsIn m olds → IsFree link_key cs (greatest_of m) → IsIn m news
old_free _ _ _ _ _ nothing m is free = absurd is
old_free _ _ _ _ _ (gone_last o os lost gained cs d) m is free = elim is [ inl here ↦ absurd (free.0 (ap greatest_of here)) | inr there ↦ old_free os [] lost gained cs d m there free.1 ]
old_free _ _ _ _ _ (gone o os n ns lost gained cs below d) m is free = elim is [ inl here ↦ absurd (free.0 (ap greatest_of here)) | inr there ↦ old_free os (n ∷ ns) lost gained cs d m there free.1 ]
old_free _ _ _ _ _ (came_last n ns lost gained cs d) m is free = absurd is
old_free _ _ _ _ _ (came o os n ns lost gained cs below d) m is free = inr (old_free (o ∷ os) ns lost gained cs d m is free.1)
old_free _ _ _ _ _ (same o os n ns lost gained cs equal d) m is free = elim is [ inl here ↦ inl (here ∙ equal) | inr there ↦ inr (old_free os ns lost gained cs d m there free) ]
old_free _ _ _ _ _ (replaced o os n ns lost gained cs equal other d) m is free = elim is [ inl here ↦ absurd (free.0 (ap greatest_of here ∙ equal)) | inr there ↦ inr (old_free os ns lost gained cs d m there free.1) ]

-- a key that no old node and no new one has is free
free_of : (k : List ℕ) (olds news lost gained : List Node) (cs : List (Change Link)) → Differ olds news lost gained cs → ((m : Node) → IsIn m olds → k ≢ greatest_of m) → ((m : Node) → IsIn m news → k ≢ greatest_of m) → IsFree link_key cs k
free_of k _ _ _ _ _ nothing one two = tt
free_of k _ _ _ _ _ (gone_last o os lost gained cs d) one two = (one o (inl refl), free_of k os [] lost gained cs d (λ m is. one m (inr is)) two)
free_of k _ _ _ _ _ (gone o os n ns lost gained cs below d) one two = (one o (inl refl), free_of k os (n ∷ ns) lost gained cs d (λ m is. one m (inr is)) two)
free_of k _ _ _ _ _ (came_last n ns lost gained cs d) one two = (two n (inl refl), free_of k [] ns lost gained cs d one (λ m is. two m (inr is)))
free_of k _ _ _ _ _ (came o os n ns lost gained cs below d) one two = (two n (inl refl), free_of k (o ∷ os) ns lost gained cs d one (λ m is. two m (inr is)))
free_of k _ _ _ _ _ (same o os n ns lost gained cs equal d) one two = free_of k os ns lost gained cs d (λ m is. one m (inr is)) (λ m is. two m (inr is))
free_of k _ _ _ _ _ (replaced o os n ns lost gained cs equal other d) one two = (two n (inl refl), free_of k os ns lost gained cs d (λ m is. one m (inr is)) (λ m is. two m (inr is)))

after_free : (k : List ℕ) (cs : List (Change Link)) → AllByRecursion (λ (c : Change Link). IsBelow k c.key) cs → IsFree link_key cs k
after_free k [] all = tt
after_free k (c ∷ cs) all = ((λ e. not_itself k c.key all.0 e), after_free k cs all.1)

-- a node above all in front has another key
pub not_same : (k : List ℕ) (ns : List Node) → Rise (Some k) ns → (m : Node) → IsIn m ns → greatest_of m ≢ k
not_same k ns rise m is e = not_itself k (greatest_of m) (above_low greatest_of k ns rise m is) (sym e)

-- a new node is put, or is an old one whose key no change has
pub new_kept : (low : Option (List ℕ)) (olds news lost gained : List Node) (cs : List (Change Link)) → Differ olds news lost gained cs → Rise low olds → Rise low news → (m : Node) → IsIn m news
    → (IsPut link_key cs (link_to m) × IsIn m gained) ⊎ (IsIn m olds × IsFree link_key cs (greatest_of m))
new_kept low _ _ _ _ _ nothing one two m is = absurd is
new_kept low _ _ _ _ _ (gone_last o os lost gained cs d) one two m is = absurd is
new_kept low _ _ _ _ _ (gone o os n ns lost gained cs below d) one two m is =
    let above : Rise (Some (greatest_of o)) (n ∷ ns) = (below, two.1) in
    elim (new_kept (Some (greatest_of o)) os (n ∷ ns) lost gained cs d one.1 above m is) [
      | inl puts ↦ inl (inr puts.0, puts.1)
      | inr stays ↦ inr (inr stays.0, (not_same (greatest_of o) (n ∷ ns) above m is, stays.1))
    ]
new_kept low _ _ _ _ _ (came_last n ns lost gained cs d) one two m is = elim is [
  | inl here ↦ inl (inl (inl (ap link_to here)), inl here)
  | inr there ↦ elim (new_kept (Some (greatest_of n)) [] ns lost gained cs d tt two.1 m there) [ inl puts ↦ inl (inr puts.0, inr puts.1) | inr stays ↦ absurd stays.0 ]
]
new_kept low _ _ _ _ _ (came o os n ns lost gained cs below d) one two m is = elim is [
  | inl here ↦ inl (inl (inl (ap link_to here)), inl here)
  | inr there ↦ elim (new_kept (Some (greatest_of n)) (o ∷ os) ns lost gained cs d (below, one.1) two.1 m there) [
    | inl puts ↦ inl (inr puts.0, inr puts.1)
    | inr stays ↦ inr (stays.0, (not_same (greatest_of n) ns two.1 m there, stays.1))
  ]
]
new_kept low _ _ _ _ _ (same o os n ns lost gained cs equal d) one two m is =
    let rises : Rise (Some (greatest_of o)) ns = subst (λ (p : Node). Rise (Some (greatest_of p)) ns) (sym equal) two.1 in
    elim is [
      | inl here ↦ inr (inl (here ∙ sym equal), subst (λ (p : Node). IsFree link_key cs (greatest_of p)) (equal ∙ sym here) (after_free (greatest_of o) cs (differ_rises (Some (greatest_of o)) os ns lost gained cs d one.1 rises).0))
      | inr there ↦ elim (new_kept (Some (greatest_of o)) os ns lost gained cs d one.1 rises m there) [ inl puts ↦ inl puts | inr stays ↦ inr (inr stays.0, stays.1) ]
    ]
new_kept low _ _ _ _ _ (replaced o os n ns lost gained cs equal other d) one two m is =
    let rises : Rise (Some (greatest_of n)) os = subst (λ (k : List ℕ). Rise (Some k) os) equal one.1 in
    elim is [
      | inl here ↦ inl (inl (inl (ap link_to here)), inl here)
      | inr there ↦ elim (new_kept (Some (greatest_of n)) os ns lost gained cs d rises two.1 m there) [
        | inl puts ↦ inl (inr puts.0, inr puts.1)
        | inr stays ↦ inr (inr stays.0, (not_same (greatest_of n) ns two.1 m there, stays.1))
      ]
    ]

-- ---- two lists with rising keys and the same items are one

module _ {X : Type 0} (key : X → List ℕ) where
  abbrev RiseBy : Option (List ℕ) → List X → Type 0
  RiseBy low xs = AreRisingFrom low (map key xs)

  pub same_items : (low high : Option (List ℕ)) (xs ys : List X) → RiseBy low xs → RiseBy high ys → ((x : X) → IsIn x xs → IsIn x ys) → ((y : X) → IsIn y ys → IsIn y xs) → xs ≡ ys
  same_items low high [] [] one two to from = refl
  same_items low high [] (y ∷ ys) one two to from = absurd (from y (inl refl))
  same_items low high (x ∷ xs) [] one two to from = absurd (to x (inl refl))
  same_items low high (x ∷ xs) (y ∷ ys) one two to from = elim (to x (inl refl)) [
    | inl here ↦ heads here (same_items (Some (key x)) (Some (key y)) xs ys one.1 two.1)
    | inr there ↦ elim (from y (inl refl)) [
      | inl back ↦ heads (sym back) (same_items (Some (key x)) (Some (key y)) xs ys one.1 two.1)
      | inr later ↦ absurd (not_itself (key x) (key x) (order_trans (key x) (key y) (key x) (above_low key (key x) xs one.1 y later) (above_low key (key y) ys two.1 x there)) refl)
    ]
  ]
    where
      not_in : (z : X) (zs : List X) → RiseBy (Some (key z)) zs → IsIn z zs → ⊥
      not_in z zs rise is = not_itself (key z) (key z) (above_low key (key z) zs rise z is) refl

      heads : x ≡ y → (((z : X) → IsIn z xs → IsIn z ys) → ((z : X) → IsIn z ys → IsIn z xs) → xs ≡ ys) → x ∷ xs ≡ y ∷ ys
      heads e rest =
          let tails : xs ≡ ys = rest
          (λ z is. elim (to z (inr is)) [ inl first ↦ absurd (not_in x xs one.1 (subst (λ (w : X). IsIn w xs) (first ∙ sym e) is)) | inr later ↦ later ])
          (λ z is. elim (from z (inr is)) [ inl first ↦ absurd (not_in y ys two.1 (subst (λ (w : X). IsIn w ys) (first ∙ e) is)) | inr later ↦ later ]) in
          ap (λ (z : X). z ∷ xs) e ∙ ap (λ (zs : List X). y ∷ zs) tails

  pub changed_rises : (xs : List X) (cs : List (Change X)) → RiseBy None xs → AreOwnAndRising key cs → RiseBy None (changed key xs cs)
  changed_rises xs [] rise own = rise
  changed_rises xs (c ∷ cs) rise own = changed_rises (changed_once key xs c) cs (once_rises key None xs c own.0 tt rise) own.2

-- ---- from level to level

in_mapped : (n : Node) (ns : List Node) → IsIn n ns → IsIn (link_to n) (map link_to ns)
in_mapped n [] is = is
in_mapped n (m ∷ ms) is = elim is [ inl here ↦ inl (ap link_to here) | inr there ↦ inr (in_mapped n ms there) ]

of_mapped : (l : Link) (ns : List Node) → IsIn l (map link_to ns) → (n : Node) × IsIn n ns × (l ≡ link_to n)
of_mapped l [] is = absurd is
of_mapped l (m ∷ ms) is = elim is [ inl here ↦ (m, inl refl, here) | inr there ↦ let found = of_mapped l ms there in (found.0, inr found.1, found.2) ]

links_rise : (low : Option (List ℕ)) (ns : List Node) → Rise low ns → AreRisingFrom low (map link_key (map link_to ns))
links_rise low [] rise = tt
links_rise low (n ∷ ns) rise = (rise.0, links_rise (Some (greatest_of n)) ns rise.1)

-- nodes with one key in a list whose keys rise are one
one_key : (low : Option (List ℕ)) (ns : List Node) → Rise low ns → (m n : Node) → IsIn m ns → IsIn n ns → greatest_of m ≡ greatest_of n → m ≡ n
one_key low [] rise m n is_m is_n e = absurd is_m
one_key low (p ∷ ps) rise m n is_m is_n e = elim is_m [
  | inl here ↦ elim is_n [
    | inl there ↦ here ∙ sym there
    | inr later ↦ absurd (not_itself (greatest_of p) (greatest_of n) (above_low greatest_of (greatest_of p) ps rise.1 n later) (ap greatest_of (sym here) ∙ e))
  ]
  | inr after ↦ elim is_n [
    | inl there ↦ absurd (not_itself (greatest_of p) (greatest_of m) (above_low greatest_of (greatest_of p) ps rise.1 m after) (ap greatest_of (sym there) ∙ sym e))
    | inr later ↦ one_key (Some (greatest_of p)) ps rise.1 m n after later e
  ]
]

module _ (kept olds news old new lost gained : List Node) (cs : List (Change Link)) (was : Woven kept olds old) (is : Woven kept news new) (old_rises : Rise None old) (new_rises : Rise None new)
    (olds_rise : Rise None olds) (news_rise : Rise None news) (d : Differ olds news lost gained cs) where
  pub changes_own : AreOwnAndRising link_key cs
  changes_own = (differ_rises None olds news lost gained cs d olds_rise news_rise).1

  kept_free : (n : Node) → IsIn n kept → IsFree link_key cs (greatest_of n)
  kept_free n here = free_of (greatest_of n) olds news lost gained cs d
      (λ m among e.
      let one : n ≡ m = one_key None old old_rises n m (woven_first n kept olds old was here) (woven_second m kept olds old was among) e in
      woven_apart greatest_of None kept olds old was old_rises n here (subst (λ (p : Node). IsIn p olds) (sym one) among))
      (λ m among e.
      let one : n ≡ m = one_key None new new_rises n m (woven_first n kept news new is here) (woven_second m kept news new is among) e in
      woven_apart greatest_of None kept news new is new_rises n here (subst (λ (p : Node). IsIn p news) (sym one) among))

  -- the changes take the items of the old level to those of the new one
  pub links_changed : changed link_key (map link_to old) cs ≡ map link_to new
  links_changed =
      let holds = changed_holds link_key (map link_to old) cs (links_rise None old old_rises) changes_own in
      same_items link_key None None (changed link_key (map link_to old) cs) (map link_to new) (changed_rises link_key (map link_to old) cs (links_rise None old old_rises) changes_own) (links_rise None new new_rises)
      (λ l in_changed. elim ((holds l).0 in_changed) [
        | inl puts ↦ let found = put_new olds news lost gained cs d l puts in subst (λ (k : Link). IsIn k (map link_to new)) (sym found.2) (in_mapped found.0 new (woven_second found.0 kept news new is found.1))
        | inr stays ↦
            let found = of_mapped l old stays.0 in
            subst (λ (k : Link). IsIn k (map link_to new)) (sym found.2) (in_mapped found.0 new (stayed found.0 found.1 (subst (λ (k : Link). IsFree link_key cs (link_key k)) found.2 stays.1)))
      ])
      (λ l in_new.
      let found = of_mapped l new in_new in
      subst (λ (k : Link). IsIn k (changed link_key (map link_to old) cs)) (sym found.2) ((holds (link_to found.0)).1 (elim (in_woven found.0 kept news new is found.1) [
        | inl keeps ↦ inr (in_mapped found.0 old (woven_first found.0 kept olds old was keeps), kept_free found.0 keeps)
        | inr newly ↦ elim (new_kept None olds news lost gained cs d olds_rise news_rise found.0 newly) [
          | inl puts ↦ inl puts.0
          | inr stays ↦ inr (in_mapped found.0 old (woven_second found.0 kept olds old was stays.0), stays.1)
        ]
      ])))
    where
      stayed : (n : Node) → IsIn n old → IsFree link_key cs (greatest_of n) → IsIn n new
      stayed n here free = elim (in_woven n kept olds old was here) [
        | inl keeps ↦ woven_first n kept news new is keeps
        | inr among ↦ woven_second n kept news new is (old_free olds news lost gained cs d n among free)
      ]
