-- Parts of nodes that were brought, and parts of nodes that were given from a stock, in one list.
use Rattle.std.proofs.Common.{◌≡◌, ◌≢◌, ◌⊎◌, ◌<◌, ℕ, suc, List, [], ◌∷◌, ◌++◌, Bool, true, false, length, get_or, map, refl, sym, subst, inl, inr, arith}
use Rattle.std.specs.List.{AllByRecursion, IsDistinct}
use Rattle.std.proofs.lemmas.List.{get_or-map, map-append}
use Rattle.std.proofs.lemmas.List.Elements.{Contains-append_cases, Contains-append_left, Contains-append_right}
use Rattle.std.proofs.lemmas.Map.Keys.{IsDistinct-cons, IsDistinct-from_apart, IsDistinct-head, IsDistinct-tail}
use Rattle.std.proofs.lemmas.Slice.Eq.{bytes_eq-Decides}
use Rattle.std.specs.Str.{bytes_eq}
use Rattle.tree_node.specs.Digests.{digest}
use Rattle.tree_node.specs.Keys.{digest_eq}
use Rattle.tree_node.specs.Parts.{HaveNode, HaveRisingDigests, node_of}
use Rattle.tree_node.specs.Shelves.{HasNone, SameNodes}
use Rattle.tree_node.specs.declared.digest.Digest.{Digest}
use Rattle.tree_node.specs.declared.part.Part.{Part}
use Rattle.tree_node.specs.internal.OrderLemmas.{not_itself}
use Rattle.tree_node.specs.internal.Pairs.{HaveDistinctDigests, part_key}
use Rattle.tree_node.proofs.BagLemmas.{element_at}
use Rattle.outside_shelf.proofs.CopyLemmas.{length_kept}

-- two sets together
abbrev pub Either : (List ℕ → Type 0) → (List ℕ → Type 0) → List ℕ → Type 0
Either These Those x = These x ⊎ Those x

-- no node of the second set has a digest of the first
abbrev pub AreApart : (List ℕ → Type 0) → (List ℕ → Type 0) → Type 0
AreApart These Those = (x : List ℕ) → Those x → HasNone These (digest x)

-- digests that aren't the same don't compare equal
unlike : (a b : List ℕ) → a ≢ b → bytes_eq a b ≡ false
unlike a b apart = by (bytes_eq a b) refl
  where
    by : (r : Bool) → bytes_eq a b ≡ r → r ≡ false
    by true is = absurd (apart ((bytes_eq-Decides a b).0 is))
    by false is = refl

-- parts whose digests rise have no digest twice
pub distinct_rising : (parts : List Part) → HaveRisingDigests parts → HaveDistinctDigests parts
distinct_rising parts rising = IsDistinct-from_apart digest_eq (map part_key parts) apart
  where
    apart : (i j : ℕ) (d : Digest) → i < j → j < length (map part_key parts) → digest_eq (get_or (map part_key parts) i d) (get_or (map part_key parts) j d) ≡ false
    apart i j d before within =
        let lt : j < length parts = omega (arith, length_kept part_key parts) in
        let (part, at) = element_at parts j lt in
        let first = get_or-map part_key parts i part d (omega arith) in
        let second = get_or-map part_key parts j part d lt in
        let below = rising i j part before lt in
        subst (λ (k : Digest). digest_eq k (get_or (map part_key parts) j d) ≡ false) (sym first)
        (subst (λ (k : Digest). digest_eq (part_key (get_or parts i part)) k ≡ false) (sym second)
        (unlike (digest (node_of (get_or parts i part))) (digest (node_of (get_or parts j part)))
        (not_itself (digest (node_of (get_or parts i part))) (digest (node_of (get_or parts j part))) below)))

-- what is so of each of two lists is so of each of both, one after the other
all_both : (P : Digest → Type 0) (ks ls : List Digest) → AllByRecursion P ks → AllByRecursion P ls → AllByRecursion P (ks ++ ls)
all_both P [] ls all more = more
all_both P (k ∷ ks) ls all more = (all.0, all_both P ks ls all.1 more)

distinct_both : (ks ls : List Digest) → IsDistinct digest_eq ks → IsDistinct digest_eq ls → AllByRecursion (λ k. AllByRecursion (λ l. digest_eq k l ≡ false) ls) ks → IsDistinct digest_eq (ks ++ ls)
distinct_both [] ls once also apart = also
distinct_both (k ∷ ks) ls once also apart =
    IsDistinct-cons digest_eq k (ks ++ ls) (all_both (λ l. digest_eq k l ≡ false) ks ls (IsDistinct-head digest_eq k ks once) apart.0)
    (distinct_both ks ls (IsDistinct-tail digest_eq k ks once) also apart.1)

-- a list holds what the list after its first part holds
held_after : (p : Part) (parts : List Part) (x : List ℕ) → HaveNode parts x → HaveNode (p ∷ parts) x
held_after p parts x (k, q, lt, is, e) = (suc k, q, omega (arith, lt), is, e)

unlike_each : (p : Part) (ys : List Part) → ((y : List ℕ) → HaveNode ys y → digest y ≢ digest (node_of p)) → AllByRecursion (λ l. digest_eq (part_key p) l ≡ false) (map part_key ys)
unlike_each p [] apart = tt
unlike_each p (q ∷ ys) apart = (
  unlike (digest (node_of p)) (digest (node_of q)) (λ same. apart (node_of q) (0, q, omega arith, refl, refl) (sym same)),
  unlike_each p ys (λ y has. apart y (held_after q ys y has)),
)

unlike_all : (xs ys : List Part) → ((x y : List ℕ) → HaveNode xs x → HaveNode ys y → digest y ≢ digest x)
    → AllByRecursion (λ k. AllByRecursion (λ l. digest_eq k l ≡ false) (map part_key ys)) (map part_key xs)
unlike_all [] ys apart = tt
unlike_all (p ∷ xs) ys apart = (
  unlike_each p ys (λ y has. apart (node_of p) y (0, p, omega arith, refl, refl) has),
  unlike_all xs ys (λ x y hasx hasy. apart x y (held_after p xs x hasx) hasy),
)

-- two lists of parts one after the other hold what either holds
held_either : (xs ys : List Part) (x : List ℕ) → HaveNode (xs ++ ys) x → HaveNode xs x ⊎ HaveNode ys x
held_either xs ys x (k, p, lt, is, e) =
    elim (Contains-append_cases xs ys p (k, lt, is)) [
      | inl (i, lti, at) ↦ inl (i, p, lti, at, e)
      | inr (j, ltj, at) ↦ inr (j, p, ltj, at, e)
    ]

either_held : (xs ys : List Part) (x : List ℕ) → HaveNode xs x ⊎ HaveNode ys x → HaveNode (xs ++ ys) x
either_held xs ys x (inl (k, p, lt, is, e)) = let (i, lti, at) = Contains-append_left xs ys p (k, lt, is) in (i, p, lti, at, e)
either_held xs ys x (inr (k, p, lt, is, e)) = let (i, lti, at) = Contains-append_right xs ys p (k, lt, is) in (i, p, lti, at, e)

-- parts of brought nodes, and then of given ones, which the stock holds, where the two are apart
module _ (brought given : List Part) (Stocked Given Brought : List ℕ → Type 0)
    (of_brought : SameNodes Brought (HaveNode brought)) (of_given : SameNodes Given (HaveNode given))
    (is_stocked : (x : List ℕ) → Given x → Stocked x) (apart : AreApart Stocked Brought) where
  -- none has the digest of another one
  pub distinct_together : HaveRisingDigests brought → HaveRisingDigests given → HaveDistinctDigests (brought ++ given)
  distinct_together rising rises =
      subst (λ (ks : List Digest). IsDistinct digest_eq ks) (sym (map-append part_key brought given))
      (distinct_both (map part_key brought) (map part_key given) (distinct_rising brought rising) (distinct_rising given rises)
      (unlike_all brought given (λ x y hasx hasy. apart x ((of_brought x).0 hasx) y (is_stocked y ((of_given y).0 hasy)))))

  -- they hold exactly the nodes of both kinds
  pub held_of_both : SameNodes (Either Given Brought) (HaveNode (brought ++ given))
  held_of_both x = (
    λ has. elim (held_either brought given x has) [ inl b ↦ inr ((of_brought x).0 b) | inr g ↦ inl ((of_given x).0 g) ],
    λ has. either_held brought given x (elim has [ inl g ↦ inr ((of_given x).1 g) | inr b ↦ inl ((of_brought x).1 b) ]),
  )
