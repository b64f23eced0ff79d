-- The places of a round, sorted and without repetition.
use Rattle.std.proofs.Common.{◌≡◌, ◌<◌, ◌+◌, ◌&&◌, ◌==◌, ℕ, zero, suc, List, [], ◌∷◌, Bool, true, false, cond, eqb, eqb-true, take, length, get_or, refl, sym, ap, subst, ◌∙◌, arith}
use Rattle.std.proofs.Math.Path.{fun_ext}
use Rattle.std.proofs.lemmas.Cmp.{eq_by_cmp_equiv, nat_cmp_total, nat_eq_equiv, on_total, then_total, tied_itself}
use Rattle.std.proofs.lemmas.Map.Lookups.{CmpEqualImpliesEq, exact_pairs, exact_unsigned}
use Rattle.std.proofs.lemmas.List.Kept.{Contains-dedup, Contains-from_dedup, IsStrictlySortedBy-dedup}
use Rattle.std.proofs.lemmas.List.Sorted.{Contains-permutation, IsPermutation-sym}
use Rattle.std.specs.Cmp.{IsTotalOrder}
use Rattle.std.specs.HashSet.{HashSet, Updates, contains}
use Rattle.std.specs.List.{AllByRecursion, Contains, dedup}
use Rattle.std.specs.List.Sorted.{IsPermutation, IsSorted}
use Rattle.std.specs.Ordering.{eq_by_cmp, is_eq, nat_cmp}
use Rattle.std.specs.declared.cmp.Ordering.{Ordering}
use Rattle.std.specs.declared.cmp.Ordering.TheVariants.{Less, Equal, Greater}
use Rattle.node_pack.proofs.shared.RecordPlaces.{of_each}
use Rattle.node_pack.specs.contracts.place.PlaceOrd.TheImpl as order
use Rattle.node_pack.specs.contracts.place.PlacePartialEq.TheImpl as equality
use Rattle.node_pack.specs.declared.place.Place.{Place}
use Rattle.node_pack.specs.internal.Stepping.{ArePlacesOf, IsBroughtAt, place_cmp}

places_total : IsTotalOrder place_cmp
places_total = then_total (on_total (λ (p : Place). p.at) nat_cmp_total) (on_total (λ (p : Place). p.len) nat_cmp_total)

-- places that compare alike are one
exact_places : CmpEqualImpliesEq place_cmp
exact_places a b h = ap (λ (p : ℕ × ℕ). record { at = p.0; len = p.1 }) (exact_pairs nat_cmp nat_cmp exact_unsigned exact_unsigned (a.at, a.len) (b.at, b.len) h)

is_equal : (o : Ordering) → is_eq o ≡ true → o ≡ Equal
is_equal Less e = cc
is_equal Equal e = refl
is_equal Greater e = cc

bool_same : (b c : Bool) → (b ≡ true → c ≡ true) → (c ≡ true → b ≡ true) → b ≡ c
bool_same true c f g = sym (f refl)
bool_same false true f g = g refl
bool_same false false f g = refl

and_parts : (b c : Bool) → (b && c) ≡ true → (b ≡ true) × (c ≡ true)
and_parts true c e = (refl, e)
and_parts false c e = absurd cc

-- places that are equal are one,
equal_is_same : (a b : Place) → equality.ghosts.eq a b ≡ true → a ≡ b
equal_is_same a b e =
    let parts = and_parts (eqb a.at b.at) (eqb a.len b.len) e in
    let at : ℕ → Place = λ n. record { at = n; len = a.len } in
    let len : ℕ → Place = λ n. record { at = b.at; len = n } in
    ap at (eqb-true a.at b.at parts.0) ∙ ap len (eqb-true a.len b.len parts.1)

equal_itself : (a b : Place) → a ≡ b → equality.ghosts.eq a b ≡ true
equal_itself a b same = subst (λ (p : Place). equality.ghosts.eq a p ≡ true) same (let e = nat_eq_equiv.refl a.at in let f = nat_eq_equiv.refl a.len in rw (e, f) refl)

tied : (a b : Place) → a ≡ b → eq_by_cmp place_cmp a b ≡ true
tied a b same = subst (λ (p : Place). eq_by_cmp place_cmp a p ≡ true) same (let e = tied_itself places_total a in rw e refl)

same_equality : equality.ghosts.eq ≡ eq_by_cmp place_cmp
same_equality = fun_ext (λ a. fun_ext (λ b. bool_same (equality.ghosts.eq a b) (eq_by_cmp place_cmp a b) (λ e. tied a b (equal_is_same a b e)) (λ e. equal_itself a b (exact_places a b (is_equal (place_cmp a b) e)))))

sorted_once : (found sorted kept : List Place) → IsPermutation found sorted → IsSorted place_cmp sorted → kept ≡ dedup (eq_by_cmp place_cmp) sorted → ArePlacesOf found kept
sorted_once found sorted kept moved up is = record {
  rising = rw is (IsStrictlySortedBy-dedup places_total (λ a b. refl) sorted up);
  members = λ place. (
    (λ has. Contains-permutation _ _ place (IsPermutation-sym _ _ moved) (Contains-from_dedup _ _ place (rw is at has))),
    (λ has. rw is (Contains-dedup (eq_by_cmp_equiv places_total) (λ a b e. exact_places a b (is_equal (place_cmp a b) e)) _ place (Contains-permutation _ _ place moved has))),
  );
}

-- sorted and without repeats they are the same, each once
pub tidied : (found sorted kept : List Place) → IsPermutation found sorted → IsSorted order.ghosts.cmp sorted → kept ≡ dedup equality.ghosts.eq sorted → ArePlacesOf found kept
tidied found sorted kept moved up is = sorted_once found sorted kept moved up (is ∙ ap (λ (same : Place → Place → Bool). dedup same sorted) same_equality)

-- ---- records that were brought

to_true : (b c : Bool) → c ≡ true → cond b true c ≡ true
to_true true c e = refl
to_true false c e = e

module _ {S : Type 0} (old new : HashSet ℕ S) (offset : ℕ) (up : Updates (λ a b. a == b) old new offset true) where
  pub brought_stays : (at : ℕ) → IsBroughtAt old at → IsBroughtAt new at
  brought_stays at is = up.0 at ∙ to_true (offset == at) (contains (λ a b. a == b) old at) is

  pub brought_now : IsBroughtAt new offset
  brought_now = up.1

-- of a list what is so of each item so far stays so, and it is of one more
to_next : {X : Type 0} (P Q : X → Type 0) (xs : List X) (i : ℕ) (d : X) → i < length xs → ((x : X) → P x → Q x) → AllByRecursion P (take i xs) → Q (get_or xs i d) → AllByRecursion Q (take (suc i) xs)
to_next P Q [] i d lt grows all one = absurd (omega (arith, lt))
to_next P Q (x ∷ xs) zero d lt grows all one = (one, tt)
to_next P Q (x ∷ xs) (suc i) d lt grows all one = (grows x all.0, to_next P Q xs i d (omega (arith, lt)) grows all.1 one)

one_more : (n : ℕ) → suc n ≡ n + 1
one_more n = omega arith

pub all_to_here : {X : Type 0} (P Q : X → Type 0) (xs : List X) (i : ℕ) (d : X) → i < length xs → ((x : X) → P x → Q x) → AllByRecursion P (take i xs) → Q (get_or xs i d) → AllByRecursion Q (take (i + 1) xs)
all_to_here P Q xs i d lt grows all one = subst (λ (n : ℕ). AllByRecursion Q (take n xs)) (one_more i) (to_next P Q xs i d lt grows all one)

-- what is so of each place that was told is so of each that was found
pub each_found : (P : Place → Type 0) (found places told : List Place) → ArePlacesOf found places → told ≡ places → AllByRecursion P told → (place : Place) → Contains found place → P place
each_found P found places told are same all place among = of_each P told place all (subst (λ (ps : List Place). Contains ps place) (sym same) ((are.members place).1 among))
