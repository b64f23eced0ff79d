-- Names whose keys rise: none is repeated.
use Rattle.std.proofs.Common.{◌≡◌, ◌∙◌, inl, inr, ℕ, Bool, true, false, List, [], ◌∷◌, ◌++◌, map, Option, None, Some, refl, sym, ap, subst, arith}
use Rattle.std.specs.List.{Contains}
use Rattle.std.proofs.lemmas.List.{map-append}
use Rattle.osm_keys.proofs.shared.Members.{first_or_in_rest, from_map, none}
use Rattle.tree_node.specs.Order.{IsBelow, order}
use Rattle.tree_node.specs.internal.OrderLemmas.{not_itself, order_trans}
use Rattle.external_sort.specs.Records.{Entry}
use Rattle.entry_sort.specs.internal.Names.{IsLeastRepeat, Named, key_of, keys_of, line_of, name_record}
use Rattle.entry_sort.specs.internal.Once.{is_new}
use Rattle.entry_sort.specs.internal.Rises.{followed, followed_by, no_keys}
use Rattle.entry_sort.specs.declared.rising.Rising.{Rising}
use Rattle.entry_sort.proofs.OnceLemmas.{less}

-- one more
followed_more : (r : Rising) (keys : List (List ℕ)) (key : List ℕ) → followed_by r (keys ++ key ∷ []) ≡ followed (followed_by r keys) key
followed_more r [] key = refl
followed_more r (k ∷ keys) key = followed_more (followed r k) keys key

pub one_more : (names : List Named) (n : Named) → followed_by no_keys (keys_of (names ++ n ∷ [])) ≡ followed (followed_by no_keys (keys_of names)) (key_of n)
one_more names n = ap (λ (ks : List (List ℕ)). followed_by no_keys ks) (map-append key_of names (n ∷ [])) ∙ followed_more no_keys (keys_of names) (key_of n)

-- the keys rise from the last one on
abbrev RiseFrom : Option (List ℕ) → List Named → Type 0
RiseFrom last [] = Unit {0}
RiseFrom last (n ∷ names) = (is_new last (key_of n) ≡ true) × RiseFrom (Some (key_of n)) names

rose_on : (r : Rising) (n : Named) (names : List Named) (b : Bool) → r.all_rise ≡ b → (followed r (key_of n)).all_rise ≡ true → RiseFrom (followed r (key_of n)).last names
    → (r.all_rise ≡ true) × RiseFrom r.last (n ∷ names)
rose_on r n names false f goes rest = absurd (let e : (followed r (key_of n)).all_rise ≡ r.all_rise = rw f refl in cc)
rose_on r n names true t goes rest =
    let fresh : is_new r.last (key_of n) ≡ true = rw t at goes in
    let last : (followed r (key_of n)).last ≡ Some (key_of n) = rw (t, fresh) refl in
    (t, (fresh, subst (λ (l : Option (List ℕ)). RiseFrom l names) last rest))

rose : (r : Rising) (names : List Named) → (followed_by r (keys_of names)).all_rise ≡ true → (r.all_rise ≡ true) × RiseFrom r.last names
rose r [] t = (t, tt)
rose r (n ∷ names) t = let (goes, rest) = rose (followed r (key_of n)) names t in rose_on r n names r.all_rise refl goes rest

-- each of those that follow is above
above_all : (last : List ℕ) (names : List Named) → RiseFrom (Some last) names → (n : Named) → Contains names n → IsBelow last (key_of n)
above_all last [] rise n h = absurd (none n h)
above_all last (m ∷ names) rise n h =
    let below : IsBelow last (key_of m) = less (order last (key_of m)) rise.0 in
    elim (first_or_in_rest m names n h) [
      | inl same ↦ subst (λ (x : Named). IsBelow last (key_of x)) same below
      | inr more ↦ order_trans last (key_of m) (key_of n) below (above_all (key_of m) names rise.1 n more)
    ]

-- so no two have one key
one_key : (last : Option (List ℕ)) (names : List Named) → RiseFrom last names → (a b : Named) → Contains names a → Contains names b → key_of a ≡ key_of b → a ≡ b
one_key last [] rise a b h k same = absurd (none a h)
one_key last (m ∷ names) rise a b h k same =
    elim (first_or_in_rest m names a h) [
      | inl p ↦ elim (first_or_in_rest m names b k) [
        | inl q ↦ sym p ∙ q
        | inr q ↦ absurd (not_itself (key_of m) (key_of b) (above_all (key_of m) names rise.1 b q) (ap key_of p ∙ same))
      ]
      | inr p ↦ elim (first_or_in_rest m names b k) [
        | inl q ↦ absurd (not_itself (key_of m) (key_of a) (above_all (key_of m) names rise.1 a p) (ap key_of q ∙ sym same))
        | inr q ↦ one_key (Some (key_of m)) names rise.1 a b p q same
      ]
    ]

-- and none repeats one
pub none_repeated : (names : List Named) → (followed_by no_keys (keys_of names)).all_rise ≡ true → IsLeastRepeat (map name_record names) None
none_repeated names t = λ x repeats.
    let rise = (rose no_keys names t).1 in
    let (a, a_there, a_is) = from_map name_record names x repeats.there in
    let (b, b_there, b_is) = from_map name_record names repeats.earlier repeats.earlier_there in
    let same : b ≡ a = one_key None names rise b a b_there a_there (ap (λ (e : Entry). e.key) (sym b_is) ∙ repeats.same ∙ ap (λ (e : Entry). e.key) a_is) in
    absurd (omega (arith, repeats.before, ap line_of (b_is ∙ ap name_record same ∙ sym a_is)))
