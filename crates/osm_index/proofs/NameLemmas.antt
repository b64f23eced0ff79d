-- The names of changes, one after the other.
use Rattle.std.proofs.Common.{◌≡◌, ℕ, ◌+◌, ◌<◌, suc, List, [], ◌∷◌, ◌++◌, length, get_or, take, drop, Bool, true, false, not, refl, sym, ap, subst, ◌∙◌, add-one}
use Rattle.std.proofs.Math.Seq.{drop-cons}
use Rattle.std.proofs.lemmas.List.{take-append-drop}
use Rattle.std.proofs.lemmas.Map.Keys.{IsDistinct-push}
use Rattle.std.specs.BTreeSet.{BTreeSet, Updates, contains}
use Rattle.std.specs.List.{Contains}
use Rattle.std.specs.Ordering.{eq_by_cmp}
use Rattle.std.specs.Set.{is_member}
use Rattle.std.specs.Prelude.{Decides}
use Rattle.std.proofs.lemmas.Cmp.{eq_by_cmp_equiv}
use Rattle.std.proofs.lemmas.List.{map-append}
use Rattle.std.proofs.lemmas.Map.Made.{is_member-Decides}
use Rattle.std.specs.declared.cmp.Ordering.{Ordering}
use Rattle.std.specs.declared.cmp.Ordering.TheVariants.{Less, Equal, Greater}
use Rattle.std.specs.Ordering.{is_eq}
use Rattle.osm_model.specs.Elements.{ref_cmp}
use Rattle.osm_model.specs.declared.reference.Ref.{Ref}
use Rattle.osm_model.proofs.shared.References.{refs_total}
use Rattle.opl_codec.specs.declared.change.Change.{Change}
use Rattle.opl_codec.specs.internal.Loading.{HasJust}
use Rattle.opl_codec.proofs.ReferenceLists.{just_more}
use Rattle.osm_index.specs.Applying.{AreApart, IsFirstTwice, name_of, names_of}
use Rattle.osm_keys.proofs.shared.OneObject.{same_reference}

pub names-push : (all : List Change) (c : Change) → names_of (all ++ c ∷ []) ≡ names_of all ++ name_of c ∷ []
names-push all c = map-append name_of all (c ∷ [])

equal : (o : Ordering) → is_eq o ≡ true → o ≡ Equal
equal Less e = cc
equal Equal e = refl
equal Greater e = cc

pub refs_decide : (a b : Ref) → Decides (eq_by_cmp ref_cmp a b) (a ≡ b)
refs_decide a b = ((λ e. same_reference a b (equal (ref_cmp a b) e)), (λ e. subst (λ (r : Ref). eq_by_cmp ref_cmp a r ≡ true) e ((eq_by_cmp_equiv refs_total).refl a)))

pub is_named : (names : List Ref) (r : Ref) → is_member (eq_by_cmp ref_cmp) names r ≡ true → Contains names r
is_named names r e = (is_member-Decides refs_decide names r).0 e

-- a list is cut at one of its items
pub cut_here : {X : Type 0} (xs : List X) (i : ℕ) (x : X) → i < length xs → x ≡ get_or xs i x → xs ≡ take i xs ++ x ∷ drop (i + 1) xs
cut_here {X} xs i x inside is =
    sym (take-append-drop i xs)
    ∙ ap (λ (ys : List X). take i xs ++ ys) (drop-cons xs i x inside ∙ ap (λ (y : X). y ∷ drop (suc i) xs) (sym is) ∙ ap (λ n. x ∷ drop n xs) (sym (add-one i)))

flipped : (a b : Bool) → a ≡ not b → a ≡ true → b ≡ false
flipped a true e is = cc
flipped a false e is = refl

flopped : (a b : Bool) → a ≡ not b → a ≡ false → b ≡ true
flopped a true e is = refl
flopped a false e is = cc

-- one more name, which is a new one
pub apart_more : (set : BTreeSet Ref) (all : List Change) (c : Change) (is_new : Bool) → HasJust set (names_of all) → AreApart all → is_new ≡ not (contains ref_cmp set (name_of c)) → is_new ≡ true → AreApart (all ++ c ∷ [])
apart_more set all c is_new just apart told new =
    let absent : is_member (eq_by_cmp ref_cmp) (names_of all) (name_of c) ≡ false = sym (just (name_of c)) ∙ flipped is_new (contains ref_cmp set (name_of c)) told new in
    rw (names-push all c) (IsDistinct-push (eq_by_cmp_equiv refs_total) (names_of all) (name_of c) apart absent)

pub just_more_names : (old new : BTreeSet Ref) (all : List Change) (c : Change) → HasJust old (names_of all) → Updates ref_cmp old new (name_of c) true → HasJust new (names_of (all ++ c ∷ []))
just_more_names old new all c just updates = rw (names-push all c) (just_more old new (names_of all) (name_of c) just updates)

-- one more name, which isn't a new one
pub first_twice : (set : BTreeSet Ref) (changes : List Change) (i : ℕ) (c : Change) (is_new : Bool) → i < length changes → c ≡ get_or changes i c → HasJust set (names_of (take i changes)) → AreApart (take i changes)
    → is_new ≡ not (contains ref_cmp set (name_of c)) → is_new ≡ false → IsFirstTwice changes (name_of c)
first_twice set changes i c is_new inside is just apart told old = record {
  before = take i changes;
  change = c;
  after = drop (i + 1) changes;
  cut = cut_here changes i c inside is;
  is = refl;
  apart = apart;
  twice = is_named (names_of (take i changes)) (name_of c) (sym (just (name_of c)) ∙ flopped is_new (contains ref_cmp set (name_of c)) told old);
}
