-- Query statements: what their filters keep.
use Rattle.std.proofs.Common.{◌≡◌, ℕ, ◌+◌, ◌<◌, ◌≤◌, List, [], ◌∷◌, ◌++◌, ◌↔◌, length, get_or, take, inl, inr, refl, sym, ap, subst, ◌∙◌, arith}
use Rattle.std.proofs.lemmas.Bool.{cases_lt}
use Rattle.std.proofs.lemmas.Cmp.{tied_itself}
use Rattle.std.proofs.lemmas.List.{get_or_default, map-append, take_all}
use Rattle.std.specs.List.{AllByRecursion, Contains}
use Rattle.std.specs.declared.cmp.Ordering.TheVariants.{Equal}
use Rattle.osm_model.proofs.shared.References.{refs_total}
use Rattle.osm_model.specs.Elements.{Element, ref_cmp, reference}
use Rattle.osm_model.specs.Sets.{IsObjectSet}
use Rattle.osm_model.specs.declared.reference.Ref.{Ref}
use Rattle.ql_syntax.specs.Filters as tree
use Rattle.ql_syntax.specs.StatementViews.{filter_of, filters_of}
use Rattle.ql_syntax.specs.declared.filter.Filter.{Filter}
use Rattle.ql_syntax.specs.declared.filter.Filter.TheVariants as code
use Rattle.ql_syntax.specs.declared.pick.Pick.{Pick}
use Rattle.ref_sets.proofs.shared.Adding.{adds_to_nothing, one_more}
use Rattle.ref_sets.proofs.shared.Keeping.{earlier_below, set_as}
use Rattle.ref_sets.specs.Adding.{Adds, From}
use Rattle.ref_sets.specs.NamedSets.{Env}
use Rattle.ref_sets.specs.Sets.{IsSetOf}
use Rattle.ql_meaning.specs.ObjectTests.{PassesAlone}
use Rattle.ql_meaning.specs.Values.{IsPicked, IsRefOf, IsSelected, Passes}
use Rattle.ql_plain.specs.internal.Keeping.{Keeps}

-- a reference names one object of a set
pub one_object : (objects : List Element) → IsObjectSet objects → (o p : Element) → Contains objects o → Contains objects p → reference o ≡ reference p → o ≡ p
one_object objects set o p has has_too same = elim (cases_lt has.0 has_too.0) [
  | inl before ↦ absurd (apart has.0 has_too.0 o p before has_too.1 has.2 has_too.2 same)
  | inr after ↦ elim (cases_lt has_too.0 has.0) [
    | inl in_rest ↦ absurd (apart has_too.0 has.0 p o in_rest has.1 has_too.2 has.2 (sym same))
    | inr equal ↦ (
        let at : has.0 ≡ has_too.0 = omega arith in
        sym has.2 ∙ get_or_default objects has.0 o p has.1 ∙ ap (λ (k : ℕ). get_or objects k p) at ∙ has_too.2)
  ]
]
  where
    apart : (i j : ℕ) (x y : Element) → i < j → j < length objects → get_or objects i x ≡ x → get_or objects j y ≡ y → reference x ≡ reference y → ⊥
    apart i j x y lt within ix jy is =
        let less = earlier_below (λ (q : Element). reference q) objects set.rising i j x y lt within ix jy in
        let equal : ref_cmp (reference x) (reference y) ≡ Equal = ap (λ (r : Ref). ref_cmp r (reference y)) is ∙ tied_itself refs_total (reference y) in
        cc

-- a set of what was added to nothing
pub set_from_added : {added refs : List Ref} {P : Ref → Type 0} → Adds [] added P → IsSetOf refs (Contains added) → IsSetOf refs P
set_from_added so tidied = set_as (λ r has. (adds_to_nothing refl so r).0 has) (λ r p. (adds_to_nothing refl so r).1 p) tidied

-- the reference of this object, of which something is so
abbrev pub IsOf : (Element → Type 0) → Element → Ref → Type 0
IsOf P o r = P o × (reference o ≡ r)

-- the objects of which something is so, of all that were gone over
pub refs_of : (objects gone : List Element) (P : Element → Type 0) → gone ≡ objects → {added refs : List Ref} → Adds [] added (From gone (IsOf P)) → IsSetOf refs (Contains added) → IsSetOf refs (IsRefOf objects P)
refs_of objects gone P same so tidied =
    set_as
    (λ r of. (of.0, subst (λ (os : List Element). Contains os of.0) same of.1, of.2.1, of.2.0))
    (λ r of. (of.0, subst (λ (os : List Element). Contains os of.0) (sym same) of.1, (of.3, of.2)))
    (set_from_added so tidied)

-- ---- what filters keep

-- the references of just those objects of which something is so
pub keeps_refs : (objects : List Element) → IsObjectSet objects → (P : Element → Type 0) {refs : List Ref} → IsSetOf refs (IsRefOf objects P) → Keeps objects refs P
keeps_refs objects set P so o there = (
  (λ has. let of = (so.members (reference o)).0 has in subst P (one_object objects set of.0 o of.1 there of.2) of.3),
  (λ p. (so.members (reference o)).1 (o, there, refl, p)),
)

all_push : {X : Type 0} (P : X → Type 0) (xs : List X) (x : X) → AllByRecursion P xs → P x → AllByRecursion P (xs ++ x ∷ [])
all_push P [] x all p = (p, tt)
all_push P (y ∷ xs) x all p = (all.0, all_push P xs x all.1 p)

all_front : {X : Type 0} (P : X → Type 0) (xs : List X) (x : X) → AllByRecursion P (xs ++ x ∷ []) → AllByRecursion P xs
all_front P [] x all = tt
all_front P (y ∷ xs) x all = (all.0, all_front P xs x all.1)

all_last : {X : Type 0} (P : X → Type 0) (xs : List X) (x : X) → AllByRecursion P (xs ++ x ∷ []) → P x
all_last P [] x all = all.0
all_last P (y ∷ xs) x all = all_last P xs x all.1

module _ (objects : List Element) (env : Env) (pick : Pick) where
  -- no filter was asked yet
  pub selected_none : {refs : List Ref} → IsSetOf refs (IsRefOf objects (IsPicked pick)) → IsSetOf refs (IsRefOf objects (IsSelected objects env pick []))
  selected_none = set_as (λ r of. (of.0, of.1, of.2, (of.3, tt))) (λ r of. (of.0, of.1, of.2, of.3.0))

  -- one filter more of a list
  pub selected_more : (filters : List Filter) (k : ℕ) (f : Filter) → k < length filters → f ≡ get_or filters k f → (kept : List Ref) {refs later : List Ref} → IsSetOf refs (IsRefOf objects (IsSelected objects env pick (filters_of (take k filters))))
      → Keeps objects kept (λ o. Passes objects env o (filter_of f)) → IsSetOf later (λ r. Contains refs r × Contains kept r) → IsSetOf later (IsRefOf objects (IsSelected objects env pick (filters_of (take (k + 1) filters))))
  selected_more filters k f lt is kept {later = later} before keeps then =
      let fs = filters_of (take k filters) in
      let more : filters_of (take (k + 1) filters) ≡ fs ++ filter_of f ∷ [] = ap filters_of (one_more filters k f lt is) ∙ map-append filter_of (take k filters) (f ∷ []) in
      subst (λ (some : List tree.Filter). IsSetOf later (IsRefOf objects (IsSelected objects env pick some))) (sym more)
      (set_as
      (λ r both.
      let of = (before.members r).0 both.0 in
      let passes = (keeps of.0 of.1).0 (subst (λ (s : Ref). Contains kept s) (sym of.2) both.1) in
      (of.0, of.1, of.2, (of.3.0, all_push (λ (g : tree.Filter). Passes objects env of.0 g) fs (filter_of f) of.3.1 passes)))
      (λ r of.
      let front = all_front (λ (g : tree.Filter). Passes objects env of.0 g) fs (filter_of f) of.3.1 in
      let last = all_last (λ (g : tree.Filter). Passes objects env of.0 g) fs (filter_of f) of.3.1 in
      ((before.members r).1 (of.0, of.1, of.2, (of.3.0, front)), subst (λ (s : Ref). Contains kept s) of.2 ((keeps of.0 of.1).1 last)))
      then)

  -- all filters were asked
  pub selected_all : (filters : List Filter) (k : ℕ) → length filters ≤ k → {refs : List Ref} → IsSetOf refs (IsRefOf objects (IsSelected objects env pick (filters_of (take k filters)))) → IsSetOf refs (IsRefOf objects (IsSelected objects env pick (filters_of filters)))
  selected_all filters k past {refs = refs} so = subst (λ (fs : List Filter). IsSetOf refs (IsRefOf objects (IsSelected objects env pick (filters_of fs)))) (take_all k filters past) so

-- a filter that looks at an object alone
module _ (objects : List Element) (env : Env) (o : Element) where
  pub passes_alone : (f : Filter) → ((name : _) → f ≡ code.InSet name → ⊥) → ((ids : _) → f ≡ code.Ids ids → ⊥) → ((path : _) (name : _) → f ≡ code.Via path name → ⊥) → PassesAlone (filter_of f) o ↔ Passes objects env o (filter_of f)
  passes_alone (code.InSet name) in_set ids via = absurd (in_set name refl)
  passes_alone (code.HasKey key) in_set ids via = ((λ p. p), (λ p. p))
  passes_alone (code.KeyIs key value) in_set ids via = ((λ p. p), (λ p. p))
  passes_alone (code.LacksKey key) in_set ids via = ((λ p. p), (λ p. p))
  passes_alone (code.KeyIsNot key value) in_set ids via = ((λ p. p), (λ p. p))
  passes_alone (code.Ids list) in_set ids via = absurd (ids list refl)
  passes_alone (code.Within area) in_set ids via = ((λ p. p), (λ p. p))
  passes_alone (code.Via path name) in_set ids via = absurd (via path name refl)
