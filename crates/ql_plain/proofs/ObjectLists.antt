-- Objects of a list by their references.
use Rattle.std.proofs.Common.{◌≡◌, List, [], ◌∷◌, Bool, true, false, Option, Some, None, Bor, inl, inr, refl, sym, ap, subst, ◌∙◌, if◌then◌else◌}
use Rattle.std.specs.List.{Contains}
use Rattle.std.specs.Option.{is_some, option_copied}
use Rattle.std.specs.Ordering.{eq_by_cmp}
use Rattle.osm_model.specs.Elements.{Element, ref_cmp, reference}
use Rattle.osm_model.specs.Sets.{object_at}
use Rattle.osm_model.specs.declared.reference.Ref.{Ref}
use Rattle.ref_sets.proofs.shared.Adding.{in_rest, first_or_in_rest, here, none}
use Rattle.ref_sets.proofs.shared.References.{equal_is_same, equal_itself}
use Rattle.ql_plain.specs.internal.Linked.{IsThere}

-- what is found at a reference is there
found_case : (r : Ref) (o : Element) (objects : List Element) (b : Bool) → eq_by_cmp ref_cmp (reference o) r ≡ b
    → ((p : Element) → object_at objects r ≡ Some p → Contains objects p × (reference p ≡ r)) → (p : Element) → (if b then Some o else object_at objects r) ≡ Some p → Contains (o ∷ objects) p × (reference p ≡ r)
found_case r o objects true e later p is =
    let same : o ≡ p = cc in
    (subst (λ (q : Element). Contains (o ∷ objects) q) same (here o objects), subst (λ (q : Element). reference q ≡ r) same (equal_is_same (reference o) r e))
found_case r o objects false e later p is = let found = later p is in (in_rest o objects p found.0, found.1)

pub object_is_there : (objects : List Element) (r : Ref) (p : Element) → object_at objects r ≡ Some p → Contains objects p × (reference p ≡ r)
object_is_there [] r p is = cc
object_is_there (o ∷ objects) r p is = found_case r o objects (eq_by_cmp ref_cmp (reference o) r) refl (object_is_there objects r) p is

-- where nothing is found, nothing is there
absent_case : (r : Ref) (o : Element) (objects : List Element) (b : Bool) → eq_by_cmp ref_cmp (reference o) r ≡ b
    → (object_at objects r ≡ None → IsThere objects r → ⊥) → (if b then Some o else object_at objects r) ≡ None → IsThere (o ∷ objects) r → ⊥
absent_case r o objects true e later is there = cc
absent_case r o objects false e later is there = elim (first_or_in_rest o objects there.0 there.1) [
  | inl same ↦ (let true_is = equal_itself (reference o) r (ap reference same ∙ there.2) in cc)
  | inr has ↦ later is (there.0, has, there.2)
]

pub object_is_absent : (objects : List Element) (r : Ref) → object_at objects r ≡ None → IsThere objects r → ⊥
object_is_absent [] r is there = none there.0 there.1
object_is_absent (o ∷ objects) r is there = absent_case r o objects (eq_by_cmp ref_cmp (reference o) r) refl (object_is_absent objects r) is there

-- the answer of a look-up tells
pub there_from_found : (objects : List Element) (r : Ref) (found : Option (Bor Element)) → option_copied found ≡ object_at objects r → is_some found ≡ true → IsThere objects r
there_from_found objects r (Some o) is some = let there = object_is_there objects r o.now (sym is) in (o.now, there.0, there.1)
there_from_found objects r None is some = cc

pub absent_from_none : (objects : List Element) (r : Ref) (found : Option (Bor Element)) → option_copied found ≡ object_at objects r → is_some found ≡ false → IsThere objects r → ⊥
absent_from_none objects r (Some o) is some = cc
absent_from_none objects r None is some = object_is_absent objects r (sym is)
