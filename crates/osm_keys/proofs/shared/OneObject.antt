-- A reference is that of one object of a set at most, and a key is that of one reference.
use Rattle.std.proofs.Common.{◌≡◌, ℕ, ◌^◌, ◌<◌, ℤ, pos, negsuc, FitsSigned, w64, Bool, true, false, List, [], ◌∷◌, get_or, Some, refl, sym, ap, subst, ◌∙◌, arith}
use Rattle.std.specs.Int.{from_be_bytes}
use Rattle.std.specs.List.{Contains}
use Rattle.std.specs.Ordering.{MatchOrdering, eq_by_cmp, int_cmp, is_eq, ordering_reverse}
use Rattle.std.specs.declared.cmp.Ordering.{Ordering}
use Rattle.std.specs.declared.cmp.Ordering.TheVariants.{Less, Equal, Greater}
use Rattle.std.specs.Prelude.{◌<ℤ◌}
use Rattle.std.proofs.lemmas.Cmp.{int_ranked}
use Rattle.std.proofs.lemmas.Int.{ints}
use Rattle.std.proofs.lemmas.Nat.{from_be_bytes-to_be_bytes_8}
use Rattle.osm_model.proofs.shared.References.{finds, refs_total}
use Rattle.osm_model.specs.Elements.{Element, kind_byte, ref_cmp, reference}
use Rattle.osm_model.specs.Limits.{IsElement}
use Rattle.osm_model.specs.Sets.{IsObjectSet, object_at}
use Rattle.osm_model.specs.declared.kind.Kind.{Kind}
use Rattle.osm_model.specs.declared.kind.Kind.TheVariants as kinds
use Rattle.osm_model.specs.declared.reference.Ref.{Ref}
use Rattle.osm_keys.specs.Keys.{above, id_bytes, ref_key}
use Rattle.osm_keys.proofs.shared.Members.{here, in_rest}

-- ---- references

int_same : (i j : ℤ) → int_cmp i j ≡ Equal → i ≡ j
int_same i j e = subst (λ (o : Ordering). MatchOrdering o (i <ℤ j) (i ≡ j) (j <ℤ i)) e (int_ranked i j (int_cmp i j) refl)

same_parts : (k l : Kind) (i j : ℤ) → ref_cmp (record { kind = k; id = i }) (record { kind = l; id = j }) ≡ Equal → (k ≡ l) × (i ≡ j)
unfolding ref_cmp
same_parts kinds.Node kinds.Node i j e = (refl, int_same i j e)
same_parts kinds.Node kinds.Way i j e = cc
same_parts kinds.Node kinds.Rel i j e = cc
same_parts kinds.Way kinds.Node i j e = cc
same_parts kinds.Way kinds.Way i j e = (refl, int_same i j e)
same_parts kinds.Way kinds.Rel i j e = cc
same_parts kinds.Rel kinds.Node i j e = cc
same_parts kinds.Rel kinds.Way i j e = cc
same_parts kinds.Rel kinds.Rel i j e = (refl, int_same i j e)

pub ref_of_parts : (a b : Ref) → a.kind ≡ b.kind → a.id ≡ b.id → a ≡ b
ref_of_parts a b k i =
    let of_kind : Kind → Ref = λ k. record { kind = k; id = a.id } in
    let of_id : ℤ → Ref = λ i. record { kind = b.kind; id = i } in
    ap of_kind k ∙ ap of_id i

pub same_reference : (a b : Ref) → ref_cmp a b ≡ Equal → a ≡ b
same_reference a b e = let parts = same_parts a.kind b.kind a.id b.id e in ref_of_parts a b parts.0 parts.1

is_equal : (o : Ordering) → is_eq o ≡ true → o ≡ Equal
is_equal Less e = cc
is_equal Equal e = refl
is_equal Greater e = cc

reverse_fixed : (o : Ordering) → o ≡ ordering_reverse o → o ≡ Equal
reverse_fixed Less e = cc
reverse_fixed Equal e = refl
reverse_fixed Greater e = cc

ref_itself : (r : Ref) → ref_cmp r r ≡ Equal
ref_itself r = reverse_fixed (ref_cmp r r) (refs_total.antisymm r r)

-- ---- the object with a reference

found_first : (x : Element) (objects : List Element) (r : Ref) (o : Element) (b : Bool) → eq_by_cmp ref_cmp (reference x) r ≡ b
    → (object_at objects r ≡ Some o → Contains objects o × (reference o ≡ r)) → object_at (x ∷ objects) r ≡ Some o → Contains (x ∷ objects) o × (reference o ≡ r)
found_first x objects r o true t rest e =
    let is : Some x ≡ Some o = rw t at e in
    let same : x ≡ o = cc in
    (subst (λ (y : Element). Contains (x ∷ objects) y) same (here x objects), subst (λ (y : Element). reference y ≡ r) same (same_reference (reference x) r (is_equal (ref_cmp (reference x) r) t)))
found_first x objects r o false t rest e =
    let found = rest (rw t at e) in
    (in_rest x objects o found.0, found.1)

found_in : (objects : List Element) (r : Ref) (o : Element) → object_at objects r ≡ Some o → Contains objects o × (reference o ≡ r)
found_in [] r o e = cc
found_in (x ∷ objects) r o e = found_first x objects r o (eq_by_cmp ref_cmp (reference x) r) refl (found_in objects r o) e

-- what is found is in the set and has the reference
pub object_found : (objects : List Element) (r : Ref) (o : Element) → object_at objects r ≡ Some o → Contains objects o × (reference o ≡ r)
object_found objects r o e = found_in objects r o e

-- what is in the set is found under its reference
pub object_there : (objects : List Element) (o : Element) → IsObjectSet objects → Contains objects o → object_at objects (reference o) ≡ Some o
object_there objects o set h =
    let equal : ref_cmp (reference (get_or objects h.0 o)) (reference o) ≡ Equal = rw (h.2) (ref_itself (reference o)) in
    finds (λ (x : Element). reference x) refs_total (reference o) objects h.0 o set.rising h.1 equal ∙ ap (λ (x : Element). Some x) h.2

-- so two objects of a set with one reference are one
pub one_object : (objects : List Element) (a b : Element) → IsObjectSet objects → Contains objects a → Contains objects b → reference a ≡ reference b → a ≡ b
one_object objects a b set h k e =
    let first = object_there objects a set h in
    let second = object_there objects b set k in
    let one : object_at objects (reference a) ≡ object_at objects (reference b) = ap (λ (r : Ref). object_at objects r) e in
    let both : Some a ≡ Some b = sym first ∙ one ∙ second in
    cc

pub is_element : (objects : List Element) (o : Element) → IsObjectSet objects → Contains objects o → IsElement o
is_element objects o set h = let at = set.elements h.0 o h.1 in subst IsElement h.2 at

-- ---- ids and references in keys

above_below : (z : ℤ) → FitsSigned w64 z → above (2 ^ 63) z < 2 ^ 64
above_below (pos n) fits = omega (arith, ints)
above_below (negsuc n) fits = omega (arith, ints)

above_same : (y z : ℤ) → FitsSigned w64 y → FitsSigned w64 z → above (2 ^ 63) y ≡ above (2 ^ 63) z → y ≡ z
above_same (pos m) (pos n) f g e = omega (arith, ints)
above_same (pos m) (negsuc n) f g e = absurd (omega (arith, ints))
above_same (negsuc m) (pos n) f g e = absurd (omega (arith, ints))
above_same (negsuc m) (negsuc n) f g e = omega (arith, ints)

pub same_id : (y z : ℤ) → FitsSigned w64 y → FitsSigned w64 z → id_bytes y ≡ id_bytes z → y ≡ z
unfolding id_bytes
same_id y z f g e =
    let read = ap (λ (bytes : List ℕ). from_be_bytes w64 bytes) e in
    above_same y z f g (sym (from_be_bytes-to_be_bytes_8 _ (above_below y f)) ∙ read ∙ from_be_bytes-to_be_bytes_8 _ (above_below z g))

pub same_kind : (k l : Kind) → kind_byte k ≡ kind_byte l → k ≡ l
same_kind kinds.Node kinds.Node e = refl
same_kind kinds.Node kinds.Way e = absurd (omega arith)
same_kind kinds.Node kinds.Rel e = absurd (omega arith)
same_kind kinds.Way kinds.Node e = absurd (omega arith)
same_kind kinds.Way kinds.Way e = refl
same_kind kinds.Way kinds.Rel e = absurd (omega arith)
same_kind kinds.Rel kinds.Node e = absurd (omega arith)
same_kind kinds.Rel kinds.Way e = absurd (omega arith)
same_kind kinds.Rel kinds.Rel e = refl

pub same_ref : (a b : Ref) → FitsSigned w64 a.id → FitsSigned w64 b.id → ref_key a ≡ ref_key b → a ≡ b
same_ref a b f g e =
    let heads : kind_byte a.kind ≡ kind_byte b.kind = cc in
    let tails : id_bytes a.id ≡ id_bytes b.id = cc in
    ref_of_parts a b (same_kind a.kind b.kind heads) (same_id a.id b.id f g tails)
