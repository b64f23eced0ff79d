-- The order of references, as the code compares them.
use Rattle.std.proofs.Common.{◌≡◌, Bool, true, ℤ, refl, ap, subst, ◌∙◌, List}
use Rattle.std.proofs.Math.Path.{fun_ext}
use Rattle.std.proofs.lemmas.Cmp.{eq_by_cmp_equiv, int_ranked, tied_itself}
use Rattle.std.specs.Prelude.{◌<ℤ◌}
use Rattle.std.proofs.lemmas.List.Kept.{Contains-dedup, Contains-from_dedup, IsStrictlySortedBy-dedup}
use Rattle.std.proofs.lemmas.List.Sorted.{Contains-permutation, IsPermutation-sym}
use Rattle.std.specs.List.{Contains, dedup}
use Rattle.std.specs.List.Sorted.{IsPermutation, IsSorted}
use Rattle.std.specs.Ordering.{MatchOrdering, eq_by_cmp, int_cmp, is_eq}
use Rattle.std.specs.declared.cmp.Ordering.{Ordering}
use Rattle.std.specs.declared.cmp.Ordering.TheVariants.{Less, Equal, Greater}
use Rattle.osm_model.proofs.shared.References.{refs_total}
use Rattle.osm_model.specs.Elements.{ref_cmp}
use Rattle.osm_model.specs.contracts.reference.RefOrd.TheImpl as order
use Rattle.osm_model.specs.contracts.reference.RefPartialEq.TheImpl as equality
use Rattle.osm_model.specs.declared.kind.Kind.{Kind}
use Rattle.osm_model.specs.declared.kind.Kind.TheVariants as kinds
use Rattle.osm_model.specs.declared.reference.Ref.{Ref}
use Rattle.ref_sets.specs.Sets.{IsSetOf}

-- what the derived order and equality compute
order_parts : (k l : Kind) (i j : ℤ) → order.ghosts.cmp (record { kind = k; id = i }) (record { kind = l; id = j }) ≡ ref_cmp (record { kind = k; id = i }) (record { kind = l; id = j })
unfolding ref_cmp
order_parts kinds.Node kinds.Node i j = refl
order_parts kinds.Node kinds.Way i j = refl
order_parts kinds.Node kinds.Rel i j = refl
order_parts kinds.Way kinds.Node i j = refl
order_parts kinds.Way kinds.Way i j = refl
order_parts kinds.Way kinds.Rel i j = refl
order_parts kinds.Rel kinds.Node i j = refl
order_parts kinds.Rel kinds.Way i j = refl
order_parts kinds.Rel kinds.Rel i j = refl

pub same_order : order.ghosts.cmp ≡ ref_cmp
same_order = fun_ext (λ a. fun_ext (λ b. order_parts a.kind b.kind a.id b.id))

equal_parts : (k l : Kind) (i j : ℤ) → equality.ghosts.eq (record { kind = k; id = i }) (record { kind = l; id = j }) ≡ eq_by_cmp ref_cmp (record { kind = k; id = i }) (record { kind = l; id = j })
unfolding ref_cmp
equal_parts kinds.Node kinds.Node i j = refl
equal_parts kinds.Node kinds.Way i j = refl
equal_parts kinds.Node kinds.Rel i j = refl
equal_parts kinds.Way kinds.Node i j = refl
equal_parts kinds.Way kinds.Way i j = refl
equal_parts kinds.Way kinds.Rel i j = refl
equal_parts kinds.Rel kinds.Node i j = refl
equal_parts kinds.Rel kinds.Way i j = refl
equal_parts kinds.Rel kinds.Rel i j = refl

pub same_equality : equality.ghosts.eq ≡ eq_by_cmp ref_cmp
same_equality = fun_ext (λ a. fun_ext (λ b. equal_parts a.kind b.kind a.id b.id))

int_same : (i j : ℤ) → int_cmp i j ≡ Equal → i ≡ j
int_same i j e = subst (λ (o : Ordering). MatchOrdering o (i <ℤ j) (i ≡ j) (j <ℤ i)) e (int_ranked i j (int_cmp i j) refl)

same_parts : (k l : Kind) (i j : ℤ) → ref_cmp (record { kind = k; id = i }) (record { kind = l; id = j }) ≡ Equal → (k ≡ l) × (i ≡ j)
unfolding ref_cmp
same_parts kinds.Node kinds.Node i j e = (refl, int_same i j e)
same_parts kinds.Node kinds.Way i j e = cc
same_parts kinds.Node kinds.Rel i j e = cc
same_parts kinds.Way kinds.Node i j e = cc
same_parts kinds.Way kinds.Way i j e = (refl, int_same i j e)
same_parts kinds.Way kinds.Rel i j e = cc
same_parts kinds.Rel kinds.Node i j e = cc
same_parts kinds.Rel kinds.Way i j e = cc
same_parts kinds.Rel kinds.Rel i j e = (refl, int_same i j e)

-- references that compare as equal are one
pub same_reference : (a b : Ref) → ref_cmp a b ≡ Equal → a ≡ b
same_reference a b e =
    let parts = same_parts a.kind b.kind a.id b.id e in
    let of_kind : Kind → Ref = λ k. record { kind = k; id = a.id } in
    let of_id : ℤ → Ref = λ i. record { kind = b.kind; id = i } in
    ap of_kind parts.0 ∙ ap of_id parts.1

pub is_equal : (o : Ordering) → is_eq o ≡ true → o ≡ Equal
is_equal Less e = cc
is_equal Equal e = refl
is_equal Greater e = cc

-- references that are one compare as equal
pub equal_itself : (r s : Ref) → r ≡ s → eq_by_cmp ref_cmp r s ≡ true
equal_itself r s same = subst (λ (t : Ref). eq_by_cmp ref_cmp r t ≡ true) same (let e = tied_itself refs_total r in rw e refl)

pub equal_is_same : (r s : Ref) → eq_by_cmp ref_cmp r s ≡ true → r ≡ s
equal_is_same r s e = same_reference r s (is_equal (ref_cmp r s) e)

pub same_node : (r : Ref) → r.kind ≡ kinds.Node → r ≡ record { kind = kinds.Node; id = r.id }
same_node r is = let of : Kind → Ref = λ k. record { kind = k; id = r.id } in ap of is

-- sorted and without repeats, a list is the set of its references
pub tidied : (refs sorted kept : List Ref) → IsPermutation refs sorted → IsSorted ref_cmp sorted → kept ≡ dedup (eq_by_cmp ref_cmp) sorted → IsSetOf kept (Contains refs)
tidied refs sorted kept moved up is = record {
  rising = rw is (IsStrictlySortedBy-dedup refs_total (λ a b. refl) sorted up);
  members = λ r. (
    (λ has. Contains-permutation _ _ r (IsPermutation-sym _ _ moved) (Contains-from_dedup _ _ r (rw is at has))),
    (λ has. rw is (Contains-dedup (eq_by_cmp_equiv refs_total) (λ a b e. same_reference a b (is_equal (ref_cmp a b) e)) _ r (Contains-permutation _ _ r moved has))),
  );
}

-- the same of the order and the equality that the code has
pub tidied_as_code : (refs sorted kept : List Ref) → IsPermutation refs sorted → IsSorted order.ghosts.cmp sorted → kept ≡ dedup equality.ghosts.eq sorted → IsSetOf kept (Contains refs)
tidied_as_code refs sorted kept moved up is =
    tidied refs sorted kept moved (subst (λ (cmp : Ref → Ref → Ordering). IsSorted cmp sorted) same_order up)
    (is ∙ ap (λ (same : Ref → Ref → Bool). dedup same sorted) same_equality)
