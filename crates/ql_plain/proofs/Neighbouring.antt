-- What objects list and what lists them, by links.
use Rattle.std.proofs.Common.{◌≡◌, List, [], refl, sym, ap, subst, ◌∙◌}
use Rattle.std.specs.List.{Contains}
use Rattle.osm_model.specs.Elements.{Element, reference}
use Rattle.osm_model.specs.declared.kind.Kind.{Kind}
use Rattle.osm_model.specs.declared.reference.Ref.{Ref}
use Rattle.ref_sets.proofs.shared.Keeping.{set_as}
use Rattle.ref_sets.specs.Adding.{Adds, From}
use Rattle.ref_sets.specs.Sets.{IsSetOf}
use Rattle.ql_meaning.specs.Values.{IsAbove, IsBelow, IsRefOf}
use Rattle.ql_plain.proofs.Selecting.{set_from_added}
use Rattle.ql_plain.specs.declared.links.Link.{Link}
use Rattle.ql_plain.specs.internal.Linked.{AreLinks}

-- the child of a link, from a parent of this kind in the set
abbrev pub IsChildOf : List Ref → Kind → Link → Ref → Type 0
IsChildOf from kind link r = ((link.parent.kind ≡ kind) × Contains from link.parent) × (link.child ≡ r)

-- the parent of a link, to a child of this kind in the set
abbrev pub IsParentOf : List Ref → Kind → Link → Ref → Type 0
IsParentOf from kind link r = ((link.child.kind ≡ kind) × Contains from link.child) × (link.parent ≡ r)

module _ (objects : List Element) (links : List Link) (are : AreLinks objects links) (from : List Ref) (kind : Kind) where
  pub below_is : {added refs : List Ref} → Adds [] added (From links (IsChildOf from kind)) → IsSetOf refs (Contains added) → IsSetOf refs (IsRefOf objects (IsBelow objects from kind))
  below_is so tidied =
      set_as
      (λ r of.
      let link = of.0 in
      let one = (are link).0 of.1 in
      let parent : link.parent ≡ reference one.0 = ap (λ (l : Link). l.parent) one.3 in
      let child : link.child ≡ reference one.1 = ap (λ (l : Link). l.child) one.3 in (
        one.1,
        one.2.child_there,
        sym child ∙ of.2.1,
        (one.0, one.2, ap (λ (s : Ref). s.kind) (sym parent) ∙ of.2.0.0, subst (λ (s : Ref). Contains from s) parent of.2.0.1),
      ))
      (λ r of.
      let parent = of.3 in
      let link : Link = record { parent = reference parent.0; child = reference of.0 } in
      (link, (are link).1 (parent.0, of.0, parent.1, refl), ((parent.2, parent.3), of.2)))
      (set_from_added so tidied)

  pub above_is : {added refs : List Ref} → Adds [] added (From links (IsParentOf from kind)) → IsSetOf refs (Contains added) → IsSetOf refs (IsRefOf objects (IsAbove objects from kind))
  above_is so tidied =
      set_as
      (λ r of.
      let link = of.0 in
      let one = (are link).0 of.1 in
      let parent : link.parent ≡ reference one.0 = ap (λ (l : Link). l.parent) one.3 in
      let child : link.child ≡ reference one.1 = ap (λ (l : Link). l.child) one.3 in (
        one.0,
        one.2.there,
        sym parent ∙ of.2.1,
        (one.1, one.2, ap (λ (s : Ref). s.kind) (sym child) ∙ of.2.0.0, subst (λ (s : Ref). Contains from s) child of.2.0.1),
      ))
      (λ r of.
      let child = of.3 in
      let link : Link = record { parent = reference of.0; child = reference child.0 } in
      (link, (are link).1 (of.0, child.0, child.1, refl), ((child.2, child.3), of.2)))
      (set_from_added so tidied)
