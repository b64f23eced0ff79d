-- The recursions that go one link, and one more from ways.
use Rattle.std.proofs.Common.{◌≡◌, List, ◌⊎◌, inl, inr, refl, sym, ap, subst, ◌∙◌}
use Rattle.std.specs.List.{Contains}
use Rattle.osm_model.specs.Elements.{Element, reference}
use Rattle.osm_model.specs.Sets.{IsObjectSet}
use Rattle.osm_model.specs.declared.kind.Kind.TheVariants as kinds
use Rattle.osm_model.specs.declared.reference.Ref.{Ref}
use Rattle.ref_sets.proofs.shared.Keeping.{set_as}
use Rattle.ref_sets.specs.Sets.{IsSetOf}
use Rattle.ql_meaning.specs.Values.{IsAbove, IsBelow, IsDown, IsRefOf, IsUp}
use Rattle.ql_plain.proofs.Selecting.{one_object}

module _ (objects : List Element) (set : IsObjectSet objects) (from : List Ref) where
  pub down_is : {nodes members inner relations others first refs : List Ref} → IsSetOf nodes (IsRefOf objects (IsBelow objects from kinds.Way)) → IsSetOf members (IsRefOf objects (IsBelow objects from kinds.Rel))
      → IsSetOf inner (IsRefOf objects (IsBelow objects members kinds.Way)) → IsSetOf relations (λ r. Contains members r × (r.kind ≡ kinds.Rel)) → IsSetOf others (λ r. Contains members r × ¬ (Contains relations r))
      → IsSetOf first (λ r. Contains nodes r ⊎ Contains others r) → IsSetOf refs (λ r. Contains first r ⊎ Contains inner r) → IsSetOf refs (IsRefOf objects (IsDown objects from))
  down_is nodes_are members_are inner_are relations_are others_are first_are =
      set_as
      (λ r has. elim has [
        | inl early ↦ elim ((first_are.members r).0 early) [
          | inl node ↦ (let o = (nodes_are.members r).0 node in (o.0, o.1, o.2, inl o.3))
          | inr other ↦ (
              let is = (others_are.members r).0 other in
              let o = (members_are.members r).0 is.0 in
              (o.0, o.1, o.2, inr (inl ((λ relation. is.1 ((relations_are.members r).1 (is.0, ap (λ (s : Ref). s.kind) (sym o.2) ∙ relation))), o.3))))
        ]
        | inr late ↦ (
            let o = (inner_are.members r).0 late in
            let parent = o.3 in
            let above = (members_are.members (reference parent.0)).0 parent.3 in
            let same : above.0 ≡ parent.0 = one_object objects set above.0 parent.0 above.1 parent.1.there above.2 in
            (o.0, o.1, o.2, inr (inr (parent.0, parent.1, parent.2, subst (λ (q : Element). IsBelow objects from kinds.Rel q) same above.3))))
      ])
      (λ r of. elim of.3 [
        | inl node ↦ inl ((first_are.members r).1 (inl ((nodes_are.members r).1 (of.0, of.1, of.2, node))))
        | inr more ↦ elim more [
          | inl member ↦ (
              let has = (members_are.members r).1 (of.0, of.1, of.2, member.1) in
              inl ((first_are.members r).1 (inr ((others_are.members r).1 (has, (λ relation. member.0 (ap (λ (s : Ref). s.kind) of.2 ∙ ((relations_are.members r).0 relation).1)))))))
          | inr far ↦ inr ((inner_are.members r).1 (of.0, of.1, of.2, (far.0, far.1, far.2, (members_are.members (reference far.0)).1 (far.0, far.1.there, refl, far.3))))
        ]
      ])

  pub up_is : {nodes ways outer first refs : List Ref} → IsSetOf nodes (IsRefOf objects (IsAbove objects from kinds.Node)) → IsSetOf ways (IsRefOf objects (IsAbove objects from kinds.Way))
      → IsSetOf outer (IsRefOf objects (IsAbove objects nodes kinds.Way)) → IsSetOf first (λ r. Contains nodes r ⊎ Contains ways r) → IsSetOf refs (λ r. Contains first r ⊎ Contains outer r) → IsSetOf refs (IsRefOf objects (IsUp objects from))
  up_is nodes_are ways_are outer_are first_are =
      set_as
      (λ r has. elim has [
        | inl early ↦ elim ((first_are.members r).0 early) [
          | inl node ↦ (let o = (nodes_are.members r).0 node in (o.0, o.1, o.2, inl o.3))
          | inr way ↦ (let o = (ways_are.members r).0 way in (o.0, o.1, o.2, inr (inl o.3)))
        ]
        | inr late ↦ (
            let o = (outer_are.members r).0 late in
            let child = o.3 in
            let below = (nodes_are.members (reference child.0)).0 child.3 in
            let same : below.0 ≡ child.0 = one_object objects set below.0 child.0 below.1 child.1.child_there below.2 in
            (o.0, o.1, o.2, inr (inr (child.0, child.1, child.2, subst (λ (q : Element). IsAbove objects from kinds.Node q) same below.3))))
      ])
      (λ r of. elim of.3 [
        | inl node ↦ inl ((first_are.members r).1 (inl ((nodes_are.members r).1 (of.0, of.1, of.2, node))))
        | inr more ↦ elim more [
          | inl way ↦ inl ((first_are.members r).1 (inr ((ways_are.members r).1 (of.0, of.1, of.2, way))))
          | inr far ↦ inr ((outer_are.members r).1 (of.0, of.1, of.2, (far.0, far.1, far.2, (nodes_are.members (reference far.0)).1 (far.0, far.1.child_there, refl, far.3))))
        ]
      ])
