-- What the bodies of objects list.
use Rattle.std.proofs.Common.{◌≡◌, ℤ, List, sym, ap, subst, map}
use Rattle.std.specs.List.{Contains}
use Rattle.osm_model.specs.Membership.{BodyLists}
use Rattle.osm_model.specs.declared.body.Body.{Body}
use Rattle.osm_model.specs.declared.body.Body.TheVariants as bodies
use Rattle.osm_model.specs.declared.kind.Kind.TheVariants as kinds
use Rattle.osm_model.specs.declared.member.Member.{Member}
use Rattle.osm_model.specs.declared.reference.Ref.{Ref}
use Rattle.ref_sets.proofs.shared.Adding.{adds_as, adds_nothing}
use Rattle.ref_sets.proofs.shared.References.{same_node}
use Rattle.ref_sets.proofs.shared.Mapped.{contains_mapped, from_mapped}
use Rattle.ref_sets.specs.Adding.{Adds, From}
use Rattle.ql_eval.specs.internal.Listed.{IsNode, IsTarget}

module _ (body : Body) where
  pub way_items : (nodes listed : List ℤ) → body ≡ bodies.Way nodes → listed ≡ nodes → {old new : List Ref} → Adds old new (From listed IsNode) → Adds old new (BodyLists body)
  way_items nodes listed is same =
      adds_as
      (λ r from. subst (λ (b : Body). BodyLists b r) (sym is) (
        ap (λ (s : Ref). s.kind) (sym from.2),
        subst (λ (id : ℤ). Contains nodes id) (ap (λ (s : Ref). s.id) from.2) (subst (λ (ids : List ℤ). Contains ids from.0) same from.1),
      ))
      (λ r lists.
      let of : (r.kind ≡ kinds.Node) × Contains nodes r.id = subst (λ (b : Body). BodyLists b r) is lists in
      (r.id, subst (λ (ids : List ℤ). Contains ids r.id) (sym same) of.1, sym (same_node r of.0)))

  pub relation_items : (members listed : List Member) → body ≡ bodies.Rel members → listed ≡ members → {old new : List Ref} → Adds old new (From listed IsTarget) → Adds old new (BodyLists body)
  relation_items members listed is same =
      adds_as
      (λ r from. subst (λ (b : Body). BodyLists b r) (sym is)
      (subst (λ (s : Ref). Contains (map (λ (m : Member). m.target) members) s) from.2
      (contains_mapped (λ (m : Member). m.target) members from.0 (subst (λ (ms : List Member). Contains ms from.0) same from.1))))
      (λ r lists.
      let of : Contains (map (λ (m : Member). m.target) members) r = subst (λ (b : Body). BodyLists b r) is lists in
      let one = from_mapped (λ (m : Member). m.target) members r of in
      (one.0, subst (λ (ms : List Member). Contains ms one.0) (sym same) one.1, one.2))

  pub node_items : {place : _} → body ≡ bodies.Node place → {refs : List Ref} → Adds refs refs (BodyLists body)
  node_items is = adds_nothing (λ r lists. subst (λ (b : Body). BodyLists b r) is lists)
