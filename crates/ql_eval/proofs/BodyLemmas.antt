-- What the bodies of objects list of a set.
use Rattle.std.proofs.Common.{◌≡◌, ℤ, List, refl, sym, ap, subst, ◌∙◌, map}
use Rattle.std.specs.List.{Contains}
use Rattle.osm_model.specs.Membership.{BodyLists}
use Rattle.osm_model.specs.declared.body.Body.{Body}
use Rattle.osm_model.specs.declared.body.Body.TheVariants as bodies
use Rattle.osm_model.specs.declared.kind.Kind.{Kind}
use Rattle.osm_model.specs.declared.kind.Kind.TheVariants as kinds
use Rattle.osm_model.specs.declared.member.Member.{Member}
use Rattle.osm_model.specs.declared.reference.Ref.{Ref}
use Rattle.osm_keys.proofs.shared.Members.{from_map, in_map}
use Rattle.ql_eval.specs.internal.Narrowing.{HasMemberIn, HasNodeIn, ListsIn}

same_node : (r : Ref) → r.kind ≡ kinds.Node → r ≡ record { kind = kinds.Node; id = r.id }
same_node r is = let of : Kind → Ref = λ k. record { kind = k; id = r.id } in ap of is

module _ (body : Body) (set : List Ref) (kind : Kind) where
  pub node_lists_none : {place : _} → body ≡ bodies.Node place → ListsIn set kind body → ⊥
  node_lists_none is lists = subst (λ (b : Body). BodyLists b lists.0) is lists.1

  pub way_lists : (nodes listed : List ℤ) → body ≡ bodies.Way nodes → listed ≡ nodes → kind ≡ kinds.Node → HasNodeIn set listed → ListsIn set kind body
  way_lists nodes listed is same node one = (
    record { kind = kinds.Node; id = one.0 },
    subst (λ (b : Body). BodyLists b (record { kind = kinds.Node; id = one.0 })) (sym is) (refl, subst (λ (ids : List ℤ). Contains ids one.0) same one.1),
    sym node,
    one.2,
  )

  pub from_way_lists : (nodes listed : List ℤ) → body ≡ bodies.Way nodes → listed ≡ nodes → ListsIn set kind body → (kind ≡ kinds.Node) × HasNodeIn set listed
  from_way_lists nodes listed is same lists =
      let r = lists.0 in
      let of : (r.kind ≡ kinds.Node) × Contains nodes r.id = subst (λ (b : Body). BodyLists b r) is lists.1 in
      (sym lists.2 ∙ of.0, (r.id, subst (λ (ids : List ℤ). Contains ids r.id) (sym same) of.1, subst (λ (s : Ref). Contains set s) (same_node r of.0) lists.3))

  pub relation_lists : (members listed : List Member) → body ≡ bodies.Rel members → listed ≡ members → HasMemberIn set kind listed → ListsIn set kind body
  relation_lists members listed is same one = (
    one.0.target,
    subst (λ (b : Body). BodyLists b one.0.target) (sym is) (in_map (λ (m : Member). m.target) members one.0 (subst (λ (ms : List Member). Contains ms one.0) same one.1)),
    one.2,
    one.3,
  )

  pub from_relation_lists : (members listed : List Member) → body ≡ bodies.Rel members → listed ≡ members → ListsIn set kind body → HasMemberIn set kind listed
  from_relation_lists members listed is same lists =
      let r = lists.0 in
      let of : Contains (map (λ (m : Member). m.target) members) r = subst (λ (b : Body). BodyLists b r) is lists.1 in
      let (one, has, named) = from_map (λ (m : Member). m.target) members r of in (
        one,
        subst (λ (ms : List Member). Contains ms one) (sym same) has,
        ap (λ (s : Ref). s.kind) (sym named) ∙ lists.2,
        subst (λ (s : Ref). Contains set s) named lists.3,
      )
