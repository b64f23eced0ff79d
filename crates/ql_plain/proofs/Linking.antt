-- The links of objects, and those of their bodies.
use Rattle.std.proofs.Common.{◌≡◌, ℤ, List, [], refl, sym, ap, subst, ◌∙◌, map}
use Rattle.std.specs.List.{Contains}
use Rattle.osm_model.specs.Elements.{Element, reference}
use Rattle.osm_model.specs.Membership.{BodyLists}
use Rattle.osm_model.specs.declared.body.Body.{Body}
use Rattle.osm_model.specs.declared.body.Body.TheVariants as bodies
use Rattle.osm_model.specs.declared.kind.Kind.TheVariants as kinds
use Rattle.osm_model.specs.declared.member.Member.{Member}
use Rattle.osm_model.specs.declared.reference.Ref.{Ref}
use Rattle.ref_sets.proofs.shared.Adding.{adds_as, adds_nothing, adds_to_nothing}
use Rattle.ref_sets.proofs.shared.Mapped.{contains_mapped, from_mapped}
use Rattle.ref_sets.proofs.shared.References.{same_node}
use Rattle.ref_sets.specs.Adding.{Adds, From}
use Rattle.ql_plain.specs.declared.links.Link.{Link}
use Rattle.ql_plain.specs.internal.Linked.{AreLinks, IsLinkOf, IsLinkToMember, IsLinkToNode, IsThere}

same_link : (link : Link) (parent child : Ref) → link.parent ≡ parent → link.child ≡ child → link ≡ record { parent = parent; child = child }
same_link link parent child p c =
    let by : Ref → Link = λ r. record { parent = r; child = link.child } in
    let to : Ref → Link = λ r. record { parent = parent; child = r } in
    ap by p ∙ ap to c

module _ (objects : List Element) (o : Element) where
  -- a node has none
  pub node_links : {place : _} → o.body ≡ bodies.Node place → {links : List Link} → Adds links links (IsLinkOf objects o)
  node_links is = adds_nothing (λ link of. subst (λ (b : Body). BodyLists b link.child) is of.1)

  module _ (parent : Ref) (parent_is : parent ≡ reference o) where
    -- the nodes of a way
    pub way_links : (nodes listed : List ℤ) → o.body ≡ bodies.Way nodes → listed ≡ nodes → {old new : List Link} → Adds old new (From listed (IsLinkToNode objects parent)) → Adds old new (IsLinkOf objects o)
    way_links nodes listed is same =
        adds_as
        (λ link from.
        let child : link.child ≡ record { kind = kinds.Node; id = from.0 } = ap (λ (l : Link). l.child) from.2.0 in (
          ap (λ (l : Link). l.parent) from.2.0 ∙ parent_is,
          subst (λ (b : Body). BodyLists b link.child) (sym is) (
            ap (λ (r : Ref). r.kind) child,
            subst (λ (id : ℤ). Contains nodes id) (sym (ap (λ (r : Ref). r.id) child)) (subst (λ (ids : List ℤ). Contains ids from.0) same from.1),
          ),
          subst (λ (r : Ref). IsThere objects r) (sym child) from.2.1,
        ))
        (λ link of.
        let lists : (link.child.kind ≡ kinds.Node) × Contains nodes link.child.id = subst (λ (b : Body). BodyLists b link.child) is of.1 in
        let node = same_node link.child lists.0 in (
          link.child.id,
          subst (λ (ids : List ℤ). Contains ids link.child.id) (sym same) lists.1,
          (same_link link parent _ (of.0 ∙ sym parent_is) node, subst (λ (r : Ref). IsThere objects r) node of.2),
        ))

    -- the members of a relation
    pub relation_links : (members listed : List Member) → o.body ≡ bodies.Rel members → listed ≡ members → {old new : List Link} → Adds old new (From listed (IsLinkToMember objects parent)) → Adds old new (IsLinkOf objects o)
    relation_links members listed is same =
        adds_as
        (λ link from. (
          ap (λ (l : Link). l.parent) from.2.0 ∙ parent_is,
          subst (λ (b : Body). BodyLists b link.child) (sym is)
              (subst (λ (r : Ref). Contains (map (λ (m : Member). m.target) members) r) (sym (ap (λ (l : Link). l.child) from.2.0))
              (contains_mapped (λ (m : Member). m.target) members from.0 (subst (λ (ms : List Member). Contains ms from.0) same from.1))),
          subst (λ (r : Ref). IsThere objects r) (sym (ap (λ (l : Link). l.child) from.2.0)) from.2.1,
        ))
        (λ link of.
        let lists : Contains (map (λ (m : Member). m.target) members) link.child = subst (λ (b : Body). BodyLists b link.child) is of.1 in
        let one = from_mapped (λ (m : Member). m.target) members link.child lists in (
          one.0,
          subst (λ (ms : List Member). Contains ms one.0) (sym same) one.1,
          (same_link link parent _ (of.0 ∙ sym parent_is) (sym one.2), subst (λ (r : Ref). IsThere objects r) (sym one.2) of.2),
        ))

-- the links of all objects
pub all_links : (objects : List Element) (links : List Link) → Adds [] links (From objects (IsLinkOf objects)) → AreLinks objects links
all_links objects links so link = (
  (λ has.
      let from = (adds_to_nothing refl so link).0 has in
      let child = from.2.2 in (
        from.0,
        child.0,
        record { there = from.1; child_there = child.1; lists = subst (λ (r : Ref). BodyLists from.0.body r) (sym child.2) from.2.1 },
        same_link link _ _ from.2.0 (sym child.2),
      )),
  (λ is. (adds_to_nothing refl so link).1 (
    is.0,
    is.2.there,
    (
      ap (λ (l : Link). l.parent) is.3,
      subst (λ (r : Ref). BodyLists is.0.body r) (sym (ap (λ (l : Link). l.child) is.3)) is.2.lists,
      (is.1, is.2.child_there, sym (ap (λ (l : Link). l.child) is.3)),
    ),
  )),
)
