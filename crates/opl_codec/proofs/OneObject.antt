-- A line is one object: its parts, its kind and its tags by rising key leave no choice.
use Rattle.std.proofs.Common.{◌≡◌, ℕ, ℤ, List, [], Option, Some, sym, ◌∙◌, ap}
use Rattle.std.specs.Option.{unwrap_or}
use Rattle.std.specs.List.Sorted.{IsPermutation}
use Rattle.std.proofs.lemmas.Cmp.{nat_list_cmp_total}
use Rattle.std.proofs.lemmas.List.Sorted.{IsPermutation-sym, IsPermutation-trans}
use Rattle.osm_model.specs.Elements.{Element, kind_of, reference}
use Rattle.osm_model.specs.Limits.{HasRisingKeys}
use Rattle.osm_model.specs.Places.{Place}
use Rattle.osm_model.specs.declared.body.Body.{Body}
use Rattle.osm_model.specs.declared.body.Body.TheVariants as bodies
use Rattle.osm_model.specs.declared.kind.Kind.TheVariants as kinds
use Rattle.osm_model.specs.declared.member.Member.{Member}
use Rattle.osm_model.specs.declared.meta.Meta.{Meta}
use Rattle.osm_model.specs.declared.reference.Ref.{Ref}
use Rattle.osm_model.specs.declared.tag.Tag.{Tag}
use Rattle.opl_codec.specs.LineChanges.{SpellsParts, SpellsObject}
use Rattle.opl_codec.specs.LineParts.{IsBodyOf, meta_of, tags_of}
use Rattle.opl_codec.specs.declared.line_parts.LineParts.{LineParts}
use Rattle.opl_codec.proofs.OneOrder.{one_order}
use Rattle.opl_codec.proofs.OneParts.{SameParts, one_name, same_meta, same_parts}

-- ---- one body
same_place : (p q : Place) → p.lon ≡ q.lon → p.lat ≡ q.lat → p ≡ q
same_place p q lon lat = ap (λ x. made x p.lat) lon ∙ ap (λ x. made q.lon x) lat
  where
    made : ℤ → ℤ → Place
    made lon lat = record { lon = lon; lat = lat }

same_known : (o p : Option (Option ℤ)) (y z : ℤ) → o ≡ Some (Some y) → p ≡ Some (Some z) → o ≡ p → y ≡ z
same_known o p y z h k same = let both : ◌≡◌ {A = Option (Option ℤ)} (Some (Some y)) (Some (Some z)) = sym h ∙ (same ∙ k) in cc

one_body : (p q : LineParts) (a b : Body) → SameParts p q → kind_of a ≡ kind_of b → IsBodyOf p a → IsBodyOf q b → a ≡ b
one_body p q (bodies.Node x) (bodies.Node y) s kind h k = ap bodies.Node (same_place x y (same_known p.lon q.lon x.lon y.lon h.0 k.0 s.lon) (same_known p.lat q.lat x.lat y.lat h.1 k.1 s.lat))
one_body p q (bodies.Node x) (bodies.Way y) s kind h k = absurd (let e : kinds.Node ≡ kinds.Way = kind in cc)
one_body p q (bodies.Node x) (bodies.Rel y) s kind h k = absurd (let e : kinds.Node ≡ kinds.Rel = kind in cc)
one_body p q (bodies.Way x) (bodies.Node y) s kind h k = absurd (let e : kinds.Way ≡ kinds.Node = kind in cc)
one_body p q (bodies.Way x) (bodies.Way y) s kind h k = ap bodies.Way (h ∙ (ap (λ (o : Option (List ℤ)). unwrap_or o []) s.nodes ∙ sym k))
one_body p q (bodies.Way x) (bodies.Rel y) s kind h k = absurd (let e : kinds.Way ≡ kinds.Rel = kind in cc)
one_body p q (bodies.Rel x) (bodies.Node y) s kind h k = absurd (let e : kinds.Rel ≡ kinds.Node = kind in cc)
one_body p q (bodies.Rel x) (bodies.Way y) s kind h k = absurd (let e : kinds.Rel ≡ kinds.Way = kind in cc)
one_body p q (bodies.Rel x) (bodies.Rel y) s kind h k = ap bodies.Rel (h ∙ (ap (λ (o : Option (List Member)). unwrap_or o []) s.members ∙ sym k))

-- ---- one object
-- the object that a line's parts make, whatever its limits
pub record MakesObject (line : List ℕ) (o : Element) : Type 0 where
  pub parts : LineParts
  pub spelled : SpellsParts line (reference o) parts
  pub meta_is : o.meta ≡ meta_of parts
  pub tags_are : IsPermutation (tags_of parts) o.tags
  pub body_is : IsBodyOf parts o.body
  pub rising : HasRisingKeys o.tags

pub object_made : (line : List ℕ) (o : Element) → SpellsObject line o → MakesObject line o
object_made line o h = record { parts = h.parts; spelled = h.spelled; meta_is = h.meta_is; tags_are = h.tags_are; body_is = h.body_is; rising = h.element.rising }

one_tags : (line : List ℕ) (a b : Element) (h : MakesObject line a) (k : MakesObject line b) → SameParts h.parts k.parts → a.tags ≡ b.tags
one_tags line a b h k s = one_order (λ (tag : Tag). tag.key) nat_list_cmp_total a.tags b.tags order h.rising k.rising
  where
    order : IsPermutation a.tags b.tags
    order = IsPermutation-trans a.tags (tags_of h.parts) b.tags (IsPermutation-sym (tags_of h.parts) a.tags h.tags_are) (IsPermutation-trans (tags_of h.parts) (tags_of k.parts) b.tags s.tags k.tags_are)

same_object : (a b : Element) → a.id ≡ b.id → a.meta ≡ b.meta → a.tags ≡ b.tags → a.body ≡ b.body → a ≡ b
same_object a b id meta tags body =
    ap (λ x. made x a.meta a.tags a.body) id
    ∙ (ap (λ x. made b.id x a.tags a.body) meta
    ∙ (ap (λ x. made b.id b.meta x a.body) tags
    ∙ ap (λ x. made b.id b.meta b.tags x) body))
  where
    made : ℤ → Meta → List Tag → Body → Element
    made id meta tags body = record { id = id; meta = meta; tags = tags; body = body }

pub one_object : (line : List ℕ) (a b : Element) → MakesObject line a → MakesObject line b → a ≡ b
one_object line a b h k =
    let name : reference a ≡ reference b = one_name line (reference a) (reference b) h.parts k.parts h.spelled k.spelled in
    let parts = same_parts line (reference a) (reference b) h.parts k.parts h.spelled k.spelled in
    same_object a b
    (ap (λ (r : Ref). r.id) name)
    (h.meta_is ∙ (same_meta h.parts k.parts parts ∙ sym k.meta_is))
    (one_tags line a b h k parts)
    (one_body h.parts k.parts a.body b.body parts (ap (λ (r : Ref). r.kind) name) h.body_is k.body_is)
