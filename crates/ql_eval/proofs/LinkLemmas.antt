-- What objects list, and what lists them.
use Rattle.std.proofs.Common.{◌≡◌, ◌≢◌, ◌↔◌, ◌⊎◌, inl, inr, Bool, IsTrue, ℕ, List, [], ◌∷◌, ◌++◌, Option, Some, None, true, false, refl, sym, ap, subst, ◌∙◌}
use Rattle.std.specs.List.{Contains}
use Rattle.std.specs.Borrow.{Bor}
use Rattle.std.specs.Option.{is_some, option_copied}
use Rattle.osm_model.specs.Elements.{Element, kind_of}
use Rattle.osm_model.specs.Membership.{BodyLists}
use Rattle.osm_model.specs.Sets.{IsObjectSet, object_at}
use Rattle.osm_model.specs.declared.body.Body.{Body}
use Rattle.osm_model.specs.declared.body.Body.TheVariants as bodies
use Rattle.osm_model.specs.declared.kind.Kind.{Kind}
use Rattle.osm_model.specs.declared.kind.Kind.TheVariants as kinds
use Rattle.osm_model.specs.declared.reference.Ref.{Ref}
use Rattle.osm_keys.proofs.shared.OneObject.{object_found, one_object}
use Rattle.ref_sets.proofs.shared.Adding.{adds_as, adds_list, adds_nothing, adds_one, adds_to_nothing}
use Rattle.ref_sets.specs.Adding.{Adds, From}
use Rattle.ref_sets.specs.Sets.{IsSetOf}
use Rattle.osm_keys.specs.Grains.{grain_of}
use Rattle.osm_keys.specs.Publications.{Publication}
use Rattle.ql_eval.specs.Questions.{Ask, NeededBy, NeedsAsk, line_ask}
use Rattle.ql_eval.specs.internal.Entries.{IsThere}
use Rattle.ql_eval.proofs.EachLemmas.{needed_as, needed_one, needed_or}
use Rattle.ref_sets.specs.Kinds.{IsBetween}
use Rattle.ql_eval.specs.internal.Links.{IsBelowAsk, IsListedIn, IsListedOf, IsObjectAsk, IsParentAsk, IsThereAs}
use Rattle.ql_eval.proofs.EntryLemmas.{set_as}
use Rattle.ql_eval.proofs.ObjectLemmas.{none_there}

-- what was added to nothing, sorted, is a set
pub set_of_added : {Gives : Ref → Type 0} {names sorted : List Ref} → Adds [] names Gives → IsSetOf sorted (Contains names) → IsSetOf sorted Gives
set_of_added {Gives = Gives} {names = names} {sorted = sorted} so set = set_as sorted (Contains names) Gives (adds_to_nothing refl so) set

-- ---- one reference

lists_nothing : (body : Body) (r : Ref) → kind_of body ≡ kinds.Node → BodyLists body r → ⊥
lists_nothing (bodies.Node place) r e lists = lists
lists_nothing (bodies.Way nodes) r e lists = cc
lists_nothing (bodies.Rel members) r e lists = cc

-- a node lists nothing
pub node_lists_nothing : (objects : List Element) (name : Ref) (list : List Ref) → name.kind ≡ kinds.Node → Adds list list (IsListedOf objects name)
node_lists_nothing objects name list e = adds_nothing (λ r (o, there, named, lists). lists_nothing o.body r (ap (λ (s : Ref). s.kind) named ∙ e) lists)

-- what was read lists what the object of the list does
pub object_lists : (objects : List Element) (name : Ref) (o : Element) (list more : List Ref) → IsObjectSet objects → Some o ≡ object_at objects name → Adds list more (BodyLists o.body) → Adds list more (IsListedOf objects name)
object_lists objects name o list more set found so =
    let (there, named) = object_found objects name o (sym found) in
    adds_as (λ r lists. (o, there, named, lists)) (λ r (other, there_too, named_too, lists). subst (λ (e : Element). BodyLists e.body r) (one_object objects other o set there_too there (named_too ∙ sym named)) lists) so

-- whether an object is there, as what is known of its reference tells
pub is_there : (objects : List Element) (name : Ref) (known : Option (Bor Element)) (is : Bool) → IsObjectSet objects → is ≡ is_some known → option_copied known ≡ object_at objects name → IsTrue is ↔ IsThere objects name
is_there objects name (Some o) is set e at = let found = object_found objects name o.now (sym at) in ((λ yes. (o.now, found.0, found.1)), (λ there. e))
is_there objects name None is set e at = ((λ yes. let never : false ≡ true = sym e ∙ yes in cc), (λ there. absurd (none_there objects name set (sym at) there)))

-- a reference whose object is there
pub there_added : (objects : List Element) (name : Ref) (list more : List Ref) → IsThere objects name → more ≡ list ++ name ∷ [] → Adds list more (IsThereAs objects name)
there_added objects name list more there e = adds_one name e (refl, there) (λ r has. has.0)

pub absent_added : (objects : List Element) (name : Ref) (list : List Ref) → ¬ IsThere objects name → Adds list list (IsThereAs objects name)
absent_added objects name list nowhere = adds_nothing (λ r has. nowhere has.1)

-- what a set has
pub set_added : {Gives : Ref → Type 0} (set list more : List Ref) → IsSetOf set Gives → more ≡ list ++ set → Adds list more Gives
set_added set list more is e = adds_as (λ r. (is.members r).0) (λ r. (is.members r).1) (adds_list set e)

-- a way or relation asks for its line
pub parent_needs : {p : Publication} (name : Ref) → name.kind ≢ kinds.Node → (x : List ℕ) → NeedsAsk p (line_ask (grain_of p.edition) name) x → NeededBy p (IsParentAsk p name) x
parent_needs {p = p} name other = needed_one (line_ask (grain_of p.edition) name) (other, refl)

pub needs_parent : {p : Publication} (name : Ref) (x : List ℕ) → NeededBy p (IsParentAsk p name) x → NeedsAsk p (line_ask (grain_of p.edition) name) x
needs_parent {p = p} name x needs = subst (λ (ask : Ask). NeedsAsk p ask x) needs.asked.1 needs.needs

-- ---- what is below

module _ (p : Publication) (names : List Ref) (first last : Kind) (some : List Ref) (are : (r : Ref) → Contains some r ↔ IsListedIn p.objects names first last r) where
  pub below_needs : (x : List ℕ) → NeededBy p (From some IsObjectAsk) x → NeededBy p (IsBelowAsk p names first last) x
  below_needs = needed_as (λ ask (r, among, e). inr (r, (are r).0 among, e))

  pub needs_below : (x : List ℕ) → NeededBy p (IsBelowAsk p names first last) x → NeededBy p (From names (IsParentAsk p)) x ⊎ NeededBy p (From some IsObjectAsk) x
  needs_below x needs = elim (needed_or x needs) [
    | inl of ↦ inl of
    | inr listed ↦ inr (needed_as (λ ask (r, in_some, e). (r, (are r).1 in_some, e)) x listed)
  ]

  pub below_there : (refs : List Ref) → IsSetOf refs (From some (IsThereAs p.objects)) → IsSetOf refs (λ r. IsListedIn p.objects names first last r × IsThere p.objects r)
  below_there refs set = set_as refs (From some (IsThereAs p.objects)) (λ r. IsListedIn p.objects names first last r × IsThere p.objects r)
      (λ r. (
        (λ (s, among, (same, there)). subst (λ (q : Ref). IsListedIn p.objects names first last q × IsThere p.objects q) same ((are s).0 among, there)),
        (λ (listed, there). (r, (are r).1 listed, (refl, there))),
      )) set

-- the chosen ones of what was listed
pub below_set : (objects : List Element) (names : List Ref) (first last : Kind) (listed some : List Ref) → IsSetOf listed (From names (IsListedOf objects))
    → ((r : Ref) → Contains some r ↔ (Contains listed r × IsBetween first last r)) → (r : Ref) → Contains some r ↔ IsListedIn objects names first last r
below_set objects names first last listed some set chosen r = (
  (λ has. let (among, of_kind) = (chosen r).0 has in ((set.members r).0 among, of_kind)),
  (λ (is, of_kind). (chosen r).1 ((set.members r).1 is, of_kind)),
)
