-- What the base of a query statement finds.
use Rattle.std.proofs.Common.{◌≡◌, ◌↔◌, inl, inr, ℕ, ℤ, List, [], ◌∷◌, Option, Some, None, Result, refl, sym, subst, arith}
use Rattle.std.specs.List.{Contains}
use Rattle.std.specs.Option.{option_to_list}
use Rattle.osm_model.specs.Boxes.{ExactBox}
use Rattle.osm_model.specs.Elements.{Element, reference}
use Rattle.osm_model.specs.Tagged.{HasKeyOf}
use Rattle.osm_model.specs.declared.kind.Kind.{Kind}
use Rattle.osm_model.specs.declared.kind.Kind.TheVariants as kinds
use Rattle.osm_model.specs.declared.reference.Ref.{Ref}
use Rattle.tree_node.specs.Outcomes.{Outcome, ShelfUse}
use Rattle.osm_keys.specs.Publications.{Publication}
use Rattle.osm_keys.specs.Ranges.{IsKindOf}
use Rattle.osm_keys.proofs.shared.Members.{first_or_in_rest, here, none}
use Rattle.ql_syntax.specs.Filters.{Filter, HasKey, Ids, InSet, KeyIs, Within}
use Rattle.ql_syntax.specs.declared.pick.Pick.{Pick}
use Rattle.ql_syntax.specs.declared.pick.Pick.TheVariants as picks
use Rattle.ref_sets.proofs.shared.Adding.{adds_to_nothing}
use Rattle.ref_sets.specs.Adding.{Adds, From}
use Rattle.ref_sets.specs.Sets.{IsSetOf}
use Rattle.ref_sets.specs.NamedSets.{Env}
use Rattle.ql_meaning.specs.Values.{IsPicked, IsRefOf, IsSelected}
use Rattle.ql_eval.specs.Asks.{AskedByBase, kind_picked, kinds_of}
use Rattle.ql_eval.specs.internal.Boxes.{IsInBox}
use Rattle.ql_eval.specs.Faults.{cause_of_evaluation}
use Rattle.ql_eval.specs.Questions.{Answers, NeededBy, WithTag}
use Rattle.ql_eval.specs.declared.fault.EvalFault.{EvalFault}
use Rattle.ql_eval.specs.internal.Affording.{AreApart}
use Rattle.ql_eval.specs.internal.Candidates.{IsKeptOf, IsKindAsk, IsOfIds, IsOfThisKind, IsWith}
use Rattle.ql_eval.specs.internal.Entries.{IsThere}
use Rattle.ql_eval.specs.internal.Links.{AreThere, IsObjectAsk, IsThereAs}
use Rattle.ql_eval.proofs.EachLemmas.{needed_as}
use Rattle.ql_eval.proofs.EntryLemmas.{set_as}

-- how the base of a query statement is answered, with what is known then
abbrev pub FoundWell : Publication → Env → Pick → Option Filter → Type 0 → ShelfUse → Result (List Ref) EvalFault → Type 0
FoundWell p env pick base Known shelf result =
    Outcome cause_of_evaluation (λ refs. IsSetOf refs (IsRefOf p.objects (IsSelected p.objects env pick (option_to_list base))) × Known) (NeededBy p (AskedByBase p env (kind_picked pick) base)) shelf result

-- how a filter is answered that is the base, and how a scan is
abbrev pub KeptWell : Publication → Env → Option Kind → Filter → Type 0 → ShelfUse → Result (List Ref) EvalFault → Type 0
KeptWell p env kind filter Known shelf result =
    Outcome cause_of_evaluation (λ refs. IsSetOf refs (IsKeptOf p.objects env kind filter) × Known) (NeededBy p (AskedByBase p env kind (Some filter))) shelf result

abbrev pub KindsWell : Publication → List Kind → Type 0 → ShelfUse → Result (List Ref) EvalFault → Type 0
KindsWell p kinds Known shelf result =
    Outcome cause_of_evaluation (λ refs. IsSetOf refs (From kinds (IsOfThisKind p.objects)) × Known) (NeededBy p (From kinds IsKindAsk)) shelf result

pub kept_as : (p : Publication) (env : Env) (Known : Type 0) (shelf : ShelfUse) (result : Result (List Ref) EvalFault) {kind picked : Option Kind} {filter other : Filter} → kind ≡ picked → filter ≡ other
    → KeptWell p env kind other Known shelf result → KeptWell p env picked filter Known shelf result
kept_as p env Known shelf result {picked = picked} {other = other} same is so =
    subst (λ (f : Filter). KeptWell p env picked f Known shelf result) (sym is) (subst (λ (k : Option Kind). KeptWell p env k other Known shelf result) same so)

-- ---- kinds

pub picked_kind : (pick : Pick) (o : Element) → IsPicked pick o ↔ IsKindOf (kind_picked pick) (reference o)
picked_kind picks.Node o = ((λ is. is), (λ is. is))
picked_kind picks.Way o = ((λ is. is), (λ is. is))
picked_kind picks.Rel o = ((λ is. is), (λ is. is))
picked_kind picks.Nwr o = ((λ is. is), (λ is. is))

every_kind : (kind : Kind) → Contains (kinds.Node ∷ kinds.Way ∷ kinds.Rel ∷ []) kind
every_kind kinds.Node = (0, omega arith, refl)
every_kind kinds.Way = (1, omega arith, refl)
every_kind kinds.Rel = (2, omega arith, refl)

pub kinds_have : (kind : Option Kind) (r : Ref) → Contains (kinds_of kind) r.kind ↔ IsKindOf kind r
kinds_have None r = ((λ has. tt), (λ any. every_kind r.kind))
kinds_have (Some kind) r = (
  (λ has. elim (first_or_in_rest kind [] r.kind has) [ inl same ↦ sym same | inr more ↦ absurd (none r.kind more) ]),
  (λ same. subst (λ (k : Kind). Contains (kind ∷ []) k) (sym same) (here kind [])),
)

module _ (objects : List Element) (env : Env) (pick : Pick) where
  -- a scan
  pub kinds_selected : (r : Ref) → From (kinds_of (kind_picked pick)) (IsOfThisKind objects) r ↔ IsRefOf objects (IsSelected objects env pick []) r
  kinds_selected r = (
    (λ (kind, among, (o, there, named, of_kind)).
        let has : Contains (kinds_of (kind_picked pick)) (reference o).kind = subst (λ (k : Kind). Contains (kinds_of (kind_picked pick)) k) (sym of_kind) among in
        (o, there, named, ((picked_kind pick o).1 ((kinds_have (kind_picked pick) (reference o)).0 has), tt))),
    (λ (o, there, named, (picked, all)). ((reference o).kind, (kinds_have (kind_picked pick) (reference o)).1 ((picked_kind pick o).0 picked), (o, there, named, refl))),
  )

  pub all_selected : (refs : List Ref) → IsSetOf refs (From (kinds_of (kind_picked pick)) (IsOfThisKind objects)) → IsSetOf refs (IsRefOf objects (IsSelected objects env pick []))
  all_selected refs is = set_as refs (From (kinds_of (kind_picked pick)) (IsOfThisKind objects)) (IsRefOf objects (IsSelected objects env pick [])) kinds_selected is

  -- a tag
  pub tag_selected : (key value : List ℕ) (r : Ref) → IsRefOf objects (Answers (WithTag key value (kind_picked pick))) r ↔ IsRefOf objects (IsSelected objects env pick (KeyIs key value ∷ [])) r
  tag_selected key value r = (
    (λ (o, there, named, (of_kind, has)). (o, there, named, ((picked_kind pick o).1 of_kind, (has, tt)))),
    (λ (o, there, named, (picked, (has, all))). (o, there, named, ((picked_kind pick o).0 picked, has))),
  )

  -- a base
  pub one_selected : (filter : Filter) (refs : List Ref) → IsSetOf refs (IsKeptOf objects env (kind_picked pick) filter) → IsSetOf refs (IsRefOf objects (IsSelected objects env pick (filter ∷ [])))
  one_selected filter refs is = set_as refs (IsKeptOf objects env (kind_picked pick) filter) (IsRefOf objects (IsSelected objects env pick (filter ∷ [])))
      (λ r. (
        (λ (of_kind, (o, there, named, passes)). (o, there, named, ((picked_kind pick o).1 (subst (λ (s : Ref). IsKindOf (kind_picked pick) s) (sym named) of_kind), (passes, tt)))),
        (λ (o, there, named, (picked, (passes, all))). (subst (λ (s : Ref). IsKindOf (kind_picked pick) s) named ((picked_kind pick o).0 picked), (o, there, named, passes))),
      )) is

-- the kinds of a statement are apart
pub kinds_apart : (kind : Option Kind) → AreApart (kinds_of kind)
kinds_apart None = (
  (λ has. elim (first_or_in_rest kinds.Way (kinds.Rel ∷ []) kinds.Node has) [ inl same ↦ cc | inr later ↦ elim (first_or_in_rest kinds.Rel [] kinds.Node later) [ inl same ↦ cc | inr never ↦ none kinds.Node never ] ]),
  ((λ has. elim (first_or_in_rest kinds.Rel [] kinds.Way has) [ inl same ↦ cc | inr never ↦ none kinds.Way never ]), ((λ has. none kinds.Rel has), tt)),
)
kinds_apart (Some kind) = ((λ has. none kind has), tt)

-- ---- sorts of bases

module _ (objects : List Element) (env : Env) (kind : Option Kind) (refs : List Ref) where
  pub ids_kept : (ids : List ℤ) → IsSetOf refs (λ r. IsOfIds kind ids r × IsThere objects r) → IsSetOf refs (IsKeptOf objects env kind (Ids ids))
  ids_kept ids is = set_as refs (λ r. IsOfIds kind ids r × IsThere objects r) (IsKeptOf objects env kind (Ids ids))
      (λ r. (
        (λ ((of_kind, among), (o, there, named)). (of_kind, (o, there, named, subst (λ (s : Ref). Contains ids s.id) (sym named) among))),
        (λ (of_kind, (o, there, named, among)). ((of_kind, subst (λ (s : Ref). Contains ids s.id) named among), (o, there, named))),
      )) is

  pub set_kept : (name : List ℕ) → AreThere objects (env name) → IsSetOf refs (λ r. Contains (env name) r × IsKindOf kind r) → IsSetOf refs (IsKeptOf objects env kind (InSet name))
  set_kept name there_all is = set_as refs (λ r. Contains (env name) r × IsKindOf kind r) (IsKeptOf objects env kind (InSet name))
      (λ r. (
        (λ (in_set, of_kind). let (o, there, named) = there_all r in_set in (of_kind, (o, there, named, subst (λ (s : Ref). Contains (env name) s) (sym named) in_set))),
        (λ (of_kind, (o, there, named, in_set)). (subst (λ (s : Ref). Contains (env name) s) named in_set, of_kind)),
      )) is

  pub tag_kept : (key value : List ℕ) → IsSetOf refs (IsRefOf objects (Answers (WithTag key value kind))) → IsSetOf refs (IsKeptOf objects env kind (KeyIs key value))
  tag_kept key value is = set_as refs (IsRefOf objects (Answers (WithTag key value kind))) (IsKeptOf objects env kind (KeyIs key value))
      (λ r. (
        (λ (o, there, named, (of_kind, has)). (subst (λ (s : Ref). IsKindOf kind s) named of_kind, (o, there, named, has))),
        (λ (of_kind, (o, there, named, has)). (o, there, named, (subst (λ (s : Ref). IsKindOf kind s) (sym named) of_kind, has))),
      )) is

  pub key_kept : (key : List ℕ) → IsSetOf refs (λ r. IsRefOf objects (λ o. HasKeyOf o key) r × IsKindOf kind r) → IsSetOf refs (IsKeptOf objects env kind (HasKey key))
  key_kept key is = set_as refs (λ r. IsRefOf objects (λ o. HasKeyOf o key) r × IsKindOf kind r) (IsKeptOf objects env kind (HasKey key)) (λ r. ((λ (has, of_kind). (of_kind, has)), (λ (of_kind, has). (has, of_kind)))) is

  pub box_kept : (area : ExactBox) → IsSetOf refs (λ r. IsRefOf objects (IsInBox area) r × IsKindOf kind r) → IsSetOf refs (IsKeptOf objects env kind (Within area))
  box_kept area is = set_as refs (λ r. IsRefOf objects (IsInBox area) r × IsKindOf kind r) (IsKeptOf objects env kind (Within area)) (λ r. ((λ (has, of_kind). (of_kind, has)), (λ (of_kind, has). (has, of_kind)))) is

-- the objects of some kind among those that were found
pub found_picked : {Has : Ref → Type 0} {found names refs : List Ref} (kind : Option Kind) → names ≡ found → IsSetOf found Has → IsSetOf refs (λ r. Contains names r × IsKindOf kind r) → IsSetOf refs (λ r. Has r × IsKindOf kind r)
found_picked {Has = Has} {found = found} {names = names} {refs = refs} kind e has is = set_as refs (λ r. Contains names r × IsKindOf kind r) (λ r. Has r × IsKindOf kind r)
    (λ r. (
      (λ (among, of_kind). ((has.members r).0 (subst (λ (l : List Ref). Contains l r) e among), of_kind)),
      (λ (so, of_kind). (subst (λ (l : List Ref). Contains l r) (sym e) ((has.members r).1 so), of_kind)),
    )) is

-- ---- ids

pub with_kinds_and_ids : (kinds : List Kind) (ids : List ℤ) (names : List Ref) → Adds [] names (From kinds (λ (kind : Kind) (r : Ref). From ids (IsWith kind) r)) → (r : Ref) → Contains names r ↔ (Contains kinds r.kind × Contains ids r.id)
with_kinds_and_ids kinds ids names so r = (
  (λ has.
      let (kind, of_kind, (id, of_ids, is)) = (adds_to_nothing refl so r).0 has in
      (subst (λ (s : Ref). Contains kinds s.kind) is of_kind, subst (λ (s : Ref). Contains ids s.id) is of_ids)),
  (λ (of_kind, of_ids). (adds_to_nothing refl so r).1 (r.kind, of_kind, (r.id, of_ids, refl))),
)

pub named_ids : (kind : Option Kind) (ids : List ℤ) (names : List Ref) → ((r : Ref) → Contains names r ↔ (Contains (kinds_of kind) r.kind × Contains ids r.id)) → (r : Ref) → Contains names r ↔ IsOfIds kind ids r
named_ids kind ids names are r = ((λ has. let so = (are r).0 has in ((kinds_have kind r).0 so.0, so.1)), (λ is. (are r).1 ((kinds_have kind r).1 is.0, is.1)))

module _ (p : Publication) (kind : Option Kind) (ids : List ℤ) (names : List Ref) (are : (r : Ref) → Contains names r ↔ (Contains (kinds_of kind) r.kind × Contains ids r.id)) where
  pub ids_need : (x : List ℕ) → NeededBy p (From names IsObjectAsk) x → NeededBy p (AskedByBase p (λ name. []) kind (Some (Ids ids))) x
  ids_need = needed_as (λ ask (r, among, e). (r, (named_ids kind ids names are r).0 among, e))

  pub needs_ids : (x : List ℕ) → NeededBy p (AskedByBase p (λ name. []) kind (Some (Ids ids))) x → NeededBy p (From names IsObjectAsk) x
  needs_ids = needed_as (λ ask (r, is, e). (r, (named_ids kind ids names are r).1 is, e))

  pub ids_there : (refs : List Ref) → IsSetOf refs (From names (IsThereAs p.objects)) → IsSetOf refs (λ r. IsOfIds kind ids r × IsThere p.objects r)
  ids_there refs is = set_as refs (From names (IsThereAs p.objects)) (λ r. IsOfIds kind ids r × IsThere p.objects r)
      (λ r. (
        (λ (name, among, (same, there)). subst (λ (s : Ref). IsOfIds kind ids s × IsThere p.objects s) same ((named_ids kind ids names are name).0 among, there)),
        (λ (of_ids, there). (r, (named_ids kind ids names are r).1 of_ids, (refl, there))),
      )) is
