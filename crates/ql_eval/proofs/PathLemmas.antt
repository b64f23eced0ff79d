-- Where paths lead, in terms of what single references list and are listed by.
use Rattle.std.proofs.Common.{◌≡◌, ◌≢◌, ◌↔◌, inl, inr, ℕ, List, Option, Some, None, Result, refl, sym, ap, subst, ◌∙◌}
use Rattle.std.specs.List.{Contains}
use Rattle.osm_model.specs.Elements.{reference}
use Rattle.osm_model.specs.Membership.{BodyLists}
use Rattle.osm_model.specs.declared.kind.Kind.{Kind}
use Rattle.osm_model.specs.declared.kind.Kind.TheVariants as kinds
use Rattle.osm_model.specs.declared.reference.Ref.{Ref}
use Rattle.tree_node.specs.Outcomes.{Outcome, ShelfUse}
use Rattle.osm_keys.specs.Publications.{Publication}
use Rattle.osm_keys.specs.Ranges.{IsKindOf}
use Rattle.ql_syntax.specs.declared.path.Path.{Path}
use Rattle.ref_sets.specs.Adding.{From}
use Rattle.ref_sets.specs.Sets.{IsSetOf}
use Rattle.ql_meaning.specs.Values.{IsAbove, IsRefOf}
use Rattle.ql_eval.specs.Asks.{AskedBelow, AskedByPath, AskedFor, IsOfKindIn, back_ask}
use Rattle.ql_eval.specs.Faults.{cause_of_evaluation}
use Rattle.ql_eval.specs.Questions.{Ask, NeededBy}
use Rattle.ql_eval.specs.declared.fault.EvalFault.{EvalFault}
use Rattle.ref_sets.specs.Kinds.{IsBetween}
use Rattle.ql_eval.specs.internal.Kinds.{first_of, last_of}
use Rattle.ql_eval.specs.internal.Links.{AreThere, IsBackAsk, IsBelowAsk, IsBelowThere, ListsIt}
use Rattle.ql_eval.specs.internal.Paths.{IsAt, IsBelowOf}
use Rattle.ql_eval.proofs.EachLemmas.{needed_as}
use Rattle.ql_eval.proofs.EntryLemmas.{set_as}
use Rattle.ref_sets.proofs.shared.Kinds.{is_one_kind}
use Rattle.ql_eval.proofs.RecursionLemmas.{all_kinds, below_of, of_below, one_of_set}

-- how what is below some references is found, and how a path is gone along, with what is known then
abbrev pub BelowWell : Publication → List Ref → Kind → Kind → Type 0 → ShelfUse → Result (List Ref) EvalFault → Type 0
BelowWell p names first last Known shelf result =
    Outcome cause_of_evaluation (λ refs. IsSetOf refs (IsBelowThere p.objects names first last) × Known) (NeededBy p (IsBelowAsk p names first last)) shelf result

abbrev pub PathWell : Publication → Path → List Ref → Option Kind → Type 0 → ShelfUse → Result (List Ref) EvalFault → Type 0
PathWell p path set kind Known shelf result =
    Outcome cause_of_evaluation (λ refs. IsSetOf refs (IsAt p.objects set kind path) × Known) (NeededBy p (AskedByPath p set kind path)) shelf result

-- the kinds from the first to the last are the one, or all
pub kind_between : (kind : Option Kind) (r : Ref) → IsBetween (first_of kind) (last_of kind) r ↔ IsKindOf kind r
kind_between None r = ((λ is. tt), (λ any. all_kinds r))
kind_between (Some kind) r = is_one_kind kind r

-- those of the kind, or all
pub picked_set : (kind : Option Kind) (names refs : List Ref) → IsSetOf refs (λ r. Contains names r × IsBetween (first_of kind) (last_of kind) r) → IsSetOf refs (λ r. Contains names r × IsKindOf kind r)
picked_set kind names refs is = set_as refs (λ r. Contains names r × IsBetween (first_of kind) (last_of kind) r) (λ r. Contains names r × IsKindOf kind r)
    (λ r. ((λ (among, between). (among, (kind_between kind r).0 between)), (λ (among, of_kind). (among, (kind_between kind r).1 of_kind)))) is

-- ---- down

module _ (p : Publication) (set names : List Ref) (from : Kind) (kind : Option Kind) (are : (r : Ref) → Contains names r ↔ (Contains set r × (r.kind ≡ from))) where
  below_asks : (ask : Ask) → IsBelowAsk p names (first_of kind) (last_of kind) ask → AskedBelow p set from kind ask
  below_asks ask (inl (r, among, (other, e))) = inl (r, (are r).0 among, e)
  below_asks ask (inr (r, ((name, among, (o, there, named, lists)), between), e)) =
      inr (r, ((kind_between kind r).0 between, (o, there, one_of_set p.objects set from names are o name named among, lists)), e)

  asks_below : from ≢ kinds.Node → (ask : Ask) → AskedBelow p set from kind ask → IsBelowAsk p names (first_of kind) (last_of kind) ask
  asks_below other ask (inl (r, has, e)) = inl (r, (are r).1 has, ((λ node. other (sym has.1 ∙ node)), e))
  asks_below other ask (inr (r, (of_kind, (o, there, has, lists)), e)) = inr (r, ((reference o, (are (reference o)).1 has, (o, there, refl, lists)), (kind_between kind r).1 of_kind), e)

  pub below_of_needs : (x : List ℕ) → NeededBy p (IsBelowAsk p names (first_of kind) (last_of kind)) x → NeededBy p (AskedBelow p set from kind) x
  below_of_needs = needed_as below_asks

  pub needs_below_of : from ≢ kinds.Node → (x : List ℕ) → NeededBy p (AskedBelow p set from kind) x → NeededBy p (IsBelowAsk p names (first_of kind) (last_of kind)) x
  needs_below_of other = needed_as (asks_below other)

  pub below_of_set : (refs : List Ref) → IsSetOf refs (IsBelowThere p.objects names (first_of kind) (last_of kind)) → IsSetOf refs (IsBelowOf p.objects set from kind)
  below_of_set refs is = set_as refs (IsBelowThere p.objects names (first_of kind) (last_of kind)) (IsBelowOf p.objects set from kind)
      (λ r. (
        (λ ((listed, between), there). ((kind_between kind r).0 between, below_of p.objects set from names are r listed there)),
        (λ (of_kind, below). let so = of_below p.objects set from names are r below in ((so.0, (kind_between kind r).1 of_kind), so.1)),
      )) is

-- ---- up

module _ (p : Publication) (set names : List Ref) (from : Kind) (kind : Option Kind) (are : (r : Ref) → Contains names r ↔ (Contains set r × (r.kind ≡ from))) where
  pub above_needs : (x : List ℕ) → NeededBy p (From names (IsBackAsk kind)) x → NeededBy p (AskedFor (IsOfKindIn set from) (back_ask kind)) x
  above_needs = needed_as (λ ask (r, among, e). (r, (are r).0 among, e))

  pub needs_above : (x : List ℕ) → NeededBy p (AskedFor (IsOfKindIn set from) (back_ask kind)) x → NeededBy p (From names (IsBackAsk kind)) x
  needs_above = needed_as (λ ask (r, has, e). (r, (are r).1 has, e))

  pub above_set : AreThere p.objects set → (refs : List Ref) → IsSetOf refs (From names (ListsIt p.objects kind)) → IsSetOf refs (λ r. IsKindOf kind r × IsRefOf p.objects (IsAbove p.objects set from) r)
  above_set there_all refs is = set_as refs (From names (ListsIt p.objects kind)) (λ r. IsKindOf kind r × IsRefOf p.objects (IsAbove p.objects set from) r)
      (λ r. (
        (λ (name, among, (o, there, named, (of_kind, lists))).
            let so = (are name).0 among in
            let (child, child_there, same) = there_all name so.0 in
            let lists_it : BodyLists o.body (reference child) = subst (λ (s : Ref). BodyLists o.body s) (sym same) lists in (
              subst (λ (s : Ref). IsKindOf kind s) named of_kind,
              (
                o,
                there,
                named,
                (
                  child,
                  record { there = there; child_there = child_there; lists = lists_it },
                  ap (λ (s : Ref). s.kind) same ∙ so.1,
                  subst (λ (s : Ref). Contains set s) (sym same) so.0,
                ),
              ),
            )),
        (λ (of_kind, (o, there, named, (child, parent, child_kind, in_set))).
            (reference child, (are (reference child)).1 (in_set, child_kind), (o, there, named, (subst (λ (s : Ref). IsKindOf kind s) (sym named) of_kind, parent.lists)))),
      )) is
