-- Candidates whose objects the filters keep.
use Rattle.std.proofs.Common.{◌≡◌, ℕ, ◌+◌, ◌<◌, List, [], ◌∷◌, ◌++◌, Some, Result, length, get_or, take, refl, sym, ap, subst, ◌∙◌}
use Rattle.std.proofs.lemmas.List.{map-append}
use Rattle.std.specs.List.{AllByRecursion}
use Rattle.osm_model.specs.Elements.{Element}
use Rattle.osm_model.specs.Sets.{IsObjectSet, object_at}
use Rattle.osm_model.specs.declared.reference.Ref.{Ref}
use Rattle.tree_node.specs.Outcomes.{Outcome, ShelfUse}
use Rattle.osm_keys.specs.Publications.{Publication}
use Rattle.osm_keys.proofs.shared.OneObject.{object_found, one_object}
use Rattle.ql_syntax.specs.Filters as tree
use Rattle.ql_syntax.specs.StatementViews.{filter_of, filters_of}
use Rattle.ql_syntax.specs.declared.filter.Filter.{Filter}
use Rattle.ref_sets.proofs.shared.Adding.{adds_nothing, adds_one, one_more}
use Rattle.ref_sets.specs.Adding.{Adds, From}
use Rattle.ref_sets.specs.Sets.{IsSetOf}
use Rattle.ref_sets.specs.NamedSets.{Env}
use Rattle.ql_eval.specs.Faults.{cause_of_evaluation}
use Rattle.ql_eval.specs.Questions.{NeededBy}
use Rattle.ql_eval.specs.declared.fault.EvalFault.{EvalFault}
use Rattle.ql_eval.specs.internal.Links.{IsLineAsk}
use Rattle.ql_eval.specs.internal.Narrowing.{IsPassingAs, PassesAll}
use Rattle.ql_eval.proofs.AllLemmas.{all_push}

module _ (objects : List Element) (env : Env) (filters : List tree.Filter) (name : Ref) (o : Element) (set : IsObjectSet objects) (found : Some o ≡ object_at objects name) where
  pub passed_added : (list more : List Ref) → PassesAll env filters o → more ≡ list ++ name ∷ [] → Adds list more (IsPassingAs objects env filters name)
  passed_added list more passes e = let (there, named) = object_found objects name o (sym found) in adds_one name e (refl, (o, there, named, passes)) (λ r has. has.0)

  pub failed_added : (list : List Ref) → (PassesAll env filters o → ⊥) → Adds list list (IsPassingAs objects env filters name)
  failed_added list never =
      let (there, named) = object_found objects name o (sym found) in
      adds_nothing (λ r (same, (other, there_too, named_too, passes)).
      never (subst (λ (e : Element). PassesAll env filters e) (one_object objects other o set there_too there (named_too ∙ sym named)) passes))

-- how candidates are filtered whose objects are looked at, with what is known then
abbrev pub PassedWell : Publication → Env → List tree.Filter → List Ref → Type 0 → ShelfUse → Result (List Ref) EvalFault → Type 0
PassedWell p env rest candidates Known shelf result =
    Outcome cause_of_evaluation (λ refs. IsSetOf refs (From candidates (IsPassingAs p.objects env rest)) × Known) (NeededBy p (From candidates (IsLineAsk p))) shelf result

-- filters of a list, one more
pub filters_more : (filters : List Filter) (k : ℕ) (f : Filter) → k < length filters → f ≡ get_or filters k f → filters_of (take (k + 1) filters) ≡ filters_of (take k filters) ++ filter_of f ∷ []
filters_more filters k f lt is = ap filters_of (one_more filters k f lt is) ∙ map-append filter_of (take k filters) (f ∷ [])

pub all_more : (P : tree.Filter → Type 0) (filters : List Filter) (k : ℕ) (f : Filter) → k < length filters → f ≡ get_or filters k f → AllByRecursion P (filters_of (take k filters)) → P (filter_of f)
    → AllByRecursion P (filters_of (take (k + 1) filters))
all_more P filters k f lt is before one = subst (λ (fs : List tree.Filter). AllByRecursion P fs) (sym (filters_more filters k f lt is)) (all_push P (filters_of (take k filters)) (filter_of f) before one)
