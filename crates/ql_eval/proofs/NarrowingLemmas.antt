-- What filters name by references alone, one more at a time.
use Rattle.std.proofs.Common.{◌≡◌, ◌≢◌, ℤ, ℕ, ◌+◌, ◌<◌, ◌≤◌, ◌⊎◌, ◌↔◌, List, [], ◌∷◌, ◌++◌, inl, inr, length, get_or, take, Result, Ok, Err, refl, sym, ap, subst, ◌∙◌}
use Rattle.std.proofs.lemmas.List.{take_all}
use Rattle.std.specs.List.{Contains}
use Rattle.std.specs.Prelude.{IfOk}
use Rattle.std.specs.declared.alloc.AllocError.{AllocError}
use Rattle.osm_model.specs.Elements.{Element, reference}
use Rattle.osm_model.specs.declared.kind.Kind.{Kind}
use Rattle.osm_model.specs.declared.kind.Kind.TheVariants as kinds
use Rattle.osm_model.specs.declared.reference.Ref.{Ref}
use Rattle.tree_node.specs.Outcomes.{Outcome, ShelfUse}
use Rattle.tree_node.proofs.shared.OutcomeLaws.{Nodes, outcome_starts, uses}
use Rattle.osm_keys.specs.Grains.{grain_of}
use Rattle.osm_keys.specs.Publications.{Publication}
use Rattle.osm_keys.proofs.shared.Members.{from_map, in_map}
use Rattle.ql_syntax.specs.Filters as tree
use Rattle.ql_syntax.specs.StatementViews.{filter_of, filters_of}
use Rattle.ql_syntax.specs.declared.filter.Filter.{Filter}
use Rattle.ql_syntax.specs.declared.filter.Filter.TheVariants as filters
use Rattle.ql_syntax.specs.declared.path.Path.{Path}
use Rattle.ql_syntax.specs.declared.path.Path.TheVariants as paths
use Rattle.ref_sets.proofs.shared.Adding.{adds_as, adds_one, adds_then}
use Rattle.ref_sets.specs.Adding.{Adds, From}
use Rattle.ref_sets.specs.Sets.{IsSetOf}
use Rattle.ref_sets.specs.NamedSets.{Env}
use Rattle.ql_eval.specs.Asks.{AskedByRest, AskedFor, IsListedBy, IsOfKindIn}
use Rattle.ql_eval.specs.Faults.{cause_of_evaluation}
use Rattle.ql_eval.specs.declared.fault.EvalFault.{EvalFault}
use Rattle.ql_eval.specs.Questions.{Ask, NeededBy, line_ask}
use Rattle.ref_sets.specs.Kinds.{IsBetween}
use Rattle.ql_eval.specs.internal.Links.{IsListedOf, IsParentAsk}
use Rattle.ql_eval.proofs.EachLemmas.{needed_as}
use Rattle.ql_eval.proofs.EntryLemmas.{set_as}
use Rattle.ref_sets.proofs.shared.Kinds.{is_one_kind}
use Rattle.ql_eval.specs.internal.Narrowing.{AskedByPathDown, HasId, IsNamedBy, IsNamedByAll, IsNamedOnPath}
use Rattle.ql_eval.proofs.AllLemmas.{all_both, all_split}
use Rattle.ql_eval.proofs.PassingLemmas.{filters_more}
use Rattle.ql_eval.proofs.TruthLemmas.{truly_same}

-- ---- ids

-- one reference of each kind
abbrev IsOf : ℤ → Kind → Ref → Type 0
IsOf id kind r = record { kind = kind; id = id } ≡ r

by_kind : (id : ℤ) (kind : Kind) (r : Ref) → IsOf id kind r → (IsOf id kinds.Node r ⊎ IsOf id kinds.Way r) ⊎ IsOf id kinds.Rel r
by_kind id kinds.Node r e = inl (inl e)
by_kind id kinds.Way r e = inl (inr e)
by_kind id kinds.Rel r e = inr e

alone : (id : ℤ) (kind : Kind) (xs ys : List Ref) → ys ≡ xs ++ record { kind = kind; id = id } ∷ [] → Adds xs ys (IsOf id kind)
alone id kind xs ys e = adds_one (record { kind = kind; id = id }) e refl (λ r is. is)

pub three_added : (id : ℤ) (a b c d : List Ref) → b ≡ a ++ record { kind = kinds.Node; id = id } ∷ [] → c ≡ b ++ record { kind = kinds.Way; id = id } ∷ [] → d ≡ c ++ record { kind = kinds.Rel; id = id } ∷ [] → Adds a d (HasId id)
three_added id a b c d node way relation =
    adds_as
    (λ r one. elim one [
      | inl other ↦ elim other [ inl is ↦ ap (λ (s : Ref). s.id) (sym is) | inr is ↦ ap (λ (s : Ref). s.id) (sym is) ]
      | inr is ↦ ap (λ (s : Ref). s.id) (sym is)
    ])
    (λ r is. by_kind id r.kind r (let of : ℤ → Ref = λ i. record { kind = r.kind; id = i } in ap of (sym is)))
    (adds_then (adds_then (alone id kinds.Node a b node) (alone id kinds.Way b c way)) (alone id kinds.Rel c d relation))

pub with_ids_is : (refs : List Ref) (ids : List ℤ) (those left : List Ref) → IsSetOf those (From ids HasId) → IsSetOf left (λ r. Contains refs r × Contains those r) → IsSetOf left (λ r. Contains refs r × Contains ids r.id)
with_ids_is refs ids those left set kept =
    set_as left (λ r. Contains refs r × Contains those r) (λ r. Contains refs r × Contains ids r.id)
    (λ r. (
      (λ (has, among). let (id, listed, is) = (set.members r).0 among in (has, subst (λ (i : ℤ). Contains ids i) (sym is) listed)),
      (λ (has, listed). (has, (set.members r).1 (r.id, listed, refl))),
    )) kept

pub with_ids_ok : (refs : List Ref) (ids : List ℤ) (those names : List Ref) (result : Result (List Ref) AllocError) → IsSetOf those (From ids HasId) → names ≡ those
    → IfOk result (λ left. IsSetOf left (λ r. Contains refs r × Contains names r)) → IfOk result (λ left. IsSetOf left (λ r. Contains refs r × Contains ids r.id))
with_ids_ok refs ids those names (Ok left) set same kept = with_ids_is refs ids those left set (subst (λ (l : List Ref). IsSetOf left (λ r. Contains refs r × Contains l r)) same kept)
with_ids_ok refs ids those names (Err fault) set same kept = kept

-- ---- paths down

module _ (from some : List Ref) (kind : Kind) (are : (r : Ref) → Contains some r ↔ (Contains from r × IsBetween kind kind r)) where
  pub some_are : (r : Ref) → Contains some r ↔ IsOfKindIn from kind r
  some_are r = (
    (λ has. let (among, is) = (are r).0 has in (among, (is_one_kind kind r).0 is)),
    (λ (among, e). (are r).1 (among, (is_one_kind kind r).1 e)),
  )

  pub needs_path : {p : Publication} (x : List ℕ) → NeededBy p (From some (IsParentAsk p)) x → NeededBy p (AskedFor (IsOfKindIn from kind) (line_ask (grain_of p.edition))) x
  needs_path = needed_as (λ ask (r, has, (other, e)). (r, (some_are r).0 has, e))

  pub path_needs : {p : Publication} → kind ≢ kinds.Node → (x : List ℕ) → NeededBy p (AskedFor (IsOfKindIn from kind) (line_ask (grain_of p.edition))) x → NeededBy p (From some (IsParentAsk p)) x
  path_needs parent = needed_as (λ ask (r, is, e). (r, (some_are r).1 is, ((λ node. parent (sym is.1 ∙ node)), e)))

  pub path_is : (objects : List Element) (refs listed left : List Ref) → IsSetOf listed (From some (IsListedOf objects)) → IsSetOf left (λ r. Contains refs r × Contains listed r) → IsSetOf left (λ r. Contains refs r × IsListedBy objects (IsOfKindIn from kind) r)
  path_is objects refs listed left set kept =
      set_as left (λ r. Contains refs r × Contains listed r) (λ r. Contains refs r × IsListedBy objects (IsOfKindIn from kind) r)
      (λ r. (
        (λ (has, among).
            let (name, in_some, (o, there, named, lists)) = (set.members r).0 among in
            (has, (o, there, subst (λ (s : Ref). IsOfKindIn from kind s) (sym named) ((some_are name).0 in_some), lists))),
        (λ (has, (o, there, of, lists)). (has, (set.members r).1 (reference o, (some_are (reference o)).1 of, (o, there, refl, lists)))),
      )) kept

-- what is left after a path, with what is known then, and what it asks
abbrev pub IsLeftOf : List Ref → (Ref → Type 0) → List Ref → Type 0
IsLeftOf refs Is left = IsSetOf left (λ r. Contains refs r × Is r)

abbrev pub LeavesOnPath : Publication → List Ref → List Ref → Type 0 → ShelfUse → Result (List Ref) EvalFault → Path → Type 0
LeavesOnPath p from refs Known shelf result path = Outcome cause_of_evaluation (λ left. IsLeftOf refs (IsNamedOnPath p.objects from path) left × Known) (NeededBy p (AskedByPathDown p from path)) shelf result

abbrev pub LeavesListed : Publication → List Ref → List Ref → Type 0 → ShelfUse → Result (List Ref) EvalFault → Kind → Type 0
LeavesListed p from refs Known shelf result kind = Outcome cause_of_evaluation (λ left. IsLeftOf refs (IsListedBy p.objects (IsOfKindIn from kind)) left × Known) (NeededBy p (AskedFor (IsOfKindIn from kind) (line_ask (grain_of p.edition)))) shelf result

module _ (p : Publication) (from refs names : List Ref) (same : names ≡ refs) (Known : Type 0) (shelf : ShelfUse) (result : Result (List Ref) EvalFault) (path : Path) where
  pub on_ways : path ≡ paths.W → LeavesListed p from names Known shelf result kinds.Way → LeavesOnPath p from refs Known shelf result path
  on_ways is so = subst (λ (q : Path). LeavesOnPath p from refs Known shelf result q) (sym is) (subst (λ (l : List Ref). LeavesListed p from l Known shelf result kinds.Way) same so)

  pub on_relations : path ≡ paths.R → LeavesListed p from names Known shelf result kinds.Rel → LeavesOnPath p from refs Known shelf result path
  on_relations is so = subst (λ (q : Path). LeavesOnPath p from refs Known shelf result q) (sym is) (subst (λ (l : List Ref). LeavesListed p from l Known shelf result kinds.Rel) same so)

-- a path asks what its filter does
rest_asked : (p : Publication) (env : Env) (path : Path) (name : List ℕ) (ask : Ask) → AskedByPathDown p (env name) path ask → AskedByRest p env (tree.Via path name) ask
rest_asked p env paths.W name ask asked = asked
rest_asked p env paths.R name ask asked = asked
rest_asked p env paths.Bn name ask asked = asked
rest_asked p env paths.Bw name ask asked = asked
rest_asked p env paths.Br name ask asked = asked

path_asked : (p : Publication) (env : Env) (path : Path) (name : List ℕ) (ask : Ask) → AskedByRest p env (tree.Via path name) ask → AskedByPathDown p (env name) path ask
path_asked p env paths.W name ask asked = asked
path_asked p env paths.R name ask asked = asked
path_asked p env paths.Bn name ask asked = asked
path_asked p env paths.Bw name ask asked = asked
path_asked p env paths.Br name ask asked = asked

-- ---- one filter

abbrev pub LeavesNamed : Publication → Env → List Ref → Type 0 → ShelfUse → Result (List Ref) EvalFault → tree.Filter → Type 0
LeavesNamed p env refs Known shelf result one = Outcome cause_of_evaluation (λ left. IsLeftOf refs (λ r. IsNamedBy p.objects env r one) left × Known) (NeededBy p (AskedByRest p env one)) shelf result

pub named_via : (p : Publication) (env : Env) (refs : List Ref) (Known : Type 0) (held old new : Nodes) (result : Result (List Ref) EvalFault) (one : Filter) (path : Path) (name : List ℕ) (from : List Ref) → one ≡ filters.Via path name → from ≡ env name
    → LeavesOnPath p from refs Known (uses held old new) result path → LeavesNamed p env refs Known (uses held old new) result (filter_of one)
named_via p env refs Known held old new result one path name from is same so =
    subst (λ (f : Filter). LeavesNamed p env refs Known (uses held old new) result (filter_of f)) (sym is)
    (truly_same (needed_as (rest_asked p env path name)) (λ value left. needed_as (path_asked p env path name)) (λ value left. left)
    (subst (λ (l : List Ref). LeavesOnPath p l refs Known (uses held old new) result path) same so))

-- nothing is asked
pub nothing_asked : {A : Type 0} {Is : A → Type 0} {p : Publication} {Asks : Ask → Type 0} {held old : Nodes} {value : A} → ((ask : Ask) → Asks ask → ⊥) → Is value → Outcome cause_of_evaluation Is (NeededBy p Asks) (uses held old old) (Ok value)
nothing_asked never is = outcome_starts is (λ x needs. never needs.ask needs.asked)

module _ (p : Publication) (env : Env) (refs names : List Ref) (same : names ≡ refs) {Known : Type 0} (known : Known) (held old : Nodes) (left : List Ref) (one : Filter) where
  pub named_in_set : (name : List ℕ) (set : List Ref) → one ≡ filters.InSet name → set ≡ env name → IsSetOf left (λ r. Contains names r × Contains set r) → LeavesNamed p env refs Known (uses held old old) (Ok left) (filter_of one)
  named_in_set name set is set_is so =
      subst (λ (f : Filter). LeavesNamed p env refs Known (uses held old old) (Ok left) (filter_of f)) (sym is)
      (nothing_asked (λ ask asked. asked) (subst (λ (l : List Ref). IsSetOf left (λ r. Contains l r × Contains (env name) r)) same (subst (λ (s : List Ref). IsSetOf left (λ r. Contains names r × Contains s r)) set_is so), known))

  pub named_by_ids : (ids : _) (listed : List ℤ) → one ≡ filters.Ids ids → listed ≡ ids.items → IsSetOf left (λ r. Contains names r × Contains listed r.id) → LeavesNamed p env refs Known (uses held old old) (Ok left) (filter_of one)
  named_by_ids ids listed is ids_are so =
      subst (λ (f : Filter). LeavesNamed p env refs Known (uses held old old) (Ok left) (filter_of f)) (sym is)
      (nothing_asked (λ ask asked. asked) (subst (λ (l : List Ref). IsSetOf left (λ r. Contains l r × Contains ids.items r.id)) same (subst (λ (is : List ℤ). IsSetOf left (λ r. Contains names r × Contains is r.id)) ids_are so), known))

-- ---- filters, one after the other

module _ (objects : List Element) (env : Env) (refs : List Ref) where
  pub none_narrows : IsSetOf refs (λ r. Contains refs r) → IsSetOf refs (λ r. Contains refs r × IsNamedByAll objects env [] r)
  none_narrows = set_as refs (λ r. Contains refs r) (λ r. Contains refs r × IsNamedByAll objects env [] r) (λ r. ((λ has. (has, tt)), (λ both. both.0)))

  -- some filters, and then others
  pub narrowed_both : (first second : List tree.Filter) (mid left : List Ref) → IsSetOf mid (λ r. Contains refs r × IsNamedByAll objects env first r) → IsSetOf left (λ r. Contains mid r × IsNamedByAll objects env second r)
      → IsSetOf left (λ r. Contains refs r × IsNamedByAll objects env (first ++ second) r)
  narrowed_both first second mid left before after =
      set_as left (λ r. Contains mid r × IsNamedByAll objects env second r) (λ r. Contains refs r × IsNamedByAll objects env (first ++ second) r)
      (λ r. (
        (λ (has, named). let (among, named_before) = (before.members r).0 has in (among, all_both (λ filter. IsNamedBy objects env r filter) first second named_before named)),
        (λ (has, named). let (these, those) = all_split (λ filter. IsNamedBy objects env r filter) first second named in ((before.members r).1 (has, these), those)),
      )) after

  module _ (filters : List Filter) (k : ℕ) where
    pub narrowed_more : (f : Filter) → k < length filters → f ≡ get_or filters k f → (mid left : List Ref) → IsSetOf mid (λ r. Contains refs r × IsNamedByAll objects env (filters_of (take k filters)) r)
        → IsSetOf left (λ r. Contains mid r × IsNamedBy objects env r (filter_of f)) → IsSetOf left (λ r. Contains refs r × IsNamedByAll objects env (filters_of (take (k + 1) filters)) r)
    narrowed_more f lt is mid left before one =
        subst (λ (fs : List tree.Filter). IsSetOf left (λ r. Contains refs r × IsNamedByAll objects env fs r)) (sym (filters_more filters k f lt is))
        (narrowed_both (filters_of (take k filters)) (filter_of f ∷ []) mid left before
        (set_as left (λ r. Contains mid r × IsNamedBy objects env r (filter_of f)) (λ r. Contains mid r × IsNamedByAll objects env (filter_of f ∷ []) r)
        (λ r. ((λ (has, named). (has, (named, tt))), (λ (has, named). (has, named.0)))) one))

    pub narrowed_all : length filters ≤ k → (left : List Ref) → IsSetOf left (λ r. Contains refs r × IsNamedByAll objects env (filters_of (take k filters)) r) → IsSetOf left (λ r. Contains refs r × IsNamedByAll objects env (filters_of filters) r)
    narrowed_all past left so = subst (λ (fs : List Filter). IsSetOf left (λ r. Contains refs r × IsNamedByAll objects env (filters_of fs) r)) (take_all k filters past) so

-- what filters ask, as the code has them
module _ (Asks : tree.Filter → Ask → Type 0) (p : Publication) (filters : List Filter) where
  pub code_asks : (x : List ℕ) → NeededBy p (From (filters_of filters) Asks) x → NeededBy p (From filters (λ f. Asks (filter_of f))) x
  code_asks = needed_as (λ ask (one, has, asks). let (f, among, e) = from_map filter_of filters one has in (f, among, subst (λ (g : tree.Filter). Asks g ask) e asks))

  pub asks_code : (x : List ℕ) → NeededBy p (From filters (λ f. Asks (filter_of f))) x → NeededBy p (From (filters_of filters) Asks) x
  asks_code = needed_as (λ ask (f, has, asks). (filter_of f, in_map filter_of filters f has, asks))
