-- What a query asks the trees of a publication, statement by statement, and which nodes it needs.
-- Source: this project's evaluation, docs/FORMATS.md.
use Rattle.std.specs.Prelude.{◌≡◌, ◌≢◌, ◌⊎◌, ℕ, List, [], ◌∷◌, Option, Some, None}
use Rattle.std.specs.List.{Contains}
use Rattle.std.specs.Option.{option_to_list}
use Rattle.osm_model.specs.Boxes.{ExactBox}
use Rattle.osm_model.specs.Elements.{Element, reference}
use Rattle.osm_model.specs.Membership.{BodyLists}
use Rattle.osm_model.specs.declared.kind.Kind.{Kind}
use Rattle.osm_model.specs.declared.kind.Kind.TheVariants as kinds
use Rattle.osm_model.specs.declared.reference.Ref.{Ref}
use Rattle.osm_model.specs.declared.out_mode.OutMode.{OutMode}
use Rattle.osm_model.specs.declared.out_mode.OutMode.TheVariants as modes
use Rattle.tree_node.specs.declared.tree.Tree.TheVariants.{Cells}
use Rattle.tree_walk.specs.Ranges.{Range}
use Rattle.osm_keys.specs.BoxRanges.{AreBoxRanges}
use Rattle.osm_keys.specs.Grains.{grain_of}
use Rattle.osm_keys.specs.Publications.{Publication, manifest_of}
use Rattle.osm_keys.specs.Ranges.{IsKindOf}
use Rattle.ql_syntax.specs.Filters.{Filter, InSet, HasKey, KeyIs, LacksKey, KeyIsNot, Ids, Within, Via}
use Rattle.ql_syntax.specs.Statements.{Statement, Statements, Select, Recurse, Item, Union, Minus, Print, End, Then}
use Rattle.ql_syntax.specs.declared.path.Path.{Path}
use Rattle.ql_syntax.specs.declared.path.Path.TheVariants as paths
use Rattle.ql_syntax.specs.declared.pick.Pick.{Pick}
use Rattle.ql_syntax.specs.declared.pick.Pick.TheVariants as picks
use Rattle.ql_syntax.specs.declared.recursion.Recursion.{Recursion}
use Rattle.ql_syntax.specs.declared.recursion.Recursion.TheVariants as recursions
use Rattle.ql_meaning.specs.Meanings.{After, cut}
use Rattle.ref_sets.specs.NamedSets.{nothing_named, Env}
use Rattle.ql_meaning.specs.Values.{IsBelow, IsReached, IsRefOf, IsSelected, IsUp}
use Rattle.ql_plan.specs.Plans.{IsChosen, IsPlan, Planned, rest_of, rivals_of}
use Rattle.ql_eval.specs.Questions.{Ask, IsCountOf, Listed, NeededBy, OfKind, Question, ThatList, WithKey, WithTag, count_ask, line_ask, names_ask, object_ask}

-- ---- asks for each of several things

-- what is asked for one of the things of which this is so
abbrev pub AskedFor : {A : Type 0} → (A → Type 0) → (A → Ask) → Ask → Type 0
AskedFor {A} Has ask_for ask = (a : A) × Has a × (ask ≡ ask_for a)

-- what lists an object, of a kind or of all kinds
abbrev pub back_ask : Option Kind → Ref → Ask
back_ask kind r = names_ask (ThatList r kind)

-- all objects of a kind
abbrev pub kind_ask : Kind → Ask
kind_ask kind = names_ask (OfKind kind)

-- ---- references

-- in the set, and of this kind
abbrev pub IsOfKindIn : List Ref → Kind → Ref → Type 0
IsOfKindIn set kind r = Contains set r × (r.kind ≡ kind)

-- some object of the list, of whose reference this is so, lists it; it needn't be there itself
abbrev pub IsListedBy : List Element → (Ref → Type 0) → Ref → Type 0
IsListedBy objects Has r = (o : Element) × Contains objects o × Has (reference o) × BodyLists o.body r

-- the kind that a query statement is limited to, if it is
abbrev pub kind_picked : Pick → Option Kind
kind_picked picks.Node = Some kinds.Node
kind_picked picks.Way = Some kinds.Way
kind_picked picks.Rel = Some kinds.Rel
kind_picked picks.Nwr = None

-- all kinds, or the one
abbrev pub kinds_of : Option Kind → List Kind
kinds_of None = kinds.Node ∷ kinds.Way ∷ kinds.Rel ∷ []
kinds_of (Some kind) = kind ∷ []

-- ---- boxes

-- the cells that the box meets
abbrev pub IsAskedInBox : Publication → ExactBox → Ask → Type 0
IsAskedInBox p area ask = (ranges : List Range) × AreBoxRanges (grain_of p.edition) area ranges × AskedFor (Contains ranges) (λ range. Listed Cells range) ask

-- ---- the plan of a query statement

-- the question of a filter `[k=v]` or `[k]` in a statement of a kind, or of all kinds
abbrev pub IsQuestionOf : Option Kind → Filter → Question → Type 0
IsQuestionOf kind (KeyIs key value) question = question ≡ WithTag key value kind
IsQuestionOf kind (HasKey key) question = question ≡ WithKey key
IsQuestionOf kind (InSet name) question = ⊥
IsQuestionOf kind (LacksKey key) question = ⊥
IsQuestionOf kind (KeyIsNot key value) question = ⊥
IsQuestionOf kind (Ids ids) question = ⊥
IsQuestionOf kind (Within area) question = ⊥
IsQuestionOf kind (Via path name) question = ⊥

-- the counts of these filters, in their order
abbrev pub AreCounts : Publication → Option Kind → List Filter → List ℕ → Type 0
AreCounts p kind [] counts = counts ≡ []
AreCounts p kind (filter ∷ filters) counts =
    (question : Question) × (count : ℕ) × (more : List ℕ)
    × IsQuestionOf kind filter question × IsCountOf p question count × AreCounts p kind filters more × (counts ≡ count ∷ more)

-- how a query statement is answered: by its plan, or where there are rivals by the one that is chosen by their counts
pub record IsPlanned (p : Publication) (kind : Option Kind) (filters : List Filter) (chosen : Planned) : Type 0 where
  pub plan : Planned
  pub counts : List ℕ
  pub is_plan : IsPlan filters plan
  pub are_counts : AreCounts p kind (rivals_of plan) counts
  pub is_chosen : IsChosen plan counts chosen

-- ---- query statements

-- the number of entries of one of the rivals
abbrev pub AskedByRivals : Option Kind → List Filter → Ask → Type 0
AskedByRivals kind rivals ask = (rival : Filter) × (question : Question) × Contains rivals rival × IsQuestionOf kind rival question × (ask ≡ count_ask question)

-- what a path down asks: the lines of the ways or relations of the set, and whether what they list is there that is of the
-- kind
abbrev pub AskedBelow : Publication → List Ref → Kind → Option Kind → Ask → Type 0
AskedBelow p set from kind ask =
    AskedFor (IsOfKindIn set from) (line_ask (grain_of p.edition)) ask
    ⊎ AskedFor (λ r. IsKindOf kind r × IsListedBy p.objects (IsOfKindIn set from) r) object_ask ask

-- what a path asks from a set
abbrev pub AskedByPath : Publication → List Ref → Option Kind → Path → Ask → Type 0
AskedByPath p set kind paths.W ask = AskedBelow p set kinds.Way kind ask
AskedByPath p set kind paths.R ask = AskedBelow p set kinds.Rel kind ask
AskedByPath p set kind paths.Bn ask = AskedFor (IsOfKindIn set kinds.Node) (back_ask kind) ask
AskedByPath p set kind paths.Bw ask = AskedFor (IsOfKindIn set kinds.Way) (back_ask kind) ask
AskedByPath p set kind paths.Br ask = AskedFor (IsOfKindIn set kinds.Rel) (back_ask kind) ask

-- what the base of a plan asks; without a base, what a scan asks
abbrev pub AskedByBase : Publication → Env → Option Kind → Option Filter → Ask → Type 0
AskedByBase p env kind None ask = AskedFor (Contains (kinds_of kind)) kind_ask ask
AskedByBase p env kind (Some (Ids ids)) ask = AskedFor (λ r. IsKindOf kind r × Contains ids r.id) object_ask ask
AskedByBase p env kind (Some (InSet name)) ask = ⊥
AskedByBase p env kind (Some (Via path name)) ask = AskedByPath p (env name) kind path ask
AskedByBase p env kind (Some (KeyIs key value)) ask = ask ≡ names_ask (WithTag key value kind)
AskedByBase p env kind (Some (HasKey key)) ask = ask ≡ names_ask (WithKey key)
AskedByBase p env kind (Some (Within area)) ask = IsAskedInBox p area ask
AskedByBase p env kind (Some (LacksKey key)) ask = ⊥
AskedByBase p env kind (Some (KeyIsNot key value)) ask = ⊥

-- what a filter asks that is left over: a path down asks the lines of the ways or relations of its
-- set, whatever the candidates are
abbrev pub AskedByRest : Publication → Env → Filter → Ask → Type 0
AskedByRest p env (Via paths.W name) ask = AskedFor (IsOfKindIn (env name) kinds.Way) (line_ask (grain_of p.edition)) ask
AskedByRest p env (Via paths.R name) ask = AskedFor (IsOfKindIn (env name) kinds.Rel) (line_ask (grain_of p.edition)) ask
AskedByRest p env (Via paths.Bn name) ask = ⊥
AskedByRest p env (Via paths.Bw name) ask = ⊥
AskedByRest p env (Via paths.Br name) ask = ⊥
AskedByRest p env (InSet name) ask = ⊥
AskedByRest p env (HasKey key) ask = ⊥
AskedByRest p env (KeyIs key value) ask = ⊥
AskedByRest p env (LacksKey key) ask = ⊥
AskedByRest p env (KeyIsNot key value) ask = ⊥
AskedByRest p env (Ids ids) ask = ⊥
AskedByRest p env (Within area) ask = ⊥

-- what the base of a plan finds: what the statement would give without its other filters
abbrev pub IsCandidate : List Element → Env → Pick → Planned → Ref → Type 0
IsCandidate objects env pick plan = IsRefOf objects (IsSelected objects env pick (option_to_list plan.base))

-- what a plan asks: what its base asks, and where filters are left over, what these ask and the line of each candidate
abbrev pub AskedByPlan : Publication → Env → Pick → Planned → Ask → Type 0
AskedByPlan p env pick plan ask =
    AskedByBase p env (kind_picked pick) plan.base ask
    ⊎ (((filter : Filter) × Contains (rest_of plan) filter × AskedByRest p env filter ask)
    ⊎ ((rest_of plan ≢ []) × AskedFor (IsCandidate p.objects env pick plan) (line_ask (grain_of p.edition)) ask))

-- the counts by which the plan of a query statement is chosen
abbrev pub AskedByChoice : Option Kind → List Filter → Ask → Type 0
AskedByChoice kind filters ask = (plan : Planned) × IsPlan filters plan × AskedByRivals kind (rivals_of plan) ask

-- what a query statement asks: the counts of rivals, and what the plan asks that is chosen
abbrev pub AskedBySelect : Publication → Env → Pick → List Filter → Ask → Type 0
AskedBySelect p env pick filters ask =
    AskedByChoice (kind_picked pick) filters ask ⊎ ((plan : Planned) × IsPlanned p (kind_picked pick) filters plan × AskedByPlan p env pick plan ask)

-- ---- recursions

-- in the set, and no node, which lists nothing
abbrev pub IsParentIn : List Ref → Ref → Type 0
IsParentIn set r = Contains set r × (r.kind ≢ kinds.Node)

-- in the set, and no relation, which `<` doesn't go up from
abbrev pub IsChildIn : List Ref → Ref → Type 0
IsChildIn set r = Contains set r × (r.kind ≢ kinds.Rel)

-- a way that a relation of the set lists
abbrev pub IsWayBelow : List Element → List Ref → Ref → Type 0
IsWayBelow objects set r = (r.kind ≡ kinds.Way) × IsRefOf objects (IsBelow objects set kinds.Rel) r

-- in the set, or reached from it by `>>`
abbrev pub IsReachedDown : List Element → List Ref → Ref → Type 0
IsReachedDown objects set r = Contains set r ⊎ IsRefOf objects (IsReached objects recursions.DownAll set) r

-- and no node, which lists nothing
abbrev pub IsParentDown : List Element → List Ref → Ref → Type 0
IsParentDown objects set r = IsReachedDown objects set r × (r.kind ≢ kinds.Node)

abbrev pub AskedByRecursion : Publication → Recursion → List Ref → Ask → Type 0
-- the lines of the ways and relations of the set, and of the ways that its relations list; and whether each is there that
-- these ways list, or its relations, but for relations
AskedByRecursion p recursions.Down set ask =
    AskedFor (IsParentIn set) (line_ask (grain_of p.edition)) ask
    ⊎ (AskedFor (IsListedBy p.objects (IsOfKindIn set kinds.Way)) object_ask ask
    ⊎ (AskedFor (λ r. (r.kind ≢ kinds.Rel) × IsListedBy p.objects (IsOfKindIn set kinds.Rel) r) object_ask ask
    ⊎ (AskedFor (IsWayBelow p.objects set) (line_ask (grain_of p.edition)) ask
    ⊎ AskedFor (IsListedBy p.objects (IsWayBelow p.objects set)) object_ask ask)))
-- what lists a node or way of the set, and what lists a way of the result
AskedByRecursion p recursions.Up set ask =
    AskedFor (IsChildIn set) (back_ask None) ask
    ⊎ AskedFor (λ r. (r.kind ≡ kinds.Way) × IsRefOf p.objects (IsUp p.objects set) r) (back_ask None) ask
-- the lines of the ways and relations of the set and of the result, and whether each is there that these list
AskedByRecursion p recursions.DownAll set ask =
    AskedFor (IsParentDown p.objects set) (line_ask (grain_of p.edition)) ask
    ⊎ AskedFor (IsListedBy p.objects (IsReachedDown p.objects set)) object_ask ask
-- what lists objects of the set and of the result
AskedByRecursion p recursions.UpAll set ask =
    AskedFor (λ r. Contains set r ⊎ IsRefOf p.objects (IsReached p.objects recursions.UpAll set) r) (back_ask None) ask

-- ---- outs

-- an out by ids prints references, and another asks the line of each object
abbrev pub AskedByOut : Publication → List Ref → OutMode → Option ℕ → Ask → Type 0
AskedByOut p set modes.Ids limit ask = ⊥
AskedByOut p set modes.Skel limit ask = AskedFor (Contains (cut limit set)) (line_ask (grain_of p.edition)) ask
AskedByOut p set modes.Tags limit ask = AskedFor (Contains (cut limit set)) (line_ask (grain_of p.edition)) ask
AskedByOut p set modes.Body limit ask = AskedFor (Contains (cut limit set)) (line_ask (grain_of p.edition)) ask
AskedByOut p set modes.Meta limit ask = AskedFor (Contains (cut limit set)) (line_ask (grain_of p.edition)) ask

-- ---- statements

abbrev mutual
  -- what a statement asks that is run over these named sets
  pub AskedBy : Publication → Statement → Env → Ask → Type 0
  AskedBy p (Select pick filters into) env ask = AskedBySelect p env pick filters ask
  AskedBy p (Recurse start how into) env ask = AskedByRecursion p how (env start) ask
  AskedBy p (Item start into) env ask = ⊥
  AskedBy p (Union parts into) env ask = AskedByAll p parts env ask
  AskedBy p (Minus left right into) env ask = AskedBy p left env ask ⊎ ((mid : Env) × After p.objects left env mid × AskedBy p right mid ask)
  AskedBy p (Print start mode limit) env ask = AskedByOut p (env start) mode limit ask

  -- the same of several in a row
  pub AskedByAll : Publication → Statements → Env → Ask → Type 0
  AskedByAll p End env ask = ⊥
  AskedByAll p (Then statement statements) env ask =
      AskedBy p statement env ask ⊎ ((mid : Env) × After p.objects statement env mid × AskedByAll p statements mid ask)

-- a node that a query needs: the manifest, and what its statements ask
abbrev pub IsNeeded : Publication → Statements → List ℕ → Type 0
IsNeeded p statements bytes = (bytes ≡ manifest_of p) ⊎ NeededBy p (AskedByAll p statements nothing_named) bytes
