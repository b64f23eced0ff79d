-- How much an evaluation does for a query over a publication, in bytes that are written and in steps. It is defined from
-- what statements mean, and not from what the code does.
-- Source: this project.
use Rattle.std.specs.List.{Contains}
use Rattle.std.specs.Prelude.{◌≡◌, ◌⊎◌, ◌+◌, ◌*◌, ◌-◌, ◌^◌, ◌<◌, ℕ, min, List, [], ◌∷◌, length, Option, Some, None, Result, Ok, Err, ⊤}
use Rattle.osm_model.specs.Boxes.{ExactBox}
use Rattle.osm_model.specs.Elements.{Element}
use Rattle.osm_model.specs.Places.{Place}
use Rattle.osm_model.specs.Tagged.{HasKeyOf}
use Rattle.osm_model.specs.declared.body.Body.TheVariants as bodies
use Rattle.osm_model.specs.declared.kind.Kind.{Kind}
use Rattle.osm_model.specs.declared.out_mode.OutMode.{OutMode}
use Rattle.osm_model.specs.declared.reference.Ref.{Ref}
use Rattle.tree_node.specs.Outcomes.{Clash}
use Rattle.tree_walk.specs.Ranges.{IsIn, Range}
use Rattle.osm_keys.specs.BoxRanges.{AreBoxRanges}
use Rattle.osm_keys.specs.Entries.{placed_key}
use Rattle.osm_keys.specs.Grains.{Grain, grain_of}
use Rattle.osm_keys.specs.Publications.{Publication, manifest_of}
use Rattle.ql_syntax.specs.Filters.{Filter, InSet, HasKey, KeyIs, LacksKey, KeyIsNot, Ids, Within, Via}
use Rattle.ql_syntax.specs.Statements.{Statement, Statements, Select, Recurse, Item, Union, Minus, Print, End, Then}
use Rattle.ql_syntax.specs.declared.pick.Pick.{Pick}
use Rattle.ql_meaning.specs.Meanings.{After, Telling, cut, given_by, printed_of_by}
use Rattle.ql_meaning.specs.Values.{IsRefOf}
use Rattle.ql_plan.specs.Plans.{Planned, rest_of}
use Rattle.ref_sets.specs.NamedSets.{Env, nothing_named}
use Rattle.ref_sets.specs.Sets.{IsSetOf}
use Rattle.ql_eval.specs.Asks.{IsCandidate, IsPlanned, kind_picked}
use Rattle.ql_eval.specs.Questions.{NeededBy}
use Rattle.ql_eval.specs.declared.evaluation.Report.{Report}
use Rattle.ql_eval.specs.declared.fault.EvalFault.{EvalFault}
use Rattle.ql_eval.specs.declared.fault.EvalFault.TheVariants as faults

-- ---- how works are put together

-- what a step costs, where a byte that is written costs 1
abbrev pub step_cost : ℕ
step_cost = 100

-- so many steps
pub record Steps (count n : ℕ) : Type 0 where
  pub is : n ≡ step_cost * count

-- so many bytes
pub record Bytes (count n : ℕ) : Type 0 where
  pub is : n ≡ count

-- two works, one after the other
pub record Both (First Second : ℕ → Type 0) (n : ℕ) : Type 0 where
  pub first : ℕ
  pub second : ℕ
  pub is_first : First first
  pub is_second : Second second
  pub is : n ≡ first + second

-- a work on the set of the references of which this is so
pub record OfSet (P : Ref → Type 0) (Work : List Ref → ℕ → Type 0) (n : ℕ) : Type 0 where
  pub set : List Ref
  pub is_set : IsSetOf set P
  pub work : Work set n

-- a work by the plan that is chosen for a query statement
pub record OfPlan (p : Publication) (kind : Option Kind) (filters : List Filter) (Work : Planned → ℕ → Type 0) (n : ℕ) : Type 0 where
  pub plan : Planned
  pub is_planned : IsPlanned p kind filters plan
  pub work : Work plan n

-- a work over the named sets that a statement left
pub record Later (objects : List Element) (statement : Statement) (env : Env) (Work : Env → ℕ → Type 0) (n : ℕ) : Type 0 where
  pub later : Env
  pub after : After objects statement env later
  pub work : Work later n

-- ---- statements

-- what a filter reads before anything is found: the ids that are written in it, or a named set
abbrev pub read_by : Env → Filter → ℕ
read_by env (InSet name) = length (env name)
read_by env (HasKey key) = 0
read_by env (KeyIs key value) = 0
read_by env (LacksKey key) = 0
read_by env (KeyIsNot key value) = 0
read_by env (Ids ids) = length ids
read_by env (Within area) = 0
read_by env (Via path name) = length (env name)

-- the same of all filters, and one for each of them
abbrev pub read_by_all : Env → List Filter → ℕ
read_by_all env [] = 0
read_by_all env (filter ∷ filters) = (1 + read_by env filter) + read_by_all env filters

-- a node in one of the cells that the box meets, whether it lies in the box or beside it
abbrev pub IsInCellsOf : Grain → ExactBox → Element → Type 0
IsInCellsOf grain area o =
    (ranges : List Range) × AreBoxRanges grain area ranges
    × ((range : Range) × (place : Place) × Contains ranges range × (o.body ≡ bodies.Node place) × IsIn range (placed_key grain place o.id))

-- what a base reads, of which the candidates are a part: by a key alone, the objects of all kinds that have it; in a box, the
-- nodes in the cells that the box meets. Where all that is read is a candidate, it counts as such alone
abbrev pub WorkOfBase : Publication → Option Filter → ℕ → Type 0
WorkOfBase p None n = Steps 0 n
WorkOfBase p (Some (InSet name)) n = Steps 0 n
WorkOfBase p (Some (HasKey key)) n = OfSet (IsRefOf p.objects (λ o. HasKeyOf o key)) (λ found. Steps (length found)) n
WorkOfBase p (Some (KeyIs key value)) n = Steps 0 n
WorkOfBase p (Some (LacksKey key)) n = Steps 0 n
WorkOfBase p (Some (KeyIsNot key value)) n = Steps 0 n
WorkOfBase p (Some (Ids ids)) n = Steps 0 n
WorkOfBase p (Some (Within area)) n = OfSet (IsRefOf p.objects (IsInCellsOf (grain_of p.edition) area)) (λ found. Steps (length found)) n
WorkOfBase p (Some (Via path name)) n = Steps 0 n

-- a query statement by a plan: what its base reads, a step for each candidate, and one for each filter that
-- it is tested by
abbrev pub WorkByPlan : Publication → Env → Pick → Planned → ℕ → Type 0
WorkByPlan p env pick plan n = Both (WorkOfBase p plan.base) (OfSet (IsCandidate p.objects env pick plan) (λ found. Steps (length found * (1 + length (rest_of plan))))) n

-- what its filters read, and then what its plan does
abbrev pub WorkOfSelect : Publication → Env → Pick → List Filter → ℕ → Type 0
WorkOfSelect p env pick filters n = Both (Steps (read_by_all env filters)) (OfPlan p (kind_picked pick) filters (WorkByPlan p env pick)) n

-- an out: a step for each object that is printed, and its text
abbrev pub WorkOfOut : Telling → Publication → List Ref → OutMode → Option ℕ → ℕ → Type 0
WorkOfOut tell p set mode limit n = Both (Steps (length (cut limit set))) (Bytes (length (printed_of_by tell p.objects set mode limit))) n

-- a statement of several in a row: its work, then a step, and one for each reference of the set that it wrote, and then what
-- comes after it
abbrev pub InRow : List Element → Statement → Env → (ℕ → Type 0) → (Env → ℕ → Type 0) → ℕ → Type 0
InRow objects statement env Work Rest n = Both Work (Later objects statement env (λ later. Both (Steps (1 + length (given_by statement later))) (Rest later))) n

abbrev mutual
  -- what is done for a statement that is run over these named sets, where objects are told so
  pub WorkOf : Telling → Publication → Statement → Env → ℕ → Type 0
  WorkOf tell p (Select pick filters into) env n = WorkOfSelect p env pick filters n
  -- what a recursion gives is counted as the set that it wrote
  WorkOf tell p (Recurse start how into) env n = Steps (length (env start)) n
  WorkOf tell p (Item start into) env n = Steps 0 n
  WorkOf tell p (Union parts into) env n = WorkOfAll tell p parts env n
  WorkOf tell p (Minus left right into) env n = InRow p.objects left env (WorkOf tell p left env) (λ mid. InRow p.objects right mid (WorkOf tell p right mid) (λ end. Steps 0)) n
  WorkOf tell p (Print start mode limit) env n = WorkOfOut tell p (env start) mode limit n

  -- the same of several in a row
  pub WorkOfAll : Telling → Publication → Statements → Env → ℕ → Type 0
  WorkOfAll tell p End env n = Steps 0 n
  WorkOfAll tell p (Then statement statements) env n = InRow p.objects statement env (WorkOf tell p statement env) (λ later. WorkOfAll tell p statements later) n

-- what is done for a query
abbrev pub WorkOfQuery : Telling → Publication → Statements → ℕ → Type 0
WorkOfQuery tell p statements n = WorkOfAll tell p statements nothing_named n

-- ---- budgets

-- a node of the publication: its manifest, and what is needed by whatever may be asked
abbrev pub IsNodeOf : Publication → List ℕ → Type 0
IsNodeOf p bytes = (bytes ≡ manifest_of p) ⊎ NeededBy p (λ ask. ⊤) bytes

-- no node of the publication and a different used one have one digest
abbrev pub HasNoClash : Publication → (List ℕ → Type 0) → Type 0
HasNoClash p used = ¬ Clash (IsNodeOf p) used

-- there is a budget, and this is more
abbrev pub Passes : Option ℕ → ℕ → Type 0
Passes None n = ⊥
Passes (Some most) n = most < n

-- an evaluation keeps a budget: where it ends well its work is within it, and reported, at most the greatest u64; and it is
-- refused for the budget only where its work passes it
abbrev pub KeepsBudget : (ℕ → Type 0) → Option ℕ → Result Report EvalFault → Type 0
KeepsBudget Work most (Ok report) = (n : ℕ) × Work n × (¬ Passes most n) × (report.work ≡ min n (2 ^ 64 - 1))
KeepsBudget Work most (Err faults.Work) = (n : ℕ) → Work n → Passes most n
KeepsBudget Work most (Err (faults.Walk fault)) = ⊤
KeepsBudget Work most (Err faults.Form) = ⊤
KeepsBudget Work most (Err faults.Absent) = ⊤
KeepsBudget Work most (Err (faults.Manifest fault)) = ⊤
KeepsBudget Work most (Err faults.Memory) = ⊤
