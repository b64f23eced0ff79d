-- Of one query over one publication there is one work.
use Rattle.std.proofs.Common.{◌≡◌, ℕ, ◌+◌, List, length, Option, Some, None, sym, subst, ◌∙◌, arith}
use Rattle.osm_model.specs.Elements.{Element}
use Rattle.osm_model.specs.declared.kind.Kind.{Kind}
use Rattle.osm_model.specs.declared.reference.Ref.{Ref}
use Rattle.osm_keys.specs.Publications.{Publication}
use Rattle.ql_syntax.specs.Filters.{Filter, InSet, HasKey, KeyIs, LacksKey, KeyIsNot, Ids, Within, Via}
use Rattle.ql_syntax.specs.Statements.{Statement, Statements, Select, Recurse, Item, Union, Minus, Print, End, Then}
use Rattle.ql_meaning.proofs.shared.MeaningLaws.{after_once, one_set}
use Rattle.ql_meaning.specs.Meanings.{Telling, given_by}
use Rattle.ql_plan.specs.Plans.{Planned}
use Rattle.ref_sets.specs.NamedSets.{Env, nothing_named}
use Rattle.ql_eval.specs.Work.{Both, Bytes, InRow, Later, OfPlan, OfSet, Steps, WorkOf, WorkOfAll, WorkOfBase, WorkOfQuery}
use Rattle.ql_eval.proofs.PlanLemmas.{one_planned}

-- there is one such number
abbrev pub IsOne : (ℕ → Type 0) → Type 0
IsOne Work = (m n : ℕ) → Work m → Work n → m ≡ n

one_steps : (count : ℕ) → IsOne (Steps count)
one_steps count m n a b = a.is ∙ sym b.is

one_bytes : {count : ℕ} → IsOne (Bytes count)
one_bytes m n a b = a.is ∙ sym b.is

one_both : {First Second : ℕ → Type 0} → IsOne First → IsOne Second → IsOne (Both First Second)
one_both first second m n a b =
    let e = first a.first b.first a.is_first b.is_first in
    let f = second a.second b.second a.is_second b.is_second in
    omega (arith, a.is, b.is, e, f)

one_of_set : {P : Ref → Type 0} {Work : List Ref → ℕ → Type 0} → ((set : List Ref) → IsOne (Work set)) → IsOne (OfSet P Work)
one_of_set {Work = Work} one m n a b = one b.set m n (subst (λ (s : List Ref). Work s m) (one_set a.set b.set a.is_set b.is_set) a.work) b.work

one_of_base : (p : Publication) (base : Option Filter) → IsOne (WorkOfBase p base)
one_of_base p None = one_steps 0
one_of_base p (Some (InSet name)) = one_steps 0
one_of_base p (Some (HasKey key)) = one_of_set (λ found. one_steps (length found))
one_of_base p (Some (KeyIs key value)) = one_steps 0
one_of_base p (Some (LacksKey key)) = one_steps 0
one_of_base p (Some (KeyIsNot key value)) = one_steps 0
one_of_base p (Some (Ids ids)) = one_steps 0
one_of_base p (Some (Within area)) = one_of_set (λ found. one_steps (length found))
one_of_base p (Some (Via path name)) = one_steps 0

one_of_plan : {Work : Planned → ℕ → Type 0} (p : Publication) (kind : Option Kind) (filters : List Filter) → ((plan : Planned) → IsOne (Work plan)) → IsOne (OfPlan p kind filters Work)
one_of_plan {Work = Work} p kind filters one m n a b = one b.plan m n (subst (λ (q : Planned). Work q m) (one_planned p kind filters a.plan b.plan a.is_planned b.is_planned) a.work) b.work

one_later : {Work : Env → ℕ → Type 0} (objects : List Element) (statement : Statement) (env : Env) → ((later : Env) → IsOne (Work later)) → IsOne (Later objects statement env Work)
one_later {Work = Work} objects statement env one m n a b =
    one b.later m n (subst (λ (e : Env). Work e m) (after_once objects statement env a.later b.later a.after b.after) a.work) b.work

one_row : {First : ℕ → Type 0} {Rest : Env → ℕ → Type 0} (objects : List Element) (statement : Statement) (env : Env) → IsOne First → ((later : Env) → IsOne (Rest later)) → IsOne (InRow objects statement env First Rest)
one_row {Rest = Rest} objects statement env first rest =
    one_both first (one_later {Work = λ later. Both (Steps (1 + length (given_by statement later))) (Rest later)} objects statement env (λ later. one_both (one_steps (1 + length (given_by statement later))) (rest later)))

mutual
  pub work_once : (tell : Telling) (p : Publication) (statement : Statement) (env : Env) → IsOne (WorkOf tell p statement env)
  work_once tell p (Select pick filters into) env = one_both (one_steps _) (one_of_plan p _ filters (λ plan. one_both (one_of_base p plan.base) (one_of_set (λ found. one_steps _))))
  work_once tell p (Recurse start how into) env = one_steps (length (env start))
  work_once tell p (Item start into) env = one_steps 0
  work_once tell p (Union parts into) env = all_once tell p parts env
  work_once tell p (Minus left right into) env = one_row p.objects left env (work_once tell p left env) (λ mid. one_row p.objects right mid (work_once tell p right mid) (λ end. one_steps 0))
  work_once tell p (Print start mode limit) env = one_both (one_steps _) one_bytes

  pub all_once : (tell : Telling) (p : Publication) (statements : Statements) (env : Env) → IsOne (WorkOfAll tell p statements env)
  all_once tell p End env = one_steps 0
  all_once tell p (Then statement statements) env = one_row p.objects statement env (work_once tell p statement env) (λ later. all_once tell p statements later)

pub one_work : (tell : Telling) (p : Publication) (statements : Statements) (m n : ℕ) → WorkOfQuery tell p statements m → WorkOfQuery tell p statements n → m ≡ n
one_work tell p statements = all_once tell p statements nothing_named
