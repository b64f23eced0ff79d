-- What query statements gave that are remembered, and over which named sets.
use Rattle.std.specs.Prelude.{◌≡◌, ◌<◌, ◌-◌, ℕ, List, [], ◌∷◌, ◌++◌, map}
use Rattle.std.specs.List.{Contains}
use Rattle.std.specs.declared.alloc.Global.{Global}
use Rattle.std.specs.declared.rc.Rc.{Rc}
use Rattle.osm_model.specs.declared.reference.Ref.{Ref}
use Rattle.osm_keys.specs.Publications.{Publication}
use Rattle.ql_syntax.specs.Filters.{Filter, InSet, HasKey, KeyIs, LacksKey, KeyIsNot, Ids, Within, Via}
use Rattle.ql_syntax.specs.StatementViews.{filters_of}
use Rattle.ql_syntax.specs.declared.pick.Pick.{Pick}
use Rattle.ref_sets.specs.NamedSets.{Env}
use Rattle.ref_sets.specs.Sets.{IsSetOf}
use Rattle.ql_meaning.specs.Values.{IsRefOf, IsSelected}
use Rattle.ql_eval.specs.Asks.{AskedBySelect}
use Rattle.ql_eval.specs.Questions.{NeededBy}
use Rattle.ql_eval.specs.Work.{HasNoClash, WorkOfSelect}
use Rattle.ql_eval.specs.declared.select_memo.AskedSelect.{AskedSelect}
use Rattle.ql_eval.specs.declared.select_memo.RememberedSelect.{RememberedSelect}
use Rattle.ql_eval.specs.internal.Giving.{AllGiven}
use Rattle.ql_eval.specs.internal.Metering.{IsBounded, IsSpent, greatest}

-- ---- named sets that are read

-- the named set that a filter reads, if it reads one
abbrev pub set_read : Env → Filter → List (List Ref)
set_read env (InSet name) = env name ∷ []
set_read env (HasKey key) = []
set_read env (KeyIs key value) = []
set_read env (LacksKey key) = []
set_read env (KeyIsNot key value) = []
set_read env (Ids ids) = []
set_read env (Within area) = []
set_read env (Via path name) = env name ∷ []

-- those that several filters read, in their order
abbrev pub sets_read : Env → List Filter → List (List Ref)
sets_read env [] = []
sets_read env (filter ∷ filters) = set_read env filter ++ sets_read env filters

-- the sets that are shared so
abbrev pub sets_in : List (Rc (List Ref) Global) → List (List Ref)
sets_in = map (λ set. set.value)

-- ---- one statement

-- both are of one kind, with the same filters, over the same sets
abbrev pub AsksTheSame : AskedSelect → AskedSelect → Type 0
AsksTheSame first second = (first.pick ≡ second.pick) × (filters_of first.filters.now ≡ filters_of second.filters.now) × (sets_in first.reads.items ≡ sets_in second.reads.items)

-- this is what a statement gives over these named sets, all nodes that it needs were used, and so much is its work, unless a node of
-- the publication and a different used one have one digest
pub record IsAnswerOf (p : Publication) (used : List ℕ → Type 0) (env : Env) (pick : Pick) (filters : List Filter) (refs : List Ref) (work : ℕ) : Type 0 where
  pub set : IsSetOf refs (IsRefOf p.objects (IsSelected p.objects env pick filters))
  pub needs : (bytes : List ℕ) → NeededBy p (AskedBySelect p env pick filters) bytes → used bytes
  pub bounded : HasNoClash p used → IsBounded (WorkOfSelect p env pick filters) 0 work
  pub spent : HasNoClash p used → IsSpent (WorkOfSelect p env pick filters) 0 work

-- ---- all that are remembered

-- the statement that was asked gave this, and between two moments so much was counted for it
abbrev pub IsOf : AskedSelect → List Ref → (before after : ℕ) → RememberedSelect → Type 0
IsOf asked refs before after one = (one.asked ≡ asked) × (one.found.value ≡ refs) × (one.work ≡ after - before) × (after < greatest)

-- each is true over all named sets of which its filters read those that it is remembered with
abbrev pub AreAnswers : Publication → (List ℕ → Type 0) → List RememberedSelect → Type 0
AreAnswers p used remembered =
    (one : RememberedSelect) → Contains remembered one → (env : Env) → sets_read env (filters_of one.asked.filters.now) ≡ sets_in one.asked.reads.items
    → IsAnswerOf p used env one.asked.pick (filters_of one.asked.filters.now) one.found.value one.work

-- all that they gave was given before
abbrev pub AreAnswersGiven : (Ref → Type 0) → List RememberedSelect → Type 0
AreAnswersGiven gave remembered = (one : RememberedSelect) → Contains remembered one → AllGiven gave one.found.value
