-- Statements, one after the other: what they ask, and that the sets that they write are of objects that are there.
use Rattle.std.proofs.Common.{◌≡◌, ◌⊎◌, inl, inr, ℕ, zero, suc, ◌+◌, ◌<◌, Bool, true, false, List, [], ◌∷◌, ◌++◌, Result, get_or, length, take, drop, bytes_eq, if◌then◌else◌, sym, subst, arith}
use Rattle.std.proofs.lemmas.List.{take-append-drop}
use Rattle.std.proofs.lemmas.List.Elements.{Contains-append_cases}
use Rattle.std.specs.List.{Contains}
use Rattle.std.specs.Prelude.{⊤}
use Rattle.std.specs.declared.alloc.Global.{Global}
use Rattle.std.specs.declared.vec.Vec.{Vec}
use Rattle.osm_model.specs.Elements.{Element}
use Rattle.osm_model.specs.declared.reference.Ref.{Ref}
use Rattle.tree_node.specs.Outcomes.{Outcome, ShelfUse}
use Rattle.osm_keys.specs.Publications.{Publication}
use Rattle.osm_keys.proofs.shared.Members.{none}
use Rattle.ql_syntax.specs.LawfulQueries.{AreInner, IsInner, IsTop}
use Rattle.ql_syntax.specs.StatementViews.{statement_of, statements_of}
use Rattle.ql_syntax.specs.Statements.{Statement, Statements, Select, Recurse, Item, Union, Minus, Print, End, Then}
use Rattle.ql_syntax.specs.declared.statement.Stmt.{Stmt}
use Rattle.ref_sets.proofs.shared.Adding.{one_more}
use Rattle.ql_meaning.proofs.shared.MeaningLaws.{after_once}
use Rattle.ql_meaning.specs.Meanings.{After, AfterAll, Writes, given_by}
use Rattle.ref_sets.specs.NamedSets.{put, Env}
use Rattle.ql_meaning.specs.Values.{IsRefOf}
use Rattle.ql_eval.specs.Asks.{AskedBy, AskedByAll}
use Rattle.ql_eval.specs.Faults.{cause_of_evaluation}
use Rattle.ql_eval.specs.Questions.{Ask, NeededBy}
use Rattle.ql_eval.specs.declared.fault.EvalFault.{EvalFault}
use Rattle.ql_eval.specs.internal.Entries.{IsThere}
use Rattle.ql_eval.specs.internal.Lawful.{CanRun, CanRunAll}
use Rattle.ql_eval.specs.internal.Links.{AreAllThere, AreThere}
use Rattle.ql_eval.proofs.EachLemmas.{needed_as, needed_or}

-- ---- statements that can be run

mutual
  pub inner_lawful : (depth : ℕ) (statement : Statement) → IsInner depth statement → CanRun statement
  inner_lawful depth (Select pick filters into) is = is
  inner_lawful depth (Recurse start how into) is = tt
  inner_lawful depth (Item start into) is = tt
  inner_lawful depth (Union parts into) (below, e, inner, some) = inner_all_lawful below parts inner
  inner_lawful depth (Minus left right into) (below, e, first, second) = (inner_lawful below left first, inner_lawful below right second)
  inner_lawful depth (Print start mode limit) is = absurd is

  inner_all_lawful : (depth : ℕ) (statements : Statements) → AreInner depth statements → CanRunAll statements
  inner_all_lawful depth End is = tt
  inner_all_lawful depth (Then statement statements) is = (inner_lawful depth statement is.0, inner_all_lawful depth statements is.1)

-- a statement of a query is run, or it is an out
abbrev pub IsOut : Statement → Type 0
IsOut (Print start mode limit) = ⊤
IsOut (Select pick filters into) = ⊥
IsOut (Recurse start how into) = ⊥
IsOut (Item start into) = ⊥
IsOut (Union parts into) = ⊥
IsOut (Minus left right into) = ⊥

pub top_lawful : (statement : Statement) → IsTop statement → CanRun statement ⊎ IsOut statement
top_lawful (Select pick filters into) is = inl is
top_lawful (Recurse start how into) is = inl tt
top_lawful (Item start into) is = inl tt
top_lawful (Union parts into) (below, e, inner, some) = inl (inner_all_lawful below parts inner)
top_lawful (Minus left right into) (below, e, first, second) = inl (inner_lawful below left first, inner_lawful below right second)
top_lawful (Print start mode limit) is = inr tt

-- one of several
pub one_lawful : (statements : List Stmt) (k : ℕ) (x : Stmt) → k < length statements → x ≡ get_or statements k x → CanRunAll (statements_of statements) → CanRun (statement_of x)
one_lawful statements k x lt is lawful = at statements x lawful (k, lt, sym is)
  where
    at : (ss : List Stmt) (x : Stmt) → CanRunAll (statements_of ss) → Contains ss x → CanRun (statement_of x)
    at [] x all has = absurd (none x has)
    at (y ∷ ys) x all (zero, lt, same) = subst (λ (s : Stmt). CanRun (statement_of s)) same all.0
    at (y ∷ ys) x all (suc j, lt, same) = at ys x all.1 (j, omega (arith, lt), same)

-- ---- sets of objects that are there

module _ (objects : List Element) where
  put_there : (into : List ℕ) (refs : List Ref) (env : Env) → AreThere objects refs → AreAllThere objects env → AreAllThere objects (put into refs env)
  put_there into refs env there all name = at (bytes_eq into name)
    where
      at : (b : Bool) → AreThere objects (if b then refs else env name)
      at true = there
      at false = all name

  written_there : {P : Ref → Type 0} (into : List ℕ) (env later : Env) → ((r : Ref) → P r → IsThere objects r) → Writes into P env later → AreAllThere objects env → AreAllThere objects later
  written_there into env later there (refs, is, e) all =
      subst (λ (m : Env). AreAllThere objects m) (sym e) (put_there into refs env (λ r has. there r ((is.members r).0 has)) all)

  ref_there : {P : Element → Type 0} (r : Ref) → IsRefOf objects P r → IsThere objects r
  ref_there r (o, has, named, so) = (o, has, named)

  given_there : (statement : Statement) (env : Env) → AreAllThere objects env → AreThere objects (given_by statement env)
  given_there (Select pick filters into) env all = all into
  given_there (Recurse start how into) env all = all into
  given_there (Item start into) env all = all into
  given_there (Union parts into) env all = all into
  given_there (Minus left right into) env all = all into
  given_there (Print start mode limit) env all = λ r has. absurd (none r has)

  mutual
    pub after_there : (statement : Statement) (env later : Env) → After objects statement env later → AreAllThere objects env → AreAllThere objects later
    after_there (Select pick filters into) env later after all = written_there into env later ref_there after all
    after_there (Recurse start how into) env later after all = written_there into env later ref_there after all
    after_there (Item start into) env later after all = subst (λ (m : Env). AreAllThere objects m) (sym after) (put_there into (env start) env (all start) all)
    after_there (Union parts into) env later (mid, given, so, writes) all =
        let both = after_all_there parts env mid given so all in
        written_there into mid later both.1 writes both.0
    after_there (Minus left right into) env later (first, second, one, two, writes) all =
        let there = after_there left env first one all in
        let there_too = after_there right first second two there in
        written_there into second later (λ r has. given_there left first there r has.0) writes there_too
    after_there (Print start mode limit) env later after all = subst (λ (m : Env). AreAllThere objects m) (sym after) all

    pub after_all_there : (statements : Statements) (env later : Env) (given : List Ref) → AfterAll objects statements env later given → AreAllThere objects env → AreAllThere objects later × AreThere objects given
    after_all_there End env later given (same, nothing) all = (
      subst (λ (m : Env). AreAllThere objects m) (sym same) all,
      subst (λ (l : List Ref). AreThere objects l) (sym nothing) (λ r has. absurd (none r has)),
    )
    after_all_there (Then statement statements) env later given (mid, others, one, rest, e) all =
        let there = after_there statement env mid one all in
        let both = after_all_there statements mid later others rest there in (
          both.0,
          subst (λ (l : List Ref). AreThere objects l) (sym e) (λ r has. elim (Contains-append_cases (given_by statement mid) others r has) [
            | inl first ↦ given_there statement mid there r first
            | inr other ↦ both.1 r other
          ]),
        )

-- ---- one statement more

module _ (p : Publication) where
  asked_front : (xs : List Stmt) (x : Stmt) (env : Env) (ask : Ask) → AskedByAll p (statements_of xs) env ask → AskedByAll p (statements_of (xs ++ x ∷ [])) env ask
  asked_front [] x env ask asked = absurd asked
  asked_front (y ∷ ys) x env ask (inl one) = inl one
  asked_front (y ∷ ys) x env ask (inr (mid, after, rest)) = inr (mid, after, asked_front ys x mid ask rest)

  asked_last : (xs : List Stmt) (x : Stmt) (env mid : Env) (given : List Ref) → AfterAll p.objects (statements_of xs) env mid given → (ask : Ask) → AskedBy p (statement_of x) mid ask
      → AskedByAll p (statements_of (xs ++ x ∷ [])) env ask
  asked_last [] x env mid given (same, nothing) ask asked = inl (subst (λ (m : Env). AskedBy p (statement_of x) m ask) same asked)
  asked_last (y ∷ ys) x env mid given (first, others, one, rest, e) ask asked = inr (first, one, asked_last ys x first mid others rest ask asked)

  asked_split : (xs : List Stmt) (x : Stmt) (env mid : Env) (given : List Ref) → AfterAll p.objects (statements_of xs) env mid given → (ask : Ask) → AskedByAll p (statements_of (xs ++ x ∷ [])) env ask
      → AskedByAll p (statements_of xs) env ask ⊎ AskedBy p (statement_of x) mid ask
  asked_split [] x env mid given (same, nothing) ask (inl one) = inr (subst (λ (m : Env). AskedBy p (statement_of x) m ask) (sym same) one)
  asked_split [] x env mid given so ask (inr (other, after, asked)) = absurd asked
  asked_split (y ∷ ys) x env mid given so ask (inl one) = inl (inl one)
  asked_split (y ∷ ys) x env mid given (first, others, one, rest, e) ask (inr (other, after, asked)) =
      let same : other ≡ first = after_once p.objects (statement_of y) env other first after one in
      elim (asked_split ys x first mid others rest ask (subst (λ (m : Env). AskedByAll p (statements_of (ys ++ x ∷ [])) m ask) same asked)) [
        | inl before ↦ inl (inr (first, one, before))
        | inr last ↦ inr last
      ]

  -- what the first ones ask, all of them ask
  asked_before : (xs ys : List Stmt) (m : Env) (ask : Ask) → AskedByAll p (statements_of xs) m ask → AskedByAll p (statements_of (xs ++ ys)) m ask
  asked_before [] ys m ask asked = absurd asked
  asked_before (x ∷ xs) ys m ask (inl one) = inl one
  asked_before (x ∷ xs) ys m ask (inr (mid, after, rest)) = inr (mid, after, asked_before xs ys mid ask rest)

  pub parts_all : (env : Env) (parts : List Stmt) (n : ℕ) (y : List ℕ) → NeededBy p (AskedByAll p (statements_of (take n parts)) env) y → NeededBy p (AskedByAll p (statements_of parts) env) y
  parts_all env parts n = needed_as (λ ask asked. subst (λ (l : List Stmt). AskedByAll p (statements_of l) env ask) (take-append-drop n parts) (asked_before (take n parts) (drop n parts) env ask asked))

  -- the first ones of a list, and the next
  module _ (env : Env) (parts : List Stmt) (k : ℕ) (x : Stmt) (lt : k < length parts) (is : x ≡ get_or parts k x) where
    next_is : take (k + 1) parts ≡ take k parts ++ x ∷ []
    next_is = one_more parts k x lt is

    pub parts_front : (y : List ℕ) → NeededBy p (AskedByAll p (statements_of (take k parts)) env) y → NeededBy p (AskedByAll p (statements_of (take (k + 1) parts)) env) y
    parts_front = needed_as (λ ask asked. subst (λ (l : List Stmt). AskedByAll p (statements_of l) env ask) (sym next_is) (asked_front (take k parts) x env ask asked))

    module _ (mid : Env) (given : List Ref) (so : AfterAll p.objects (statements_of (take k parts)) env mid given) where
      pub part_needs : (y : List ℕ) → NeededBy p (AskedBy p (statement_of x) mid) y → NeededBy p (AskedByAll p (statements_of (take (k + 1) parts)) env) y
      part_needs = needed_as (λ ask asked. subst (λ (l : List Stmt). AskedByAll p (statements_of l) env ask) (sym next_is) (asked_last (take k parts) x env mid given so ask asked))

      pub parts_split : (y : List ℕ) → NeededBy p (AskedByAll p (statements_of (take (k + 1) parts)) env) y → NeededBy p (AskedByAll p (statements_of (take k parts)) env) y ⊎ NeededBy p (AskedBy p (statement_of x) mid) y
      parts_split y needs = elim (asked_split (take k parts) x env mid given so needs.ask (subst (λ (l : List Stmt). AskedByAll p (statements_of l) env needs.ask) next_is needs.asked)) [
        | inl before ↦ inl (record { ask = needs.ask; asked = before; needs = needs.needs })
        | inr last ↦ inr (record { ask = needs.ask; asked = last; needs = needs.needs })
      ]

      pub part_all : (y : List ℕ) → NeededBy p (AskedBy p (statement_of x) mid) y → NeededBy p (AskedByAll p (statements_of parts) env) y
      part_all y needs = parts_all env parts (k + 1) y (part_needs y needs)

-- ---- statements in the code

-- how a statement is run, and how statements are, after which something else is so too, with what is known then
abbrev pub RanWell : Publication → Statement → Env → Env → Type 0 → Type 0 → ShelfUse → Result (Unit {0}) EvalFault → Type 0
RanWell p statement env later So Known shelf result = Outcome cause_of_evaluation (λ _. (After p.objects statement env later × So) × Known) (NeededBy p (AskedBy p statement env)) shelf result

abbrev pub RanAllWell : Publication → Statements → Env → Env → Type 0 → Type 0 → ShelfUse → Result (Vec Ref Global) EvalFault → Type 0
RanAllWell p parts env later So Known shelf result = Outcome cause_of_evaluation (λ given. (AfterAll p.objects parts env later given.items × So) × Known) (NeededBy p (AskedByAll p parts env)) shelf result

module _ {s t : Statement} (same : s ≡ t) where
  pub needs_as : (p : Publication) (env : Env) (x : List ℕ) → NeededBy p (AskedBy p t env) x → NeededBy p (AskedBy p s env) x
  needs_as p env x needs = subst (λ (u : Statement). NeededBy p (AskedBy p u env) x) (sym same) needs

  pub as_needs : (p : Publication) (env : Env) (x : List ℕ) → NeededBy p (AskedBy p s env) x → NeededBy p (AskedBy p t env) x
  as_needs p env x needs = subst (λ (u : Statement). NeededBy p (AskedBy p u env) x) same needs

  pub after_as : (objects : List Element) (env later : Env) → After objects t env later → After objects s env later
  after_as objects env later after = subst (λ (u : Statement). After objects u env later) (sym same) after

  pub can_run_as : CanRun s → CanRun t
  can_run_as can = subst CanRun same can

-- the two statements of a difference
module _ (p : Publication) (left right : Statement) (into : List ℕ) (env : Env) where
  pub left_needs : (x : List ℕ) → NeededBy p (AskedBy p left env) x → NeededBy p (AskedBy p (Minus left right into) env) x
  left_needs = needed_as (λ ask asked. inl asked)

  module _ (mid : Env) (so : After p.objects left env mid) where
    pub right_needs : (x : List ℕ) → NeededBy p (AskedBy p right mid) x → NeededBy p (AskedBy p (Minus left right into) env) x
    right_needs = needed_as (λ ask asked. inr (mid, so, asked))

    minus_ask : (ask : Ask) → AskedBy p (Minus left right into) env ask → AskedBy p left env ask ⊎ AskedBy p right mid ask
    minus_ask ask (inl first) = inl first
    minus_ask ask (inr (other, after, second)) = inr (subst (λ (m : Env). AskedBy p right m ask) (after_once p.objects left env other mid after so) second)

    pub minus_splits : (x : List ℕ) → NeededBy p (AskedBy p (Minus left right into) env) x → NeededBy p (AskedBy p left env) x ⊎ NeededBy p (AskedBy p right mid) x
    minus_splits x needs = needed_or x (needed_as minus_ask x needs)
