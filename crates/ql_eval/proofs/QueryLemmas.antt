-- Statements of a query, one after the other: what they ask, what they print, and that their sets are there.
use Rattle.std.proofs.Common.{◌≡◌, ◌⊎◌, inl, inr, ℕ, zero, suc, ◌+◌, ◌<◌, ◌≤◌, List, [], ◌∷◌, ◌++◌, length, take, drop, get_or, Result, Ok, Err, refl, sym, ap, subst, ◌∙◌, arith}
use Rattle.std.specs.Result.{IsErrAnd}
use Rattle.std.proofs.lemmas.List.{drop_more, take_all, take_more, take-append-drop}
use Rattle.osm_model.specs.Elements.{Element}
use Rattle.tree_node.specs.Outcomes.{Outcome, ShelfUse}
use Rattle.tree_node.proofs.shared.OutcomeLaws.{Nodes, outcome_as, outcome_starts, outcome_then, outcome_then_stops, uses}
use Rattle.osm_keys.proofs.shared.Members.{none}
use Rattle.osm_keys.specs.Publications.{Publication}
use Rattle.ql_syntax.specs.LawfulQueries.{IsQuery, IsTop}
use Rattle.ql_syntax.specs.StatementViews.{statement_of, statements_of}
use Rattle.ql_syntax.specs.Statements.{Statements, End, Then}
use Rattle.ql_syntax.specs.declared.statement.Stmt.{Stmt}
use Rattle.ql_meaning.proofs.shared.Answering.{PrintsTo_by, prints_by, prints_next_by}
use Rattle.ql_meaning.proofs.shared.MeaningLaws.{after_once}
use Rattle.ql_meaning.specs.Meanings.{After, Means_by, Telling, told_by}
use Rattle.ref_sets.specs.NamedSets.{nothing_named, Env}
use Rattle.ql_eval.specs.Asks.{AskedBy, AskedByAll}
use Rattle.ql_eval.specs.Faults.{cause_of_evaluation}
use Rattle.ql_eval.specs.Questions.{Ask, NeededBy}
use Rattle.ql_eval.specs.Written.{HasWritten}
use Rattle.ql_eval.specs.declared.fault.EvalFault.{EvalFault}
use Rattle.ql_eval.specs.internal.Links.{AreAllThere}
use Rattle.ql_eval.proofs.EachLemmas.{needed_as}
use Rattle.ql_eval.proofs.StatementLemmas.{after_there}
use Rattle.ql_eval.proofs.WritingLemmas.{written_none, written_then}

-- ---- all references of named sets are of objects that are there

prints_there : (tell : Telling) (objects : List Element) (statements : Statements) (env later : Env) (text : List ℕ) → PrintsTo_by tell objects statements env later text → AreAllThere objects env → AreAllThere objects later
prints_there tell objects End env later text so old = subst (λ (e : Env). AreAllThere objects e) (sym so.0) old
prints_there tell objects (Then statement statements) env later text so old = prints_there tell objects statements so.0 later so.1 so.3 (after_there objects statement env so.0 so.2 old)

none_there : (objects : List Element) → AreAllThere objects nothing_named
none_there objects name r has = absurd (none r has)

-- ---- what a list of statements asks

asked_front : (p : Publication) (xs ys : List Stmt) (env : Env) (ask : Ask) → AskedByAll p (statements_of xs) env ask → AskedByAll p (statements_of (xs ++ ys)) env ask
asked_front p [] ys env ask asked = absurd asked
asked_front p (x ∷ xs) ys env ask asked = elim asked [ inl one ↦ inl one | inr others ↦ inr (others.0, others.1, asked_front p xs ys others.0 ask others.2) ]

asked_next : (tell : Telling) (p : Publication) (xs : List Stmt) (x : Stmt) (ys : List Stmt) (env mid : Env) (text : List ℕ) (ask : Ask)
    → PrintsTo_by tell p.objects (statements_of xs) env mid text → AskedBy p (statement_of x) mid ask → AskedByAll p (statements_of (xs ++ x ∷ ys)) env ask
asked_next tell p [] x ys env mid text ask so asked = inl (subst (λ (e : Env). AskedBy p (statement_of x) e ask) so.0 asked)
asked_next tell p (y ∷ xs) x ys env mid text ask so asked = inr (so.0, so.2, asked_next tell p xs x ys so.0 mid so.1 ask so.3 asked)

asked_more : (tell : Telling) (p : Publication) (xs : List Stmt) (x : Stmt) (env mid : Env) (text : List ℕ) (ask : Ask)
    → PrintsTo_by tell p.objects (statements_of xs) env mid text → AskedByAll p (statements_of (xs ++ x ∷ [])) env ask → AskedByAll p (statements_of xs) env ask ⊎ AskedBy p (statement_of x) mid ask
asked_more tell p [] x env mid text ask so asked = elim asked [
  | inl one ↦ inr (subst (λ (e : Env). AskedBy p (statement_of x) e ask) (sym so.0) one)
  | inr others ↦ absurd others.2
]
asked_more tell p (y ∷ xs) x env mid text ask so asked = elim asked [
  | inl one ↦ inl (inl one)
  | inr others ↦
      (let same : others.0 ≡ so.0 = after_once p.objects (statement_of y) env others.0 so.0 others.1 so.2 in
      elim (asked_more tell p xs x so.0 mid so.1 ask so.3 (subst (λ (e : Env). AskedByAll p (statements_of (xs ++ x ∷ [])) e ask) same others.2)) [
        | inl before ↦ inl (inr (so.0, so.2, before))
        | inr last ↦ inr last
      ])
]

-- ---- the statements of a query

top_at : (xs : List Stmt) (k : ℕ) (d : Stmt) → k < length xs → IsQuery (statements_of xs) → IsTop (statement_of (get_or xs k d))
top_at [] k d lt are = absurd (omega arith)
top_at (x ∷ xs) zero d lt are = are.0
top_at (x ∷ xs) (suc k) d lt are = top_at xs k d (omega arith) are.1

pub one_top : (xs : List Stmt) (k : ℕ) (x : Stmt) → k < length xs → x ≡ get_or xs k x → IsQuery (statements_of xs) → IsTop (statement_of x)
one_top xs k x lt is are = subst (λ (s : Stmt). IsTop (statement_of s)) (sym is) (top_at xs k x lt are)

module _ (tell : Telling) (p : Publication) (xs : List Stmt) where
  -- so many statements were answered, these are the named sets after them, and something else is so too, with what is known then
  abbrev pub HasAnswered : ℕ → Env → Type 0 → Type 0 → Nodes → Nodes → ShelfUse → Type 0
  HasAnswered k env So Known was is shelf =
      Outcome cause_of_evaluation (λ (_ : Unit {0}). (text : List ℕ) × PrintsTo_by tell p.objects (statements_of (take k xs)) nothing_named env text × HasWritten was is text × So × Known)
      (NeededBy p (AskedByAll p (statements_of (take k xs)) nothing_named)) shelf (Ok tt)

  -- one of them was
  abbrev pub IsAnswered : {V : Type 0} → Stmt → Env → Env → Type 0 → Type 0 → Nodes → Nodes → ShelfUse → Result V EvalFault → Type 0
  IsAnswered x env later So Known was is shelf result =
      Outcome cause_of_evaluation (λ _. (After p.objects (statement_of x) env later × HasWritten was is (told_by tell p.objects (statement_of x) env) × So) × Known) (NeededBy p (AskedBy p (statement_of x) env)) shelf result

  pub answered_none : {env : Env} {So Known : Type 0} {held used was : Nodes} → env ≡ nothing_named → So → Known → HasAnswered 0 env So Known was was (uses held used used)
  answered_none {env = env} {was = was} e so known = outcome_starts ([], (e, refl), written_none, so, known) (λ x needs. needs.asked)

  module _ (k : ℕ) where
    front_all : (x : List ℕ) → NeededBy p (AskedByAll p (statements_of (take k xs)) nothing_named) x → NeededBy p (AskedByAll p (statements_of xs) nothing_named) x
    front_all = needed_as (λ ask asked. subst (λ (ss : List Stmt). AskedByAll p (statements_of ss) nothing_named ask) (take-append-drop k xs) (asked_front p (take k xs) (drop k xs) nothing_named ask asked))

    module _ (x : Stmt) (lt : k < length xs) (is_next : x ≡ get_or xs k x) where
      one_more : take (k + 1) xs ≡ take k xs ++ x ∷ []
      one_more = take_more xs k x lt ∙ ap (λ (y : Stmt). take k xs ++ y ∷ []) (sym is_next)

      all_split : xs ≡ take k xs ++ x ∷ drop (k + 1) xs
      all_split = sym (take-append-drop k xs) ∙ ap (λ (ys : List Stmt). take k xs ++ ys) (drop_more xs k x lt ∙ ap (λ (y : Stmt). y ∷ drop (k + 1) xs) (sym is_next))

      front_needs : (bytes : List ℕ) → NeededBy p (AskedByAll p (statements_of (take k xs)) nothing_named) bytes → NeededBy p (AskedByAll p (statements_of (take (k + 1) xs)) nothing_named) bytes
      front_needs = needed_as (λ ask asked. subst (λ (ss : List Stmt). AskedByAll p (statements_of ss) nothing_named ask) (sym one_more) (asked_front p (take k xs) (x ∷ []) nothing_named ask asked))

      module _ (env : Env) (text : List ℕ) (so : PrintsTo_by tell p.objects (statements_of (take k xs)) nothing_named env text) where
        next_needs : (bytes : List ℕ) → NeededBy p (AskedBy p (statement_of x) env) bytes → NeededBy p (AskedByAll p (statements_of (take (k + 1) xs)) nothing_named) bytes
        next_needs = needed_as (λ ask asked. subst (λ (ss : List Stmt). AskedByAll p (statements_of ss) nothing_named ask) (sym one_more) (asked_next tell p (take k xs) x [] nothing_named env text ask so asked))

        next_all : (bytes : List ℕ) → NeededBy p (AskedBy p (statement_of x) env) bytes → NeededBy p (AskedByAll p (statements_of xs) nothing_named) bytes
        next_all = needed_as (λ ask asked. subst (λ (ss : List Stmt). AskedByAll p (statements_of ss) nothing_named ask) (sym all_split) (asked_next tell p (take k xs) x (drop (k + 1) xs) nothing_named env text ask so asked))

        needs_split : (bytes : List ℕ) → NeededBy p (AskedByAll p (statements_of (take (k + 1) xs)) nothing_named) bytes
            → NeededBy p (AskedByAll p (statements_of (take k xs)) nothing_named) bytes ⊎ NeededBy p (AskedBy p (statement_of x) env) bytes
        needs_split bytes needs =
            elim (asked_more tell p (take k xs) x nothing_named env text needs.ask so (subst (λ (ss : List Stmt). AskedByAll p (statements_of ss) nothing_named needs.ask) one_more needs.asked)) [
              | inl before ↦ inl (record { ask = needs.ask; asked = before; needs = needs.needs })
              | inr last ↦ inr (record { ask = needs.ask; asked = last; needs = needs.needs })
            ]

        pub all_sets_there : AreAllThere p.objects env
        all_sets_there = prints_there tell p.objects (statements_of (take k xs)) nothing_named env text so (none_there p.objects)

      pub answered_next : {V : Type 0} (env later : Env) {First Next Known Later : Type 0} {before held old mid new was mark is : Nodes} {value : V} → ((bytes : List ℕ) → mid bytes → new bytes)
          → HasAnswered k env First Known was mark (uses before old mid) → (AreAllThere p.objects env → First → Known → IsAnswered x env later Next Later mark is (uses held mid new) (Ok value)) → HasAnswered (k + 1) later Next Later was is (uses held old new)
      answered_next env later grows so step =
          outcome_then grows front_needs (λ done. next_needs env done.0 done.1) (λ done next. needs_split env done.0 done.1)
          (λ done next. (done.0 ++ told_by tell p.objects (statement_of x) env, prints_next_by tell p.objects xs k x lt is_next nothing_named env later done.0 _ done.1 next.0.0 refl, written_then done.2 next.0.1, next.0.2, next.1))
          so (λ done. step (all_sets_there env done.0 done.1) done.3 done.4)

      pub answered_stops : {C V : Type 0} {All : C → Type 0} (env later : Env) {First Next Known Later : Type 0} {before held old mid new was mark is : Nodes} {result : Result C EvalFault} (fault : EvalFault) → IsErrAnd result (λ f. f ≡ fault)
          → ((bytes : List ℕ) → mid bytes → new bytes) → HasAnswered k env First Known was mark (uses before old mid) → (AreAllThere p.objects env → First → Known → IsAnswered {V = V} x env later Next Later mark is (uses held mid new) (Err fault))
          → Outcome cause_of_evaluation All (NeededBy p (AskedByAll p (statements_of xs) nothing_named)) (uses held old new) result
      answered_stops env later fault err grows so step =
          outcome_then_stops fault err refl grows front_all (λ done. next_all env done.0 done.1) so (λ done. step (all_sets_there env done.0 done.1) done.3 done.4)

  -- all of them were
  pub answered_all : {C : Type 0} {So Known : Type 0} {before held old new was is : Nodes} {value : C} (env : Env) (k : ℕ) → length xs ≤ k → HasAnswered k env So Known was is (uses before old new)
      → Outcome cause_of_evaluation (λ _. ((text : List ℕ) × Means_by tell p.objects (statements_of xs) text × HasWritten was is text) × Known) (NeededBy p (AskedByAll p (statements_of xs) nothing_named)) (uses held old new) (Ok value)
  answered_all env k past so =
      let all : take k xs ≡ xs = take_all k xs past in
      outcome_as (front_all k) (λ done x needs. subst (λ (ss : List Stmt). NeededBy p (AskedByAll p (statements_of ss) nothing_named) x) (sym all) needs)
      (λ done. ((done.0, prints_by tell p.objects (statements_of xs) nothing_named env done.0 (subst (λ (ss : List Stmt). PrintsTo_by tell p.objects (statements_of ss) nothing_named env done.0) all done.1), done.2), done.4)) so
