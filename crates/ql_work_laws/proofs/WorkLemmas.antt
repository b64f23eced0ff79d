-- What works bound.
use Rattle.std.proofs.Common.{◌≡◌, ◌∙◌, ℕ, ◌+◌, ◌*◌, ◌≤◌, List, length, sym, ap, subst, inl, inr, arith}
use Rattle.std.proofs.lemmas.List.{length-append}
use Rattle.osm_model.specs.declared.reference.Ref.{Ref}
use Rattle.osm_keys.specs.Publications.{Publication}
use Rattle.ql_syntax.specs.Statements.{Statement, Statements, Select, Recurse, Item, Union, Minus, Print, End, Then}
use Rattle.ql_meaning.specs.Meanings.{After, Prints_by, Telling, given_by, told_by}
use Rattle.ql_meaning.proofs.shared.MeaningLaws.{after_once}
use Rattle.ref_sets.specs.NamedSets.{Env}
use Rattle.ql_eval.specs.Work.{Both, InRow, Later, Steps, WorkOf, WorkOfAll}
use Rattle.ql_work_laws.specs.WrittenSets.{IsWrittenIn, IsWrittenOr, IsWrittenWithin}

module _ (tell : Telling) (p : Publication) where
  -- what a statement prints has no more bytes than its work
  told_fits : (statement : Statement) (env : Env) (n : ℕ) → WorkOf tell p statement env n → length (told_by tell p.objects statement env) ≤ n
  told_fits (Select pick filters into) env n work = omega arith
  told_fits (Recurse start how into) env n work = omega arith
  told_fits (Item start into) env n work = omega arith
  told_fits (Union parts into) env n work = omega arith
  told_fits (Minus left right into) env n work = omega arith
  told_fits (Print start mode limit) env n work = let sum = work.is in let bytes = work.is_second.is in omega (arith, sum, bytes)

  pub text_fits : (statements : Statements) (env : Env) (text : List ℕ) (n : ℕ) → Prints_by tell p.objects statements env text → WorkOfAll tell p statements env n → length text ≤ n
  text_fits End env text n prints work = omega (arith, ap (length {A = ℕ}) prints)
  text_fits (Then statement statements) env text n (later, more, after, prints, is) work =
      let rest = work.is_second in
      let same : rest.later ≡ later = after_once p.objects statement env rest.later later rest.after after in
      let first = told_fits statement env work.first work.is_first in
      let others = text_fits statements later more rest.work.second prints (subst (λ (e : Env). WorkOfAll tell p statements e rest.work.second) same rest.work.is_second) in
      let whole = work.is in
      let inner = rest.work.is in
      let long = ap (length {A = ℕ}) is ∙ length-append (told_by tell p.objects statement env) more in
      omega (arith, first, others, whole, inner, long)

  -- a set that a statement of a row writes is within the row's work
  given_fits : (statement : Statement) (env : Env) (n : ℕ) (Rest : Env → ℕ → Type 0) (set : List Ref) (later : Env) → After p.objects statement env later → set ≡ given_by statement later
      → Later p.objects statement env (λ (after : Env). Both (Steps (1 + length (given_by statement after))) (Rest after)) n → 100 * (1 + length set) ≤ n
  given_fits statement env n Rest set later after is counted =
      let same : counted.later ≡ later = after_once p.objects statement env counted.later later counted.after after in
      let size : length (given_by statement counted.later) ≡ length set = ap (λ (e : Env). length (given_by statement e)) same ∙ sym (ap (length {A = Ref}) is) in
      let whole = counted.work.is in
      let steps = counted.work.is_first.is in
      omega (arith, whole, steps, size)

  -- so is one that is written by it or within it, where those within are
  row_fits : (statement : Statement) (env : Env) (set : List Ref) (n : ℕ) (Rest : Env → ℕ → Type 0) (Within : Type 0)
      → ((m : ℕ) → Within → WorkOf tell p statement env m → 100 * (1 + length set) ≤ m)
      → IsWrittenOr p.objects statement env set Within → InRow p.objects statement env (WorkOf tell p statement env) Rest n → 100 * (1 + length set) ≤ n
  row_fits statement env set n Rest Within fits (inl within) work =
      let small = fits work.first within work.is_first in
      let whole = work.is in
      omega (arith, small, whole)
  row_fits statement env set n Rest Within fits (inr (later, after, is)) work =
      let small = given_fits statement env work.second Rest set later after is work.is_second in
      let whole = work.is in
      omega (arith, small, whole)

  mutual
    within_fits : (statement : Statement) (env : Env) (set : List Ref) (n : ℕ) → IsWrittenWithin p.objects statement env set → WorkOf tell p statement env n → 100 * (1 + length set) ≤ n
    within_fits (Select pick filters into) env set n written work = absurd written
    within_fits (Recurse start how into) env set n written work = absurd written
    within_fits (Item start into) env set n written work = absurd written
    within_fits (Union parts into) env set n written work = sets_fit parts env set n written work
    within_fits (Minus left right into) env set n (inl by_left) work =
        row_fits left env set n _ (IsWrittenWithin p.objects left env set) (λ m within counted. within_fits left env set m within counted) by_left work
    within_fits (Minus left right into) env set n (inr (mid, after, by_right)) work =
        let rest = work.is_second in
        let same : rest.later ≡ mid = after_once p.objects left env rest.later mid rest.after after in
        let right_work = subst (λ (e : Env). InRow p.objects right e (WorkOf tell p right e) (λ end. Steps 0) rest.work.second) same rest.work.is_second in
        let small = row_fits right mid set rest.work.second _ (IsWrittenWithin p.objects right mid set) (λ m within counted. within_fits right mid set m within counted) by_right right_work in
        let whole = work.is in
        let inner = rest.work.is in
        omega (arith, small, whole, inner)
    within_fits (Print start mode limit) env set n written work = absurd written

    pub sets_fit : (statements : Statements) (env : Env) (set : List Ref) (n : ℕ) → IsWrittenIn p.objects statements env set → WorkOfAll tell p statements env n → 100 * (1 + length set) ≤ n
    sets_fit End env set n written work = absurd written
    sets_fit (Then statement statements) env set n (inl by) work =
        row_fits statement env set n _ (IsWrittenWithin p.objects statement env set) (λ m within counted. within_fits statement env set m within counted) by work
    sets_fit (Then statement statements) env set n (inr (later, after, written)) work =
        let rest = work.is_second in
        let same : rest.later ≡ later = after_once p.objects statement env rest.later later rest.after after in
        let small = sets_fit statements later set rest.work.second written (subst (λ (e : Env). WorkOfAll tell p statements e rest.work.second) same rest.work.is_second) in
        let whole = work.is in
        let inner = rest.work.is in
        omega (arith, small, whole, inner)
