use Rattle.std.proofs.Common.{◌≡◌, inl, inr, ℕ, List, [], ap, refl, subst, sym}
use Rattle.osm_model.specs.declared.reference.Ref.{Ref}
use Rattle.ql_syntax.specs.StatementViews.{statement_of}
use Rattle.ql_syntax.specs.declared.statement.Stmt.{Stmt}
use Rattle.osm_forms.specs.Forms.{form_text}
use Rattle.ql_meaning.specs.Meanings.{After, printed_of_by, told_by}
use Rattle.ref_sets.specs.NamedSets.{lists_of}
use Rattle.ql_eval.specs.Asks.{AskedBy, AskedByOut}
use Rattle.ql_eval.specs.Written.{HasWritten}
use Rattle.ql_eval.specs.internal.Lawful.{CanRun}
use Rattle.ql_eval.specs.internal.Links.{AreThere}
use Rattle.ql_eval.proofs.EachLemmas.{needed_as}
use Rattle.ql_eval.proofs.OutLemmas.{no_out, told_nothing}
use Rattle.ql_eval.proofs.StatementLemmas.{top_lawful}
use Rattle.ql_eval.proofs.WritingLemmas.{written_none}
use Rattle.ql_eval.proofs.GivenLemmas.{always_ok, sets_later}
use Rattle.ql_eval.specs.internal.Giving.{AllGiven}
use Rattle.ql_eval.specs.Work.{WorkOfOut}
use Rattle.ql_eval.specs.internal.Metering.{IsBounded, IsSpent}
use Rattle.ref_sets.proofs.shared.Results.{on_ok_as}
use Rattle.ql_eval.proofs.MeterLemmas.{bounded_as, spent_as, stops_as}
use Rattle.ql_eval.proofs.RecallLemmas.{given_later, recalled_later}
use Rattle.ql_eval.proofs.TruthLemmas.{truly_same}
use Rattle.ql_eval.proofs.answering.answer_statement.Goals as goal

pub returns-in-Print-clause-answer : goal.returns-in-Print-clause-answer
returns-in-Print-clause-answer g c = λ p is under known there top.
    let env = lists_of c.args.sets.now.named.items in
    let out = c.in-Print.out in
    let refs : c.get.result.now ≡ lists_of c.args.sets.now.named.items c.in-Print.out.from =
    subst (λ (name : List ℕ). c.get.result.now ≡ lists_of c.args.sets.now.named.items name) c.as_bytes.ensures c.get.ensures in
    truly_same
    (needed_as (λ ask asked. subst (λ (s : Stmt). AskedBy p (statement_of s) env ask) (sym c.in-Print.is) (subst (λ (rs : List Ref). AskedByOut p rs out.mode out.limit ask) refs asked)))
    (λ value so. needed_as (λ ask asked. subst (λ (rs : List Ref). AskedByOut p rs out.mode out.limit ask) (sym refs) (subst (λ (s : Stmt). AskedBy p (statement_of s) env ask) c.in-Print.is asked)))
    (λ value so. (
      subst (λ (s : Stmt). After p.objects (statement_of s) env env) (sym c.in-Print.is) refl,
      subst (λ (s : Stmt). HasWritten (g.T.Sink.stands c.args.sink.now) (g.T.Sink.stands c.print.new.sink) (told_by (form_text c.args.form) p.objects (statement_of s) env)) (sym c.in-Print.is)
          (subst (λ (rs : List Ref). HasWritten (g.T.Sink.stands c.args.sink.now) (g.T.Sink.stands c.print.new.sink) (printed_of_by (form_text c.args.form) p.objects rs out.mode out.limit)) refs so),
      recalled_later p (g.W.Source.used c.args.source.now) (g.W.Source.used c.print.new.source) c.args.memo.now.remembered.items (λ x. g.met.W.Source.grows _ _ x c.print.ensures.later) known,
    ))
    (c.print.ensures.answer p is under (subst (λ (rs : List Ref). AreThere p.objects rs) (sym refs) (there out.from)))

pub returns-in_default : goal.returns-in_default
returns-in_default g c = record {
  later = c.run.ensures.later;
  walked = c.run.ensures.walked;
  told = c.run.ensures.told;
  named = c.run.ensures.named;
  recalled_named = c.run.ensures.recalled_named;
  kept = refl;
  wrote = ([], written_none);
  answer = λ p is under known there top.
      let statement = statement_of c.args.statement.now in
      let env = lists_of c.args.sets.now.named.items in
      let can : CanRun statement = elim (top_lawful statement top) [ inl can ↦ can | inr out ↦ absurd (no_out c.args.statement.now c.in_default.not-Print out) ] in
      truly_same (λ x needs. needs) (λ value so x needs. needs)
      (λ value so. (so.0, subst (λ (text : List ℕ). HasWritten (g.T.Sink.stands c.args.sink.now) (g.T.Sink.stands c.args.sink.now) text) (sym (told_nothing (form_text c.args.form) p.objects statement env can)) written_none, so.1))
      (c.run.ensures.answer p is under known there can);
  in_row = λ p is under known there top clear.
      let statement = statement_of c.args.statement.now in
      let can : CanRun statement = elim (top_lawful statement top) [ inl can ↦ can | inr out ↦ absurd (no_out c.args.statement.now c.in_default.not-Print out) ] in
      c.run.ensures.in_row (form_text c.args.form) p is under known there can clear;
  bounded = on_ok_as c.run.result (λ bounded p is under known there top clear.
      let statement = statement_of c.args.statement.now in
      let can : CanRun statement = elim (top_lawful statement top) [ inl can ↦ can | inr out ↦ absurd (no_out c.args.statement.now c.in_default.not-Print out) ] in
      bounded (form_text c.args.form) p is under known there can clear) c.run.ensures.bounded;
  spent = on_ok_as c.run.result (λ spent p is under known there top clear.
      let statement = statement_of c.args.statement.now in
      let can : CanRun statement = elim (top_lawful statement top) [ inl can ↦ can | inr out ↦ absurd (no_out c.args.statement.now c.in_default.not-Print out) ] in
      spent (form_text c.args.form) p is under known there can clear) c.run.ensures.spent;
}

pub print-requires : goal.print-requires
print-requires g c = subst (λ (l : List Ref). AllGiven (g.W.Source.gave c.args.source.now) l) (sym c.get.ensures) (c.requires.named c.as_bytes.result.now)

pub returns-in-Print-clause-named : goal.returns-in-Print-clause-named
returns-in-Print-clause-named g c = always_ok c.print.result (sets_later (lists_of c.args.sets.now.named.items) (λ r. g.met.W.Source.same_gave _ _ r c.print.ensures.later) c.requires.named)

pub returns-in-Print-clause-in_row : goal.returns-in-Print-clause-in_row
returns-in-Print-clause-in_row g c = λ p is under known there top clear.
    let env = lists_of c.args.sets.now.named.items in
    let out = c.in-Print.out in
    let tell = form_text c.args.form in
    let refs : c.get.result.now ≡ env out.from = subst (λ (name : List ℕ). c.get.result.now ≡ env name) c.as_bytes.ensures c.get.ensures in
    stops_as (ap statement_of c.in-Print.is) tell p env _ _
    (subst (λ (l : List Ref). IsBounded (WorkOfOut tell p l out.mode out.limit) c.args.meter.now.spent c.print.new.meter.spent) refs
    (c.print.ensures.bounded p is under (subst (λ (rs : List Ref). AreThere p.objects rs) (sym refs) (there out.from)) clear))

pub returns-in-Print-clause-bounded : goal.returns-in-Print-clause-bounded
returns-in-Print-clause-bounded g c = always_ok c.print.result (λ p is under known there top clear.
    let env = lists_of c.args.sets.now.named.items in
    let out = c.in-Print.out in
    let tell = form_text c.args.form in
    let refs : c.get.result.now ≡ env out.from = subst (λ (name : List ℕ). c.get.result.now ≡ env name) c.as_bytes.ensures c.get.ensures in
    bounded_as (ap statement_of c.in-Print.is) tell p env _ _
    (subst (λ (l : List Ref). IsBounded (WorkOfOut tell p l out.mode out.limit) c.args.meter.now.spent c.print.new.meter.spent) refs
    (c.print.ensures.bounded p is under (subst (λ (rs : List Ref). AreThere p.objects rs) (sym refs) (there out.from)) clear)))

pub returns-in-Print-clause-spent : goal.returns-in-Print-clause-spent
returns-in-Print-clause-spent g c = on_ok_as c.print.result (λ spent. λ p is under known there top clear.
    let env = lists_of c.args.sets.now.named.items in
    let out = c.in-Print.out in
    let tell = form_text c.args.form in
    let refs : c.get.result.now ≡ env out.from = subst (λ (name : List ℕ). c.get.result.now ≡ env name) c.as_bytes.ensures c.get.ensures in
    spent_as (ap statement_of c.in-Print.is) tell p env _ _
    (subst (λ (l : List Ref). IsSpent (WorkOfOut tell p l out.mode out.limit) c.args.meter.now.spent c.print.new.meter.spent) refs
    (spent p is under (subst (λ (rs : List Ref). AreThere p.objects rs) (sym refs) (there out.from)) clear))) c.print.ensures.spent

pub returns-in-Print-clause-recalled_named : goal.returns-in-Print-clause-recalled_named
returns-in-Print-clause-recalled_named g c = always_ok c.print.result (given_later _ _ c.args.memo.now.remembered.items (λ r. g.met.W.Source.same_gave _ _ r c.print.ensures.later) c.requires.recalled_named)
