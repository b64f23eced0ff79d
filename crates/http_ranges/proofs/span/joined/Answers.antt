use Rattle.std.proofs.Common.{List, subst, sym}
use Rattle.std.specs.List.{AllByRecursion}
use Rattle.std.proofs.lemmas.Result.{IfOk-weaker}
use Rattle.http_ranges.specs.Spans.{CoveredBy, IsDrawn, IsShort, Rises}
use Rattle.http_ranges.specs.declared.span.Span.{Span}
use Rattle.http_ranges.proofs.SpanLemmas.{all-covered, all-drawn, all-rise, all-short}
use Rattle.http_ranges.proofs.span.joined.Goals as goal

pub returns-clause-covered : goal.returns-clause-covered
returns-clause-covered c =
    let sorted = c.args.sorted.now in
    IfOk-weaker c.join_all.result _ _ (λ spans is. subst (λ (t : List Span). AllByRecursion (CoveredBy t) sorted) (sym is) (all-covered sorted)) c.join_all.ensures

pub returns-clause-drawn : goal.returns-clause-drawn
returns-clause-drawn c =
    let sorted = c.args.sorted.now in
    IfOk-weaker c.join_all.result _ _ (λ spans is. subst (AllByRecursion (IsDrawn sorted)) (sym is) (all-drawn sorted)) c.join_all.ensures

pub returns-clause-rises : goal.returns-clause-rises
returns-clause-rises c order =
    IfOk-weaker c.join_all.result _ _ (λ spans is. subst Rises (sym is) (all-rise c.args.sorted.now order)) c.join_all.ensures

pub returns-clause-short : goal.returns-clause-short
returns-clause-short c apart =
    IfOk-weaker c.join_all.result _ _ (λ spans is. subst (AllByRecursion IsShort) (sym is) (all-short c.args.sorted.now apart)) c.join_all.ensures
