-- A span that is lacking is wanted, and another one isn't.
use Rattle.std.proofs.Common.{◌∙◌, ◌+◌, List, ap, arith, refl, subst, sym, take}
use Rattle.std.proofs.lemmas.Bool.{false≢true}
use Rattle.std.proofs.lemmas.List.{take_all}
use Rattle.std.specs.declared.alloc.Global.{Global}
use Rattle.std.specs.declared.vec.Vec.{Vec}
use Rattle.osm_query_web.proofs.WantedLemmas.{one_unwanted, one_wanted}
use Rattle.osm_query_web.specs.declared.span.Span.{Span}
use Rattle.osm_query_web.specs.internal.Reading.{AreWantedAmong}
use Rattle.osm_query_web.proofs.missing.lacking.Goals.{then-lacks+in_ok-push, else-lacks}
use Rattle.osm_query_web.proofs.missing.lacking.Goals as goal

pub loop-span-preserved : goal.loop-span-preserved
loop-span-preserved c spans are =
    let size = c.args.pieces.now.size in
    let noted = c.args.noted.now in
    let i = c.loop-span.span-index in
    let so_far = c.loop-span.invariant spans are in
    let says = c.lacks.ensures spans are in
    elim c.if-lacks.branch [
      | then-lacks+in_ok-push w ↦
          one_wanted size spans noted i _ _ c.loop-span-test.true refl c.loop-span.wanted.items c.if-lacks.wanted.items (ap (λ (v : Vec Span Global). v.items) w.wanted-is ∙ w.in_ok-push.ensures.items) (says.0 w.if-lacks.true) so_far
      | else-lacks w ↦
          subst (λ (l : List Span). AreWantedAmong size spans (take (i + 1) noted) l) (ap (λ (v : Vec Span Global). v.items) (sym w.wanted-is))
          (one_unwanted size spans noted i _ _ c.loop-span-test.true refl c.loop-span.wanted.items (λ wanted. false≢true (sym w.if-lacks.false ∙ says.1 wanted)) so_far)
    ]

pub returns : goal.returns
returns c spans are =
    subst (λ (l : List Span). AreWantedAmong c.args.pieces.now.size spans l c.loop-span.wanted.items) (take_all c.loop-span.span-index c.args.noted.now (omega arith)) (c.loop-span.invariant spans are)
