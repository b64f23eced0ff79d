use Rattle.std.proofs.Common.{◌≡◌, ◌∙◌, ◌++◌, ◌<◌, List, ℕ, ap, arith, inl, inr, length, rules, subst, sym}
use Rattle.std.specs.Prelude.{◌⊎◌}
use Rattle.http_messages.proofs.shared.BreakLemmas.{skip-begins, skip-twice}
use Rattle.http_messages.specs.HeadEnds.{begins_with_break, skip_breaks}
use Rattle.osm_relay.specs.declared.finding.Found.{Found}
use Rattle.osm_relay.specs.declared.finding.Found.TheVariants.{Ask, Respond}
use Rattle.osm_relay.specs.internal.Finding.{IsFound}
use Rattle.osm_relay.proofs.HeardLemmas.{later-all, scanned-before, still-waits}
use Rattle.osm_relay.proofs.hearing.hear_piece.Goals as goal
use Rattle.osm_relay.proofs.hearing.hear_piece.Goals.{then-needed-eq0, else-needed-eq0}

pub invariant_of-result : goal.invariant_of-result
invariant_of-result c =
    let bytes = c.heard.inside.bytes.items in
    let part = c.later_part.result.now in
    let items : c.extend_from_slice.new.self.items ≡ bytes ++ part = search rules in
    let before : c.len-before.result ≡ length bytes = search rules in
    let size : c.len.result ≡ length c.extend_from_slice.new.self.items = search rules in
    let all = later-all bytes c.args.piece.now part c.heard.invariant.starts (λ z. c.later_part.ensures.first (before ∙ z)) (λ some. c.later_part.ensures.later (omega arith)) in
    let starts = ap skip_breaks all ∙ skip-twice (bytes ++ c.args.piece.now) ∙ sym all in
    let short : length (bytes ++ part) < c.heard.inside.needed = omega (arith, size, ap length items, c.if-len-needed.true) in
    rw items (still-waits c.heard.inside.needed bytes part c.heard.invariant starts short)

pub returns-then-len-needed : goal.returns-then-len-needed
returns-then-len-needed c =
    let bytes = c.heard.inside.bytes.items in
    let part = c.later_part.result.now in
    let items : c.extend_from_slice.new.self.items ≡ bytes ++ part = search rules in
    let before : c.len-before.result ≡ length bytes = search rules in
    let all = later-all bytes c.args.piece.now part c.heard.invariant.starts (λ z. c.later_part.ensures.first (before ∙ z)) (λ some. c.later_part.ensures.later (omega arith)) in
    items ∙ all ∙ ap (λ (t : List ℕ). skip_breaks (t ++ c.args.piece.now)) c.heard.view_is

pub find-requires-clause-begins : goal.find-requires-clause-begins
find-requires-clause-begins c =
    let bytes = c.heard.inside.bytes.items in
    let part = c.later_part.result.now in
    let items : c.deref.result.now ≡ bytes ++ part = search rules in
    let before : c.len-before.result ≡ length bytes = search rules in
    let all = later-all bytes c.args.piece.now part c.heard.invariant.starts (λ z. c.later_part.ensures.first (before ∙ z)) (λ some. c.later_part.ensures.later (omega arith)) in
    ap begins_with_break (items ∙ all) ∙ skip-begins (bytes ++ c.args.piece.now)

pub find-requires-clause-scanned : goal.find-requires-clause-scanned
find-requires-clause-scanned c =
    let bytes = c.heard.inside.bytes.items in
    let part = c.later_part.result.now in
    let items : c.deref.result.now ≡ bytes ++ part = search rules in
    let before : c.len-before.result ≡ length bytes = search rules in
    let from : ((c.heard.inside.needed ≡ 0) × (c.if-needed-eq0.scanned ≡ length bytes)) ⊎ (c.if-needed-eq0.scanned ≡ 0) =
    elim c.if-needed-eq0.branch [
      | then-needed-eq0 w ↦ inl (w.if-needed-eq0.true, w.scanned-is ∙ before)
      | else-needed-eq0 w ↦ inr w.scanned-is
    ] in
    rw items (scanned-before c.heard.inside.needed c.if-needed-eq0.scanned bytes part c.heard.invariant from)

pub returns-in-Respond : goal.returns-in-Respond
returns-in-Respond c =
    let bytes = c.heard.inside.bytes.items in
    let part = c.later_part.result.now in
    let items : c.deref.result.now ≡ bytes ++ part = search rules in
    let before : c.len-before.result ≡ length bytes = search rules in
    let all = later-all bytes c.args.piece.now part c.heard.invariant.starts (λ z. c.later_part.ensures.first (before ∙ z)) (λ some. c.later_part.ensures.later (omega arith)) in
    let whole = items ∙ all ∙ ap (λ (t : List ℕ). skip_breaks (t ++ c.args.piece.now)) c.heard.view_is in
    subst (λ (t : List ℕ). IsFound t (Respond c.in-Respond.response)) whole
    (subst (λ (f : Found). IsFound c.deref.result.now f) c.in-Respond.is c.in_ok-needed.ensures)

pub returns-in-Ask : goal.returns-in-Ask
returns-in-Ask c =
    let bytes = c.heard.inside.bytes.items in
    let part = c.later_part.result.now in
    let items : c.deref.result.now ≡ bytes ++ part = search rules in
    let before : c.len-before.result ≡ length bytes = search rules in
    let all = later-all bytes c.args.piece.now part c.heard.invariant.starts (λ z. c.later_part.ensures.first (before ∙ z)) (λ some. c.later_part.ensures.later (omega arith)) in
    let whole = items ∙ all ∙ ap (λ (t : List ℕ). skip_breaks (t ++ c.args.piece.now)) c.heard.view_is in
    subst (λ (t : List ℕ). IsFound t (Ask c.in-Ask.question)) whole
    (subst (λ (f : Found). IsFound c.deref.result.now f) c.in-Ask.is c.in_ok-needed.ensures)
