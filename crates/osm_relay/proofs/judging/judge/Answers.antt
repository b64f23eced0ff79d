use Rattle.std.proofs.Common.{◌≡◌, ◌∙◌, List, ℕ, ap, subst}
use Rattle.ql_syntax.proofs.shared.QueryLaws.{reads_or_not}
use Rattle.ql_syntax.specs.Queries.{HasFault}
use Rattle.mirror_answer.specs.Showing.{IsFaultOf, IsRightly, Wanted}
use Rattle.mirror_answer.specs.declared.shown.Shown.{Shown}
use Rattle.osm_relay.specs.Questions.{Wish}
use Rattle.osm_relay.specs.Relayed.{wanted_under}
use Rattle.osm_relay.specs.internal.Judging.{wanted}
use Rattle.osm_relay.proofs.judging.judge.Goals as goal

pub unreachable-requires : goal.unreachable-requires
unreachable-requires c =
    let w = wanted_under c.args.terms.now c.deref.result.now c.question.inside.form in
    let has = subst (λ (s : Shown). IsRightly w c.args.parts.root.now c.args.parts.proof.now s) c.in-Unread.is c.in_ok-text.ensures.rightly in
    let here = subst (λ (t : List ℕ). HasFault t c.in-Unread.field-0) c.deref.ensures.value has in
    reads_or_not _ _ _ c.question.invariant.reads here

pub returns-in-Refused : goal.returns-in-Refused
returns-in-Refused c =
    let w = wanted_under c.args.terms.now c.deref.result.now c.question.inside.form in
    let has = subst (λ (s : Shown). IsRightly w c.args.parts.root.now c.args.parts.proof.now s) c.in-Refused.is c.in_ok-text.ensures.rightly in
    let first = ap (λ (t : List ℕ). wanted_under c.args.terms.now t c.question.inside.form) c.deref.ensures.value in
    let same : w ≡ wanted c.args.question.now c.args.terms.now = first ∙ ap (λ (q : Wish). wanted q c.args.terms.now) c.question.view_is in
    subst (λ (v : Wanted). IsFaultOf v c.args.parts.root.now c.args.parts.proof.now c.in-Refused.fault) same has
