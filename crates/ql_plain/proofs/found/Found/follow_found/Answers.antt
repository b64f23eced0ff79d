use Rattle.std.proofs.Common.{◌≡◌, ℕ, ◌<◌, get_or, length, inl, inr, subst, sym, ◌∙◌, ap, arith}
use Rattle.std.proofs.lemmas.Bool.{cases_lt}
use Rattle.std.proofs.lemmas.List.{get_or_default}
use Rattle.osm_model.specs.declared.reference.Ref.{Ref}
use Rattle.ql_plain.specs.internal.Paths.{IsStep, More, One}
use Rattle.ql_plain.proofs.found.Found.follow_found.Goals as goal

pub loop-at-preserved : goal.loop-at-preserved
loop-at-preserved c =
    let steps = c.args.steps.now in
    let refs = c.loop-at.self.refs.items in
    let later = c.follow.new.self.refs.items in
    let so = c.loop-at.invariant in
    let one = c.in_ok-follow.ensures.follows in
    let name = c.index-name.result.now in
    let at = c.loop-at.at in
    let within : at < length refs = let test = c.loop-at-test.true in let len = c.len.ensures in omega arith in
    record {
      told = c.in_ok-follow.ensures.told;
      kept = λ r has. (one.adds.is r).1 (inl (so.kept r has));
      sound = λ r has. elim ((one.adds.is r).0 has) [
        | inl before ↦ so.sound r before
        | inr step ↦ inr (elim (so.sound name (at, within, sym c.index-name.ensures)) [
          | inl first ↦ (name, first, One name r step)
          | inr far ↦ (far.0, far.1, More far.0 name r far.2 step)
        ])
      ];
      done = λ k d lt short r step. elim (cases_lt k at) [
        | inl before ↦ (
            let in_refs : k < length refs = omega (arith, within) in
            (one.adds.is r).1 (inl (so.done k d before in_refs r (subst (λ (s : Ref). IsStep steps s r) ((one.goes k d in_refs).1) step))))
        | inr after ↦ (
            let here : k ≡ at = omega (arith, lt, after) in
            let same : get_or later k d ≡ name = ap (λ (j : ℕ). get_or later j d) here ∙ (one.goes at d within).1 ∙ get_or_default refs at d name within ∙ sym c.index-name.ensures in
            (one.adds.is r).1 (inr (subst (λ (s : Ref). IsStep steps s r) same step)))
      ];
    }

pub returns : goal.returns
returns c = record {
  kept = c.loop-at.invariant.kept;
  sound = c.loop-at.invariant.sound;
  closed = λ s r has step. c.loop-at.invariant.done has.0 s (let past = c.loop-at-test.false in let len = c.len.ensures in omega (arith, has.1)) has.1 r (subst (λ (t : Ref). IsStep c.args.steps.now t r) (sym has.2) step);
}
