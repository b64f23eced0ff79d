use Rattle.std.proofs.Common.{ℕ, List, Option, subst, ap, ◌∙◌, arith}
use Rattle.osm_check.specs.Matching.{IsParted, Matches, common}
use Rattle.osm_check.proofs.Fronts.{all_after, parted_before, parted_here, parted_nowhere}
use Rattle.osm_check.proofs.matcher.parting.Goals as goal

pub returns-in-Some-clause-parts : goal.returns-in-Some-clause-parts
returns-in-Some-clause-parts c = λ m is.
    parted_before c.args.expected.now m c.args.bytes.now c.in-Some.place (subst (λ (o : Option ℕ). IsParted c.args.expected.now m o) c.in-Some.is is.1)

pub returns-then-same-bytes-clause-parts : goal.returns-then-same-bytes-clause-parts
returns-then-same-bytes-clause-parts c = λ m is.
    parted_here c.args.expected.now m c.args.bytes.now c.args.len c.common_len-same.result (omega arith)
    (subst (λ (o : Option ℕ). Matches c.args.expected.now c.args.len o m) c.in-None.is is) (c.requires.within c.in-None.is) (c.common_len-same.ensures.common ∙ ap (λ (r : List ℕ). common r c.args.bytes.now) (all_after c.args.len c.args.expected.now)) c.if-same-bytes.true

pub returns-else-same-bytes-clause-parts : goal.returns-else-same-bytes-clause-parts
returns-else-same-bytes-clause-parts c = λ m is.
    parted_nowhere c.args.expected.now m c.args.bytes.now c.args.len c.common_len-same.result (omega arith)
    (subst (λ (o : Option ℕ). Matches c.args.expected.now c.args.len o m) c.in-None.is is) (c.requires.within c.in-None.is) (c.common_len-same.ensures.common ∙ ap (λ (r : List ℕ). common r c.args.bytes.now) (all_after c.args.len c.args.expected.now)) c.if-same-bytes.false
