use Rattle.std.proofs.Common.{arith, rules}
use Rattle.osm_prove.proofs.FormLemmas.{not_above, rising_from_next}
use Rattle.osm_prove.proofs.proof_reader.are_rising.Goals as goal

pub returns-then-not-is_below : goal.returns-then-not-is_below
returns-then-not-is_below c =
    let told = c.if-not-is_below.ensures in (
      (λ none. absurd cc),
      (λ rising. absurd (not_above c.args.parts.now c.loop-i.i c.index-parts-i.result c.index-parts-i-in-loop-i.result c.digest.result.0 c.digest-in-loop-i.result.0
          (omega arith) (omega arith) c.index-parts-i.is c.index-parts-i-in-loop-i.is c.digest.ensures c.digest-in-loop-i.ensures (λ below. let yes = told.1 below in cc) rising)),
    )

pub returns : goal.returns
returns c = ((λ _. rising_from_next c.args.parts.now (λ k d lt. c.loop-i.invariant k d (omega arith))), (λ _. search rules))
