use Rattle.std.proofs.Common.{rules, subst, sym, arith}
use Rattle.osm_prove.proofs.shared.ListingLaws.{IsShort}
use Rattle.outside_proof.proofs.PartLengths.{fit_short, parts_fit}
use Rattle.outside_proof.proofs.listing.fit_proof.Goals as goal

pub returns-then-not-fits_number-2 : goal.returns-then-not-fits_number-2
returns-then-not-fits_number-2 c = (
  λ yes. search rules,
  λ fits.
      c.if-not-fits_number-2.ensures.1
      (subst IsShort (sym c.bytes.ensures) (fit_short c.args.parts.now c.loop-part.part-index c.part-item.result fits (omega arith) c.part-item.is)),
)

pub returns : goal.returns
returns c = (λ _. parts_fit c.args.parts.now (c.fits_number.ensures.0 (search rules)) (λ k p lt. c.loop-part.invariant k p (omega arith)), λ _. search rules)
