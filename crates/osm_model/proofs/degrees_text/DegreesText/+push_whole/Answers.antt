use Rattle.std.proofs.Common.{◌∷◌, [], ◌+◌, ◌/◌, ◌%◌, length, ap, arith, length-append, append_assoc, ◌∙◌, refl}
use Rattle.std.proofs.lemmas.Fmt.{decimal_step, decimal_digit, decimal_nonempty}
use Rattle.std.specs.Fmt.{decimal}
use Rattle.osm_model.proofs.DegreesLemmas.{length_without_last, small_mod}
use Rattle.osm_model.proofs.degrees_text.DegreesText.+push_whole.Goals as goal
use Rattle.osm_model.proofs.degrees_text.DegreesText.+push_whole.Goals.{then-whole-ge10, else-whole-ge10}

pub push_whole-requires : goal.push_whole-requires
push_whole-requires t c = (omega arith, omega (arith, length_without_last c.args.whole c.if-whole-ge10.true (omega arith)))

pub push-requires : goal.push-requires
push-requires t c = elim c.if-whole-ge10.branch [
  | then-whole-ge10 w ↦ omega (arith, length_without_last c.args.whole w.if-whole-ge10.true (omega arith), ap (λ x. length x) (w.self-is ∙ w.push_whole.ensures), length-append c.args.self.now (decimal (c.args.whole / 10)))
  | else-whole-ge10 w ↦ omega (arith, decimal_nonempty c.args.whole (omega arith), ap (λ x. length x) w.self-is)
]

pub returns : goal.returns
returns t c = elim c.if-whole-ge10.branch [
  | then-whole-ge10 w ↦ rw (c.push.ensures, w.self-is, w.push_whole.ensures, decimal_step c.args.whole w.if-whole-ge10.true (omega arith)) (append_assoc c.args.self.now (decimal (c.args.whole / 10)) ((48 + c.args.whole % 10) ∷ []))
  | else-whole-ge10 w ↦ rw (c.push.ensures, w.self-is, small_mod c.args.whole w.if-whole-ge10.false, decimal_digit c.args.whole w.if-whole-ge10.false) refl
]
