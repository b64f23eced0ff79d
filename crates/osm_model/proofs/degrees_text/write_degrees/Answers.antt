use Rattle.std.proofs.Common.{ℕ, ◌≤◌, ◌/◌, length, ap, arith, length-append, ◌∙◌}
use Rattle.std.proofs.lemmas.Fmt.{length-decimal-le}
use Rattle.std.specs.Fmt.{decimal}
use Rattle.osm_model.proofs.degrees_text.write_degrees.Goals as goal
use Rattle.osm_model.proofs.degrees_text.write_degrees.Goals.{then-value-lt0, else-value-lt0}

few_digits : (n : ℕ) → n ≤ 2147483648 → length (decimal (n / 10000000)) ≤ 3
few_digits n small = length-decimal-le 3 (n / 10000000) (omega arith) (omega arith) (omega arith)

pub push_whole-requires : goal.push_whole-requires
push_whole-requires c =
    let few = few_digits c.from-size.result (omega (arith, c.from-size.ensures, c.unsigned_abs.ensures.bound)) in
    elim c.if-value-lt0.branch [
      | then-value-lt0 w ↦ omega (arith, few, ap (λ x. length x) (w.text-is ∙ w.push.ensures), length-append c.empty-text.result, ap (λ x. length x) c.empty-text.ensures)
      | else-value-lt0 w ↦ omega (arith, few, ap (λ x. length x) (w.text-is ∙ c.empty-text.ensures))
    ]

pub push_fraction-requires-clause-room : goal.push_fraction-requires-clause-room
push_fraction-requires-clause-room c =
    let few = few_digits c.from-size.result (omega (arith, c.from-size.ensures, c.unsigned_abs.ensures.bound)) in
    let sum = length-append c.if-value-lt0.text (decimal (c.from-size.result / 10000000)) in
    elim c.if-value-lt0.branch [
      | then-value-lt0 w ↦ omega (arith, few, sum, ap (λ x. length x) c.push_whole.ensures, ap (λ x. length x) (w.text-is ∙ w.push.ensures), length-append c.empty-text.result, ap (λ x. length x) c.empty-text.ensures)
      | else-value-lt0 w ↦ omega (arith, few, sum, ap (λ x. length x) c.push_whole.ensures, ap (λ x. length x) (w.text-is ∙ c.empty-text.ensures))
    ]
