-- A text is one edge at most.
use Rattle.std.proofs.Common.{◌≡◌, ℕ, List, Result, Ok, Err, IfOk, IfErr, sym, ◌∙◌, ap, subst}
use Rattle.osm_model.specs.declared.axis.Axis.{Axis}
use Rattle.osm_model.specs.declared.fault.ModelFault.{ModelFault}
use Rattle.osm_model.specs.declared.fault.ModelFault.TheVariants.{EmptyNumber, NotDecimal, TooManyDecimals, OutOfRange, SouthAboveNorth, ObjectTwice, KeyTwice, LimitPassed, NulInText}
use Rattle.osm_model.specs.Degrees.{Decimal, Spells, point}
use Rattle.osm_model.specs.Edges.{ExactEdge, IsEdge, IsEdgeFault, IsOnAxis}
use Rattle.osm_model.proofs.shared.OneDecimal.{one_decimal, not_empty}

faulty : (text : List ℕ) (axis : Axis) (fault : ModelFault) (d : Decimal) → IsEdgeFault text axis fault → Spells text d → IsOnAxis axis d → ⊥
faulty text axis EmptyNumber d f h fits = not_empty d.negative d.whole (point d.fraction) h.decimal.whole (sym h.text_is ∙ f)
faulty text axis NotDecimal d f h fits = f.1 d h
faulty text axis OutOfRange d f h fits = let P : Decimal → Type 0 = λ x. IsOnAxis axis x in f.2 (subst P (one_decimal text d f.0 h f.1) fits)
faulty text axis TooManyDecimals d f h fits = f
faulty text axis SouthAboveNorth d f h fits = f
faulty text axis ObjectTwice d f h fits = f
faulty text axis KeyTwice d f h fits = f
faulty text axis LimitPassed d f h fits = f
faulty text axis NulInText d f h fits = f

pub only : (text : List ℕ) (axis : Axis) (r : Result ExactEdge ModelFault) → IfOk r (λ e. (e.axis ≡ axis) × Spells text e.value × IsEdge e) → IfErr r (λ fault. IsEdgeFault text axis fault)
    → (d : Decimal) → Spells text d → IsOnAxis axis d → r ≡ Ok (record { axis = axis; value = d })
only text axis (Ok e) read refused d h fits =
    let f : Axis → ExactEdge = λ a. record { axis = a; value = e.value } in
    let g : Decimal → ExactEdge = λ x. record { axis = axis; value = x } in
    ap Ok (ap f read.0 ∙ ap g (one_decimal text e.value d read.1 h))
only text axis (Err fault) read refused d h fits = absurd (faulty text axis fault d refused h fits)
