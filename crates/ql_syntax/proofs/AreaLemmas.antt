-- Boxes whose corners are spelled.
use Rattle.std.proofs.Common.{◌≡◌, ℕ, List, Result, Ok, Err, refl, ◌∙◌, ap, subst}
use Rattle.std.specs.Prelude.{IfOk, IfErr}
use Rattle.osm_model.proofs.shared.OneDecimal.{one_decimal}
use Rattle.osm_model.specs.Boxes.{ExactBox, IsBox}
use Rattle.osm_model.specs.Degrees.{Decimal, Spells}
use Rattle.osm_model.specs.Edges.{ExactEdge, IsEdge, IsOnAxis, IsGreater}
use Rattle.osm_model.specs.declared.axis.Axis.{Axis}
use Rattle.osm_model.specs.declared.axis.Axis.TheVariants.{Lon, Lat}
use Rattle.osm_model.specs.declared.fault.ModelFault.{ModelFault}
use Rattle.osm_model.specs.declared.fault.ModelFault.TheVariants.{SouthAboveNorth}
use Rattle.ql_syntax.specs.Areas.{Corners, AreBox, area, box_of}
use Rattle.ql_syntax.specs.internal.Following.{ParseOutcome, Read, Stopped}
use Rattle.ql_syntax.specs.declared.cause.QlCause.TheVariants as causes
use Rattle.ql_syntax.specs.declared.syntax_error.SyntaxError.{SyntaxError}

-- the edge that is read of a decimal's text
edge_is : {text : List ℕ} {axis : Axis} {d : Decimal} {e : ExactEdge} → Spells text d → (e.axis ≡ axis) × Spells text e.value × IsEdge e → e ≡ record { axis = axis; value = d }
edge_is {text = text} {axis = axis} {d = d} {e = e} spells read =
    let same : e.value ≡ d = one_decimal text e.value d read.1 spells in
    ap (λ (a : Axis). let x : ExactEdge = record { axis = a; value = e.value } in x) read.0 ∙ ap (λ (v : Decimal). let x : ExactEdge = record { axis = axis; value = v } in x) same

within_axis : {text : List ℕ} {axis : Axis} {d : Decimal} {e : ExactEdge} → Spells text d → (e.axis ≡ axis) × Spells text e.value × IsEdge e → IsOnAxis axis d
within_axis {e = e} spells read = subst (λ (x : ExactEdge). IsOnAxis x.axis x.value) (edge_is spells read) (read.2).within

-- where no edge is read, the decimal isn't within its axis
pub no_edge : {A F : Type 0} {x : A} {fault : F} {P : Type 0} → (P → Err fault ≡ Ok x) → ¬ P
no_edge {x = x} {fault = fault} only it = let same : Err fault ≡ Ok x = only it in cc

pub refused_by : {A F : Type 0} {P : Type 0} (r : Result A F) → ¬ P → IfErr r (λ x. ¬ P)
refused_by (Ok x) not = tt
refused_by (Err f) not = not

-- this is the edge of the decimal, which is within its axis
pub record IsEdgeOf (axis : Axis) (d : Decimal) (e : ExactEdge) : Type 0 where
  pub edge : e ≡ record { axis = axis; value = d }
  pub within : IsOnAxis axis d

pub edge_of : {text : List ℕ} {axis : Axis} {d : Decimal} {e : ExactEdge} → Spells text d → (e.axis ≡ axis) × Spells text e.value × IsEdge e → IsEdgeOf axis d e
edge_of spells read = record { edge = edge_is spells read; within = within_axis spells read }

module _ {corners : Corners} {south west north east : ExactEdge} (s : IsEdgeOf Lat corners.south south) (w : IsEdgeOf Lon corners.west west) (n : IsEdgeOf Lat corners.north north) (e : IsEdgeOf Lon corners.east east) where
  box_is : {b : ExactBox} → b ≡ record { south = south; west = west; north = north; east = east } → b ≡ box_of corners
  box_is is =
      is ∙ ap (λ (x : ExactEdge). let b : ExactBox = record { south = x; west = west; north = north; east = east } in b) s.edge
      ∙ ap (λ (x : ExactEdge). let b : ExactBox = record { south = (box_of corners).south; west = x; north = north; east = east } in b) w.edge
      ∙ ap (λ (x : ExactEdge). let b : ExactBox = record { south = (box_of corners).south; west = (box_of corners).west; north = x; east = east } in b) n.edge
      ∙ ap (λ (x : ExactEdge). let b : ExactBox = record { south = (box_of corners).south; west = (box_of corners).west; north = (box_of corners).north; east = x } in b) e.edge

  pub box_made : (r : Result ExactBox ModelFault) → IfOk r (λ b. (b ≡ record { south = south; west = west; north = north; east = east }) × IsBox b) → IfOk r (λ found. AreBox corners × (found ≡ box_of corners))
  box_made (Ok b) made = (record { south = s.within; west = w.within; north = n.within; east = e.within; upright = (subst IsBox (box_is made.0) made.1).upright }, box_is made.0)
  box_made (Err f) made = tt

  pub box_refused : (r : Result ExactBox ModelFault) → IfErr r (λ fault. (fault ≡ SouthAboveNorth) × IsGreater south.value north.value) → IfErr r (λ fault. ¬ (AreBox corners))
  box_refused (Ok b) refused = tt
  box_refused (Err f) refused = λ are. are.upright (subst (λ (x : ExactEdge). IsGreater x.value corners.north) s.edge (subst (λ (x : ExactEdge). IsGreater south.value x.value) n.edge refused.1))

pub area_read : {M : Type 0} {X : Type 0} {view : X → ExactBox × List ℕ} {corners : Corners} (at : List ℕ) {text : List ℕ} {x : X} → AreBox corners → (view x).0 ≡ box_of corners → (view x).1 ≡ text → ParseOutcome M (area corners at) view text (Ok x)
unfolding area
area_read at {x = x} are is rest = Read x refl (are, is, rest)

pub area_stop : {M : Type 0} {X : Type 0} {view : X → ExactBox × List ℕ} {corners : Corners} {at text : List ℕ} {stop : SyntaxError} → ¬ (AreBox corners) → stop.cause ≡ causes.BadBox → stop.rest.now ≡ at → ParseOutcome M (area corners at) view text (Err stop)
unfolding area
area_stop {stop = stop} not cause place = Stopped stop refl (not, cause, place)
