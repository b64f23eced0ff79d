use Rattle.std.proofs.Common.{◌≡◌}
use Rattle.std.specs.declared.cmp.Ordering.TheVariants.{Less}
use Rattle.std.specs.List.{AllAdjacentBelow}
use Rattle.osm_model.specs.Elements.{reference, ref_cmp}
use Rattle.osm_model.proofs.object_set.references_rise.Given as goal

abbrev pub invariant-loop-i : goal.invariant-loop-i
invariant-loop-i l = AllAdjacentBelow (λ first second. ref_cmp (reference first) (reference second) ≡ Less) l.objects l.i
