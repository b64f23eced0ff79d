-- The faults of members are within them.
-- Source: this project.
use Rattle.std.specs.Prelude.{ℕ, ◌+◌, ◌≤◌, List, ◌∷◌, length}
use Rattle.std.proofs.Common.{ap, arith, length-append}
use Rattle.osm_model.specs.Bytes.{at_sign}
use Rattle.opl_codec.specs.Members.{HasTarget, MemberFault}
use Rattle.opl_codec.specs.declared.value_fault.ValueFault.{ValueFault}
use Rattle.opl_codec.specs.declared.value_fault.ValueFault.TheVariants as faults
use Rattle.opl_codec.specs.internal.ItemPlaces.{escape_within}
use Rattle.opl_codec.specs.internal.ListParts.{place_in}

role_within : (spelled role : List ℕ) (place further : ℕ) → HasTarget spelled role place → further ≤ length role → place + further ≤ length spelled
role_within spelled role place further h le = let at = h.at in omega (arith, ap length h.parts, length-append h.target (at_sign ∷ role))

pub member_within : (spelled : List ℕ) (fault : ValueFault) → MemberFault spelled fault → place_in fault ≤ length spelled
member_within spelled faults.Form h = omega arith
member_within spelled (faults.Escape at) h = let here = role_within spelled h.0 h.1 h.2 h.3 (escape_within h.0 h.2 h.4) in let is = h.5 in omega arith
member_within spelled faults.NodeLocation h = omega arith
member_within spelled faults.Limit h = omega arith
member_within spelled faults.Memory h = omega arith
