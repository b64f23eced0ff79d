-- Kinds in their order.
use Rattle.std.proofs.Common.{◌≡◌, ◌≤◌, ◌↔◌, refl, arith}
use Rattle.osm_model.specs.Elements.{kind_byte}
use Rattle.osm_model.specs.declared.kind.Kind.{Kind}
use Rattle.osm_model.specs.declared.kind.Kind.TheVariants as kinds
use Rattle.osm_model.specs.declared.reference.Ref.{Ref}
use Rattle.ref_sets.specs.Kinds.{IsBetween}

pub same_kind : (k l : Kind) → kind_byte k ≤ kind_byte l → kind_byte l ≤ kind_byte k → l ≡ k
same_kind kinds.Node kinds.Node up down = refl
same_kind kinds.Node kinds.Way up down = absurd (omega (arith, down))
same_kind kinds.Node kinds.Rel up down = absurd (omega (arith, down))
same_kind kinds.Way kinds.Node up down = absurd (omega (arith, up))
same_kind kinds.Way kinds.Way up down = refl
same_kind kinds.Way kinds.Rel up down = absurd (omega (arith, down))
same_kind kinds.Rel kinds.Node up down = absurd (omega (arith, up))
same_kind kinds.Rel kinds.Way up down = absurd (omega (arith, up))
same_kind kinds.Rel kinds.Rel up down = refl

-- from a kind to itself is that kind
pub is_one_kind : (kind : Kind) (r : Ref) → IsBetween kind kind r ↔ (r.kind ≡ kind)
is_one_kind kind r = (
  (λ is. same_kind kind r.kind is.not_below is.not_above),
  (λ e. record { not_below = rw e (omega arith); not_above = rw e (omega arith) }),
)
