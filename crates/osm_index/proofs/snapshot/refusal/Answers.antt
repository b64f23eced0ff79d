use Rattle.std.proofs.Common.{inl, inr}
use Rattle.std.proofs.Math.Logic.{∥∥₁_elim}
use mathlib.Core.HLevel.{⊥_prop}
use Rattle.osm_index.proofs.snapshot.refusal.Goals as goal

pub unreachable-requires : goal.unreachable-requires
unreachable-requires c = ∥∥₁_elim c.requires ⊥_prop (λ (refusal, is). elim c.in-Missing.is [ inl missing ↦ Prim.cc | inr no_tree ↦ Prim.cc ])
