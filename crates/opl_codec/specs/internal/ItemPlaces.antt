-- The faults of items are within them.
-- Source: this project.
use Rattle.std.specs.Prelude.{ℕ, ◌+◌, ◌≤◌, List, ◌∷◌, length}
use Rattle.std.proofs.Common.{ap, arith, inl, inr, length-append}
use Rattle.opl_codec.specs.Texts.{BadEscapeIn}
use Rattle.opl_codec.specs.ValueFaults.{TagFault, HasKey, NodeFault}
use Rattle.opl_codec.specs.declared.value_fault.ValueFault.{ValueFault}
use Rattle.opl_codec.specs.declared.value_fault.ValueFault.TheVariants as faults
use Rattle.opl_codec.specs.internal.ListParts.{place_in}

pub escape_within : (spelled : List ℕ) (at : ℕ) → BadEscapeIn spelled at → at ≤ length spelled
escape_within spelled at h = let place = h.place in omega (arith, ap length h.spelled_is, length-append h.front (37 ∷ h.rest))

key_within : (spelled rest : List ℕ) (place further : ℕ) → HasKey spelled rest place → further ≤ length rest → place + further ≤ length spelled
key_within spelled rest place further h le = let at = h.at in omega (arith, ap length h.parts, length-append h.key (61 ∷ rest))

pub tag_within : (spelled : List ℕ) (fault : ValueFault) → TagFault spelled fault → place_in fault ≤ length spelled
tag_within spelled faults.Form h = omega arith
tag_within spelled (faults.Escape at) h = elim h [
  | inl key ↦ escape_within spelled at key
  | inr value ↦ let here = key_within spelled value.0 value.1 value.2 value.3 (escape_within value.0 value.2 value.4) in let is = value.5 in omega arith
]
tag_within spelled faults.NodeLocation h = omega arith
tag_within spelled faults.Limit h = omega arith
tag_within spelled faults.Memory h = omega arith

pub node_within : (spelled : List ℕ) (fault : ValueFault) → NodeFault spelled fault → place_in fault ≤ length spelled
node_within spelled faults.Form h = omega arith
node_within spelled (faults.Escape at) h = absurd h
node_within spelled faults.NodeLocation h = omega arith
node_within spelled faults.Limit h = omega arith
node_within spelled faults.Memory h = omega arith
