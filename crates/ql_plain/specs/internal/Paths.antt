-- Paths of steps along links of membership.
-- Source: this project.
use Rattle.std.specs.Prelude.{◌≡◌, List}
use Rattle.std.specs.List.{Contains}
use Rattle.osm_model.specs.declared.reference.Ref.{Ref}
use Rattle.ql_plain.specs.declared.step.Step.{Step}

-- a step leads from the first to the second
abbrev pub IsStep : List Step → Ref → Ref → Type 0
IsStep steps first second = (step : Step) × Contains steps step × (step.from ≡ first) × (step.to ≡ second)

-- one or more steps lead from the first to the last
pub data IsPath (steps : List Step) : Ref → Ref → Type 0 where
  One : (first last : Ref) → IsStep steps first last → IsPath steps first last
  More : (first next last : Ref) → IsPath steps first next → IsStep steps next last → IsPath steps first last
