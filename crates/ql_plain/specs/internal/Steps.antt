-- Steps along links of membership, down or up.
use Rattle.std.specs.Prelude.{◌≡◌, Bool, true, false, List, ◌↔◌}
use Rattle.std.specs.List.{Contains}
use Rattle.ql_plain.specs.declared.links.Link.{Link}
use Rattle.ql_plain.specs.declared.step.Step.{Step}

abbrev pub oriented : Bool → Link → Step
oriented true link = record { from = link.child; to = link.parent }
oriented false link = record { from = link.parent; to = link.child }

abbrev pub IsOriented : Bool → Link → Step → Type 0
IsOriented is_up link step = oriented is_up link ≡ step

-- the steps are the links, down or up
abbrev pub AreSteps : Bool → List Link → List Step → Type 0
AreSteps is_up links steps = (step : Step) → Contains steps step ↔ ((link : Link) × Contains links link × (oriented is_up link ≡ step))
