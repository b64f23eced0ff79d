-- The references that lists of nodes and of members name.
use Rattle.std.specs.Prelude.{◌≡◌, ℤ}
use Rattle.osm_model.specs.declared.kind.Kind.TheVariants as kinds
use Rattle.osm_model.specs.declared.member.Member.{Member}
use Rattle.osm_model.specs.declared.reference.Ref.{Ref}

-- the reference of a node with this id
abbrev pub IsNode : ℤ → Ref → Type 0
IsNode id r = record { kind = kinds.Node; id = id } ≡ r

-- the reference of a member
abbrev pub IsTarget : Member → Ref → Type 0
IsTarget member r = member.target ≡ r
