-- The comparisons of references and of members are equalities: what `Eq` of a list of members rests on.
-- Source: this project.
use Rattle.std.specs.Cmp.{IsEquivalence, and_equiv, on_equiv, nat_eq_equiv, int_eq_equiv}
use Rattle.std.specs.Cmp.Lexicographic.{nat_list_eq_equiv}
use Rattle.osm_model.specs.declared.reference.Ref.{Ref}
use Rattle.osm_model.specs.declared.member.Member.{Member}
use Rattle.osm_model.specs.Elements.{kind_byte, ref_eq, member_eq}

pub refs_equiv : IsEquivalence ref_eq
refs_equiv = and_equiv (on_equiv (λ (r : Ref). kind_byte r.kind) nat_eq_equiv) (on_equiv (λ (r : Ref). r.id) int_eq_equiv)

pub members_equiv : IsEquivalence member_eq
members_equiv = and_equiv (on_equiv (λ (m : Member). m.target) refs_equiv) (on_equiv (λ (m : Member). m.role) nat_list_eq_equiv)
