-- The order that `Ref` derives is that of the definitions, by cases on the kinds.
use Rattle.std.proofs.Common.{◌≡◌, ℤ, not, true, refl, subst}
use Rattle.std.proofs.Math.Path.{fun_ext}
use Rattle.std.specs.declared.cmp.Ordering.{Ordering}
use Rattle.std.specs.BTreeSet.{Updates, contains}
use Rattle.osm_model.specs.Elements.{ref_cmp}
use Rattle.osm_model.specs.contracts.reference.RefOrd.TheImpl as order
use Rattle.osm_model.specs.declared.kind.Kind.{Kind}
use Rattle.osm_model.specs.declared.kind.Kind.TheVariants.{Node, Way, Rel}
use Rattle.osm_model.specs.declared.reference.Ref.{Ref}
use Rattle.osm_index.proofs.change_refusals.insert.Goals as goal

by_kinds : (k l : Kind) (i j : ℤ) → order.cmp-value.it (record { kind = k; id = i }) (record { kind = l; id = j }) ≡ ref_cmp (record { kind = k; id = i }) (record { kind = l; id = j })
unfolding ref_cmp
by_kinds Node Node i j = refl
by_kinds Node Way i j = refl
by_kinds Node Rel i j = refl
by_kinds Way Node i j = refl
by_kinds Way Way i j = refl
by_kinds Way Rel i j = refl
by_kinds Rel Node i j = refl
by_kinds Rel Way i j = refl
by_kinds Rel Rel i j = refl

same_order : order.cmp-value.it ≡ ref_cmp
same_order = fun_ext (λ (a : Ref). fun_ext (λ (b : Ref). by_kinds a.kind b.kind a.id b.id))

pub returns-clause-new : goal.returns-clause-new
returns-clause-new c = subst (λ (cmp : Ref → Ref → Ordering). c.in_ok-insert.field-0 ≡ not (contains cmp c.args.names.now c.args.name)) same_order c.in_ok-insert.ensures.added

pub returns-clause-updates : goal.returns-clause-updates
returns-clause-updates c = subst (λ (cmp : Ref → Ref → Ordering). Updates cmp c.args.names.now c.insert.new.self c.args.name true) same_order c.in_ok-insert.ensures.updates
