use Rattle.std.proofs.Common.{◌∙◌, ap}
use Rattle.std.specs.declared.cmp.Ordering.{Ordering}
use Rattle.osm_model.specs.declared.reference.Ref.{Ref}
use Rattle.ref_sets.proofs.shared.References.{same_order}
use Rattle.ref_sets.proofs.search.compare.Goals as goal

pub returns : goal.returns
returns c = c.cmp.ensures ∙ ap (λ (cmp : Ref → Ref → Ordering). cmp c.args.first c.args.second) same_order
