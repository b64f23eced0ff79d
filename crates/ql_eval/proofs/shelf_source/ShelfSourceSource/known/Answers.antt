use Rattle.std.proofs.Common.{◌≡◌, Some, None, sym, ap, subst, ◌∙◌}
use Rattle.std.specs.BTreeMap.{get}
use Rattle.std.specs.Option.{option_copied}
use Rattle.std.specs.declared.cmp.Ordering.{Ordering}
use Rattle.osm_model.specs.declared.reference.Ref.{Ref}
use Rattle.ref_sets.proofs.shared.References.{same_order}
use Rattle.ql_eval.proofs.KnownLemmas.{one_known}
use Rattle.ql_eval.proofs.shelf_source.ShelfSourceSource.known.Goals as goal

pub returns-in-Some : goal.returns-in-Some
returns-in-Some g c = λ object at.
    c.as_ref.ensures.value ∙ one_known c.args.self.now.objects.now c.args.name c.in-Some.object.now object (subst (λ (cmp : Ref → Ref → Ordering). get cmp c.args.self.now.objects.now c.args.name ≡ Some c.in-Some.object.now) same_order
    (sym c.get.ensures.value ∙ ap option_copied c.in-Some.is)) at

pub returns-in-None : goal.returns-in-None
returns-in-None g c = λ object at.
    let none = subst (λ (cmp : Ref → Ref → Ordering). get cmp c.args.self.now.objects.now c.args.name ≡ None) same_order (sym c.get.ensures.value ∙ ap option_copied c.in-None.is) in
    absurd (let no : None ≡ Some object = sym none ∙ at in cc)
