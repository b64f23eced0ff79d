use Rattle.std.proofs.Common.{◌++◌, ◌∷◌, [], rules, Ok}
use Rattle.std.proofs.lemmas.Map.Keys.{IsDistinct-from_sorted}
use Rattle.osm_model.specs.Elements.{ref_cmp, references}
use Rattle.opl_codec.proofs.ReferenceLists.{inserted_if_ok}
use Rattle.opl_codec.proofs.references.References.add.Goals as goal

pub returns-then-is_above : goal.returns-then-is_above
returns-then-is_above c =
    let rise = c.if-is_above.ensures (search rules) (rw c.in_default.is at c.requires.kept) in
    record { apart = IsDistinct-from_sorted ref_cmp (references c.args.objects.now ++ c.args.name ∷ []) rise; kept = rw c.in_default.is rise }

pub returns-in-Some : goal.returns-in-Some
returns-in-Some c = inserted_if_ok _ c.in-Some.kept c.insert.new.kept (references c.args.objects.now) c.args.name c.insert.result c.requires.apart (rw c.in-Some.is at c.requires.kept) c.insert.ensures.new c.insert.ensures.updates

pub returns : goal.returns
returns c = inserted_if_ok _ c.in_ok-kept.kept c.insert-2.new.kept (references c.args.objects.now) c.args.name (Ok c.in_ok-is_new.is_new) c.requires.apart c.in_ok-kept.ensures c.in_ok-is_new.ensures.new c.in_ok-is_new.ensures.updates
