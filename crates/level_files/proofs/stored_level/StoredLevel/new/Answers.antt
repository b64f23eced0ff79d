use Rattle.std.proofs.Common.{sym, subst}
use Rattle.level_files.specs.internal.Keeping.{IsReading}
use Rattle.level_files.specs.declared.node_reader.NodeReader.{NodeReader}
use Rattle.level_files.proofs.ReadingLemmas.{begun}
use Rattle.level_files.proofs.stored_level.StoredLevel.new.Goals as goal

pub invariant_of-result : goal.invariant_of-result
invariant_of-result g c = record {
  goes_on = λ _. subst (λ (r : NodeReader _). IsReading g.S.RunStore.is_true c.args.count r.size r.offset (g.S.RunStore.runs c.args.rows) (g.S.RunStore.runs r.store) c.new-2.result c.new-3.result) (sym c.new.ensures)
      (begun g.S.RunStore.is_true c.args.count c.args.size _ _ c.new-2.result c.new-3.result c.requires c.new-2.ensures.passed c.new-2.ensures.at c.new-3.ensures.at);
  calm = λ _ _ e. (cc);
}
