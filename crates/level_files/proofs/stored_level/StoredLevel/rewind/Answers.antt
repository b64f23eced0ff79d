use Rattle.std.proofs.Common.{sym, subst}
use Rattle.level_files.specs.internal.Keeping.{IsReading}
use Rattle.level_files.specs.declared.node_reader.NodeReader.{NodeReader}
use Rattle.level_files.proofs.ReadingLemmas.{begun, ended_of}
use Rattle.level_files.proofs.stored_level.StoredLevel.rewind.Goals as goal

pub invariant_of-self : goal.invariant_of-self
invariant_of-self g c = record {
  goes_on = λ none. subst (λ (r : NodeReader _). IsReading g.S.RunStore.is_true c.self.inside.count r.size r.offset (g.S.RunStore.runs c.self.inside.rows) (g.S.RunStore.runs r.store) c.rewind-2.new.self c.rewind-3.new.self) (sym c.rewind.ensures)
      (begun g.S.RunStore.is_true c.self.inside.count c.self.inside.nodes.size _ _ c.rewind-2.new.self c.rewind-3.new.self
      (ended_of g.S.RunStore.is_true c.self.inside.count c.self.inside.nodes.size c.self.inside.nodes.offset _ _ c.self.inside.reader c.self.inside.measurer (c.self.invariant.goes_on none))
      c.rewind-2.ensures.passed c.rewind-2.ensures.at c.rewind-3.ensures.at);
  calm = c.self.invariant.calm;
}
