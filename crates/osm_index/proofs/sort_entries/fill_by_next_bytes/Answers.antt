use Rattle.std.proofs.Common.{sym, subst}
use Rattle.std.specs.List.{All}
use Rattle.std.proofs.lemmas.List.Elements.{All-push}
use Rattle.osm_index.specs.internal.PrefixedEntries.{IsByNextBytes}
use Rattle.osm_index.proofs.KeyOrderLemmas.{one_more_of}
use Rattle.osm_index.proofs.sort_entries.fill_by_next_bytes.Goals as goal

pub loop-entry-preserved : goal.loop-entry-preserved
loop-entry-preserved c = (one_more_of c.loop-entry.buffer.items c.push.new.self.items c.by_next_bytes.result c.args.run.now c.loop-entry.entry-index _ c.loop-entry-test.true c.in_ok-push.ensures.items c.loop-entry.invariant.0 c.by_next_bytes.ensures.item, subst (All IsByNextBytes) (sym c.in_ok-push.ensures.items) (All-push IsByNextBytes _ _ c.loop-entry.invariant.1 c.by_next_bytes.ensures.numbers))
