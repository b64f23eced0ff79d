use Rattle.std.proofs.Common.{sym, subst}
use Rattle.std.specs.List.{All}
use Rattle.std.proofs.lemmas.List.Elements.{All-push}
use Rattle.osm_index.specs.internal.PrefixedEntries.{IsByFirstBytes}
use Rattle.osm_index.proofs.KeyOrderLemmas.{one_more}
use Rattle.osm_index.proofs.sort_entries.with_prefixes.Goals as goal

pub loop-entry-preserved : goal.loop-entry-preserved
loop-entry-preserved c = (one_more c.loop-entry.prefixed.items c.push.new.self.items c.by_first_bytes.result c.args.entries.now c.loop-entry.entry-index _ c.loop-entry-test.true c.in_ok-push.ensures.items c.loop-entry.invariant.0 c.by_first_bytes.ensures.item, subst (All IsByFirstBytes) (sym c.in_ok-push.ensures.items) (All-push IsByFirstBytes _ _ c.loop-entry.invariant.1 c.by_first_bytes.ensures.numbers))
