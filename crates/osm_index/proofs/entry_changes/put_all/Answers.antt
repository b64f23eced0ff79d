use Rattle.tree_build.specs.Rebuilding.{changes_of}
use Rattle.osm_index.proofs.EntryChangeLemmas.{put_more}
use Rattle.osm_index.proofs.entry_changes.put_all.Goals as goal

pub loop-entry-preserved : goal.loop-entry-preserved
loop-entry-preserved c =
    put_more (changes_of c.args.changes.now.items) c.loop-entry.changes.items c.push.new.self.items c.in_ok-put.field-0 c.args.entries.now c.loop-entry.entry-index _ c.loop-entry-test.true c.loop-entry.invariant c.in_ok-push.ensures.items c.in_ok-put.ensures
