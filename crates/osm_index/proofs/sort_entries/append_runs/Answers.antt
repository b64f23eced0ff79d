use Rattle.std.proofs.Common.{◌≡◌, ◌-◌, List, arith, drop, length, subst, take}
use Rattle.std.proofs.lemmas.List.{drop-drop, length-drop, take_all}
use Rattle.osm_index.specs.internal.PrefixedEntries.{IsRun, items_of}
use Rattle.osm_index.specs.internal.KeyOrder.{AppendsInOrder, HaveOneStart}
use Rattle.osm_index.specs.declared.prefixed_entry.PrefixedEntry.{PrefixedEntry}
use Rattle.osm_index.proofs.KeyOrderLemmas.{IsSoFar, begins, goes_on}
use Rattle.osm_index.proofs.sort_entries.append_runs.Goals as goal

pub runs-init : goal.runs-init
runs-init c = (omega arith, λ first. begins c.args.prefixed.now c.args.entries.now.items)

pub runs-preserved : goal.runs-preserved
runs-preserved c =
    let all = c.args.prefixed.now in
    let start = c.runs.start in
    let len = c.run_len-len.result in
    let whole : take (length all - start) (drop start all) ≡ drop start all = take_all (length all - start) (drop start all) (omega (arith, length-drop start all)) in
    let is_run : IsRun (drop start all) len = subst (λ (rest : List PrefixedEntry). IsRun rest len) whole c.run_len-len.ensures in
    let mid = c.runs.entries.items in
    let after = c.append_run.new.entries.items in
    let appends : HaveOneStart (take len (drop start all)) → AppendsInOrder (items_of (take len (drop start all))) mid after =
    subst (λ (rest : List PrefixedEntry). HaveOneStart (take len rest) → AppendsInOrder (items_of (take len rest)) mid after) whole c.in_ok-append_run.ensures in (
      omega (arith, length-drop start all, is_run.within, c.runs.invariant.0),
      λ first.
          let so = goes_on all (drop start all) len c.args.entries.now.items mid after c.requires first (c.runs.invariant.1 first) is_run appends in
          subst (λ rest. IsSoFar all rest c.args.entries.now.items after) (drop-drop len start all) so,
    )
