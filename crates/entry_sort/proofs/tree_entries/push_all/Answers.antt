use Rattle.std.proofs.Common.{rules, ◌≡◌, Err, ap}
use Rattle.entry_sort.proofs.PushLemmas.{not_long, one_more}
use Rattle.external_sort.specs.declared.fault.SortFault.TheVariants.{TooLong}
use Rattle.entry_sort.proofs.tree_entries.push_all.Goals as goal

pub returns-in_err-push-clause-short : goal.returns-in_err-push-clause-short
returns-in_err-push-clause-short g c fit =
    let no : c.in_err-push.field-0.0 ≡ TooLong → ⊥ = λ e. not_long c.args.entries.now c.loop-entry.entry-index _ c.loop-entry-test.true fit (c.in_err-push.ensures.short (ap Err e)) in
    search rules
