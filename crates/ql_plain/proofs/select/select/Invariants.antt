use Rattle.std.proofs.Common.{take}
use Rattle.ql_syntax.specs.StatementViews.{filters_of}
use Rattle.ref_sets.specs.NamedSets.{lists_of}
use Rattle.ref_sets.specs.Sets.{IsSetOf}
use Rattle.ql_meaning.specs.Values.{IsRefOf, IsSelected}
use Rattle.ql_plain.proofs.select.select.Given as goal

abbrev pub invariant-loop-filter : goal.invariant-loop-filter
invariant-loop-filter l = IsSetOf l.refs (IsRefOf l.set (IsSelected l.set (lists_of l.sets.named.items) l.fn.kind (filters_of (take l.filter-index l.filters))))
