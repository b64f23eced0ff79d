use Rattle.std.proofs.Common.{[], take}
use Rattle.ql_syntax.specs.StatementViews.{filter_of}
use Rattle.ref_sets.specs.Adding.{Adds, From}
use Rattle.ql_meaning.specs.ObjectTests.{PassesAlone}
use Rattle.ql_plain.proofs.Selecting.{IsOf}
use Rattle.ql_plain.proofs.filter.passing.Given as goal

abbrev pub invariant-loop-object : goal.invariant-loop-object
invariant-loop-object l = Adds [] l.refs.items (From (take l.object-index l.objects) (IsOf (λ o. PassesAlone (filter_of l.filter) o)))
