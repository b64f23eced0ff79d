use Rattle.std.proofs.Common.{[], take}
use Rattle.ref_sets.specs.Adding.{Adds, From}
use Rattle.ql_plain.specs.internal.Founds.{IsTold}
use Rattle.ql_plain.specs.internal.Paths.{IsStep}
use Rattle.ql_plain.proofs.chains.reached.Given as goal

abbrev pub invariant-loop-name : goal.invariant-loop-name
invariant-loop-name l = record {
  told : IsTold l.found;
  adds : Adds [] l.found.refs.items (From (take l.name-index l.names) (IsStep l.steps));
}
