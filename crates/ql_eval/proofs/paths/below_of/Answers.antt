use Rattle.std.proofs.Common.{subst}
use Rattle.osm_model.specs.declared.kind.Kind.{Kind}
use Rattle.tree_node.proofs.shared.OutcomeLaws.{uses}
use Rattle.ql_eval.specs.internal.Kinds.{last_of}
use Rattle.ql_eval.proofs.PathLemmas.{BelowWell, below_of_needs, below_of_set, needs_below_of}
use Rattle.ql_eval.proofs.RecursionLemmas.{of_one}
use Rattle.ql_eval.proofs.GivenLemmas.{part_given}
use Rattle.ql_eval.proofs.TruthLemmas.{truly_same}
use Rattle.ql_eval.proofs.paths.below_of.Goals as goal

pub returns-clause-answer : goal.returns-clause-answer
returns-clause-answer g c = λ p is under there other.
    let set = c.args.set.now in
    let names = c.of_kinds-names.result.now in
    let from = c.args.«from» in
    let kind = c.args.kind in
    let are = of_one names set from c.of_kinds-names.ensures.members in
    let shelf = uses (g.W.Source.holds c.members_there.new.source) (g.W.Source.used c.args.source.now) (g.W.Source.used c.members_there.new.source) in
    let known = g.W.Source.under c.members_there.new.source p in
    let found = c.members_there.ensures.answer p is under (λ r among. there r ((are r).0 among).0) in
    truly_same (below_of_needs p set names from kind are) (λ refs so. needs_below_of p set names from kind are other) (λ refs. below_of_set p set names from kind are refs)
    (subst (λ (first : Kind). BelowWell p names first (last_of kind) known shelf c.members_there.result) c.first_kind.ensures (subst (λ (last : Kind). BelowWell p names c.first_kind.result last known shelf c.members_there.result) c.last_kind.ensures found))

pub members_there-requires : goal.members_there-requires
members_there-requires g c = part_given c.args.set.now c.of_kinds-names.result.now c.of_kinds-names.ensures c.requires
