use Rattle.std.proofs.Common.{sym, subst}
use Rattle.osm_model.specs.declared.kind.Kind.TheVariants as kinds
use Rattle.tree_node.proofs.shared.OutcomeLaws.{uses}
use Rattle.ql_syntax.specs.declared.path.Path.{Path}
use Rattle.ql_eval.proofs.PathLemmas.{PathWell, above_needs, above_set, needs_above}
use Rattle.ql_eval.proofs.RecursionLemmas.{of_one}
use Rattle.ql_eval.proofs.TruthLemmas.{truly_same}
use Rattle.ql_eval.proofs.paths.on_path.Goals as goal

pub returns-in-W-clause-answer : goal.returns-in-W-clause-answer
returns-in-W-clause-answer g c = λ p is under there.
    let shelf = uses (g.W.Source.holds c.below_of.new.source) (g.W.Source.used c.args.source.now) (g.W.Source.used c.below_of.new.source) in
    subst (λ (path : Path). PathWell p path c.args.set.now c.args.kind (g.W.Source.under c.below_of.new.source p) shelf c.below_of.result) (sym c.in-W.is) (c.below_of.ensures.answer p is under there (λ e. cc))

pub returns-in-R-clause-answer : goal.returns-in-R-clause-answer
returns-in-R-clause-answer g c = λ p is under there.
    let shelf = uses (g.W.Source.holds c.below_of-in-R.new.source) (g.W.Source.used c.args.source.now) (g.W.Source.used c.below_of-in-R.new.source) in
    subst (λ (path : Path). PathWell p path c.args.set.now c.args.kind (g.W.Source.under c.below_of-in-R.new.source p) shelf c.below_of-in-R.result) (sym c.in-R.is) (c.below_of-in-R.ensures.answer p is under there (λ e. cc))

pub returns-in-Bn-clause-answer : goal.returns-in-Bn-clause-answer
returns-in-Bn-clause-answer g c = λ p is under there.
    let set = c.args.set.now in
    let names = c.of_kinds.result.now in
    let are = of_one names set kinds.Node c.of_kinds.ensures.members in
    let shelf = uses (g.W.Source.holds c.referrers_of.new.source) (g.W.Source.used c.args.source.now) (g.W.Source.used c.referrers_of.new.source) in
    subst (λ (path : Path). PathWell p path set c.args.kind (g.W.Source.under c.referrers_of.new.source p) shelf c.referrers_of.result) (sym c.in-Bn.is)
    (truly_same (above_needs p set names kinds.Node c.args.kind are) (λ refs so. needs_above p set names kinds.Node c.args.kind are) (λ refs. above_set p set names kinds.Node c.args.kind are there refs) (c.referrers_of.ensures.answer p is under))

pub returns-in-Bw-clause-answer : goal.returns-in-Bw-clause-answer
returns-in-Bw-clause-answer g c = λ p is under there.
    let set = c.args.set.now in
    let names = c.of_kinds-in-Bw.result.now in
    let are = of_one names set kinds.Way c.of_kinds-in-Bw.ensures.members in
    let shelf = uses (g.W.Source.holds c.referrers_of-in-Bw.new.source) (g.W.Source.used c.args.source.now) (g.W.Source.used c.referrers_of-in-Bw.new.source) in
    subst (λ (path : Path). PathWell p path set c.args.kind (g.W.Source.under c.referrers_of-in-Bw.new.source p) shelf c.referrers_of-in-Bw.result) (sym c.in-Bw.is)
    (truly_same (above_needs p set names kinds.Way c.args.kind are) (λ refs so. needs_above p set names kinds.Way c.args.kind are) (λ refs. above_set p set names kinds.Way c.args.kind are there refs) (c.referrers_of-in-Bw.ensures.answer p is under))

pub returns-in-Br-clause-answer : goal.returns-in-Br-clause-answer
returns-in-Br-clause-answer g c = λ p is under there.
    let set = c.args.set.now in
    let names = c.of_kinds-in-Br.result.now in
    let are = of_one names set kinds.Rel c.of_kinds-in-Br.ensures.members in
    let shelf = uses (g.W.Source.holds c.referrers_of-in-Br.new.source) (g.W.Source.used c.args.source.now) (g.W.Source.used c.referrers_of-in-Br.new.source) in
    subst (λ (path : Path). PathWell p path set c.args.kind (g.W.Source.under c.referrers_of-in-Br.new.source p) shelf c.referrers_of-in-Br.result) (sym c.in-Br.is)
    (truly_same (above_needs p set names kinds.Rel c.args.kind are) (λ refs so. needs_above p set names kinds.Rel c.args.kind are) (λ refs. above_set p set names kinds.Rel c.args.kind are there refs) (c.referrers_of-in-Br.ensures.answer p is under))
