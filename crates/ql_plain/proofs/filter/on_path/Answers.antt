use Rattle.std.proofs.Common.{IfOk, subst, sym}
use Rattle.ql_syntax.specs.declared.path.Path.{Path}
use Rattle.ref_sets.specs.Sets.{IsSetOf}
use Rattle.ql_meaning.specs.Values.{IsOnPath, IsRefOf}
use Rattle.ql_plain.proofs.filter.on_path.Goals as goal

pub returns-in-W : goal.returns-in-W
returns-in-W c = subst (λ (path : Path). IfOk c.below.result (λ refs. IsSetOf refs (IsRefOf c.args.set.now (IsOnPath c.args.set.now c.args.from.now path)))) (sym c.in-W.is) c.below.ensures

pub returns-in-R : goal.returns-in-R
returns-in-R c = subst (λ (path : Path). IfOk c.below-in-R.result (λ refs. IsSetOf refs (IsRefOf c.args.set.now (IsOnPath c.args.set.now c.args.from.now path)))) (sym c.in-R.is) c.below-in-R.ensures

pub returns-in-Bn : goal.returns-in-Bn
returns-in-Bn c = subst (λ (path : Path). IfOk c.above.result (λ refs. IsSetOf refs (IsRefOf c.args.set.now (IsOnPath c.args.set.now c.args.from.now path)))) (sym c.in-Bn.is) c.above.ensures

pub returns-in-Bw : goal.returns-in-Bw
returns-in-Bw c = subst (λ (path : Path). IfOk c.above-in-Bw.result (λ refs. IsSetOf refs (IsRefOf c.args.set.now (IsOnPath c.args.set.now c.args.from.now path)))) (sym c.in-Bw.is) c.above-in-Bw.ensures

pub returns-in-Br : goal.returns-in-Br
returns-in-Br c = subst (λ (path : Path). IfOk c.above-in-Br.result (λ refs. IsSetOf refs (IsRefOf c.args.set.now (IsOnPath c.args.set.now c.args.from.now path)))) (sym c.in-Br.is) c.above-in-Br.ensures
