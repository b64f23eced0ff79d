use Rattle.std.proofs.Common.{IfOk, subst, sym}
use Rattle.ql_syntax.specs.declared.recursion.Recursion.{Recursion}
use Rattle.ref_sets.specs.Sets.{IsSetOf}
use Rattle.ql_meaning.specs.Values.{IsReached, IsRefOf}
use Rattle.ql_plain.proofs.recurse.recurse.Goals as goal

pub returns-in-Down : goal.returns-in-Down
returns-in-Down c = subst (λ (how : Recursion). IfOk c.down.result (λ refs. IsSetOf refs (IsRefOf c.args.set.now (IsReached c.args.set.now how c.args.from.now)))) (sym c.in-Down.is) c.down.ensures

pub returns-in-Up : goal.returns-in-Up
returns-in-Up c = subst (λ (how : Recursion). IfOk c.up.result (λ refs. IsSetOf refs (IsRefOf c.args.set.now (IsReached c.args.set.now how c.args.from.now)))) (sym c.in-Up.is) c.up.ensures

pub returns-in-DownAll : goal.returns-in-DownAll
returns-in-DownAll c = subst (λ (how : Recursion). IfOk c.down_all.result (λ refs. IsSetOf refs (IsRefOf c.args.set.now (IsReached c.args.set.now how c.args.from.now)))) (sym c.in-DownAll.is) c.down_all.ensures

pub returns-in-UpAll : goal.returns-in-UpAll
returns-in-UpAll c = subst (λ (how : Recursion). IfOk c.up_all.result (λ refs. IsSetOf refs (IsRefOf c.args.set.now (IsReached c.args.set.now how c.args.from.now)))) (sym c.in-UpAll.is) c.up_all.ensures
