use Rattle.std.proofs.Common.{sym, subst}
use Rattle.pack_assembly.specs.declared.fault.AssemblyFault.TheVariants.{Clash, Device}
use Rattle.pack_assembly.specs.declared.layout.Layout.{Layout}
use Rattle.pack_assembly.specs.internal.Order.{AreNodesOf}
use Rattle.pack_assembly.proofs.KnownLemmas.{laid_ready, long_first}
use Rattle.pack_assembly.proofs.LevelLemmas.{err_again, if_ok}
use Rattle.pack_assembly.proofs.PackLemmas.{too_long}
use Rattle.pack_assembly.proofs.pack.lay_out_apart.Goals as goal

pub returns-in-Ok-clause-ready : goal.returns-in-Ok-clause-ready
returns-in-Ok-clause-ready g c = λ true store holds p is are root rows first.
    let apart = c.in-Ok.ensures.apart true store holds p is are root rows in
    let nodes = subst (AreNodesOf p) (sym c.in-Ok.ensures.nodes) are.levels in
    if_ok c.lay_out.result (c.lay_out.ensures.laid true p is nodes) (λ layout laid.
    let done = laid_ready p c.args.trees.now (g.L.NodeLevels.nodes c.args.levels.now) c.args.first c.args.rows.now layout is are apart rows first laid in
    (done.ready, done.size))

pub returns-in-Ok-clause-too_long : goal.returns-in-Ok-clause-too_long
returns-in-Ok-clause-too_long g c = λ long true store holds p is are root rows first.
    let apart = c.in-Ok.ensures.apart true store holds p is are root rows in
    let nodes = subst (AreNodesOf p) (sym c.in-Ok.ensures.nodes) are.levels in
    too_long p is apart (long_first p c.args.first c.args.rows.now rows first (c.lay_out.ensures.too_long long true p is nodes))

pub returns-in-Err-clause-clash : goal.returns-in-Err-clause-clash
returns-in-Err-clause-clash g c = λ clash true store holds p is are root rows.
    c.in-Err.ensures.clash (err_again {A = Layout} {B = Unit {0}} c.in-Err.fault Clash clash) true store holds p is are root rows

pub returns-in-Ok-clause-device : goal.returns-in-Ok-clause-device
returns-in-Ok-clause-device g c = λ true refuses store sorts holds p is are root rows.
    c.lay_out.ensures.device true refuses p is (subst (AreNodesOf p) (sym c.in-Ok.ensures.nodes) are.levels)

pub returns-in-Err-clause-device : goal.returns-in-Err-clause-device
returns-in-Err-clause-device g c = λ true refuses store sorts holds p is are root rows told.
    c.in-Err.ensures.device true refuses store sorts holds p is are root rows (err_again {A = Layout} {B = Unit {0}} c.in-Err.fault Device told)
