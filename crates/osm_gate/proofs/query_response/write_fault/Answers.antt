use Rattle.std.proofs.Common.{subst, sym}
use Rattle.std.specs.Prelude.{OnOk}
use Rattle.osm_gate.specs.declared.mirror_fault.MirrorFault.{MirrorFault}
use Rattle.osm_gate.specs.internal.Adding.{AddsFault}
use Rattle.osm_gate.proofs.query_response.write_fault.Goals as goal

pub returns-in-Work : goal.returns-in-Work
returns-in-Work c =
    subst (λ (f : MirrorFault). OnOk c.write_refusal-in-Work.result (AddsFault c.args.closes f c.args.output.now c.write_refusal-in-Work.new.output)) (sym c.in-Work.is)
    c.write_refusal-in-Work.ensures

pub returns-in-Device : goal.returns-in-Device
returns-in-Device c =
    subst (λ (f : MirrorFault). OnOk c.write_refusal-in-Device.result (AddsFault c.args.closes f c.args.output.now c.write_refusal-in-Device.new.output)) (sym c.in-Device.is)
    c.write_refusal-in-Device.ensures
