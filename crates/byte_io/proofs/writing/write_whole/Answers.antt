use Rattle.std.proofs.Common.{◌≡◌, ◌-◌, arith, take, drop, length, rules}
use Rattle.std.proofs.lemmas.List.{take_all, length-drop}
use Rattle.std.proofs.Math.Seq.{take-add}
use Rattle.std.proofs.KnownBytes.{Appends-trans}
use Rattle.byte_io.proofs.writing.write_whole.Goals as goal

pub loop-done-preserved : goal.loop-done-preserved
loop-done-preserved g c =
    let (within, so_far) = c.loop-done.invariant in
    let text = c.args.text.now in
    let done = c.loop-done.done in
    let slice : take (length text - done) (drop done text) ≡ drop done text = take_all _ _ (omega (arith, length-drop done text)) in
    let more = Appends-trans _ _ _ _ _ so_far c.in-Ok.ensures.bytes in
    (search rules, rw (take-add done c.in-Ok.taken text, ← slice) more)
