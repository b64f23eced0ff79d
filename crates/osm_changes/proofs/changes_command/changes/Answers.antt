use Rattle.std.proofs.Common.{◌∙◌}
use Rattle.osm_changes.proofs.ChangingLemmas.{device_only, explained_device, explained_unmade, explained_unread, explained_untaken, outside_device, outside_unmade, outside_unread, outside_untaken, unwritten, written_begun, written_whole}
use Rattle.osm_commands.proofs.FileLemmas.{unread}
use Rattle.osm_changes.proofs.changes_command.changes.Goals as goal

pub returns-in_err-snapshot-clause-only : goal.returns-in_err-snapshot-clause-only
returns-in_err-snapshot-clause-only g c =
    outside_untaken (g.R.Read.remaining c.args.input.now) (g.C.Read.remaining c.args.change_file.now) c.args.sequence c.in_err-snapshot.field-0.0 c.from_residual.result c.from_residual.ensures.1 c.in_err-snapshot.ensures.only

pub returns-in_err-snapshot-clause-refused : goal.returns-in_err-snapshot-clause-refused
returns-in_err-snapshot-clause-refused g c =
    explained_untaken (g.R.Read.remaining c.args.input.now) _ (g.C.Read.remaining c.args.change_file.now) c.args.sequence c.in_err-snapshot.field-0.0 c.from_residual.result c.from_residual.ensures.1
    c.in_err-snapshot.ensures.refused

pub returns-in_err-snapshot-clause-begun : goal.returns-in_err-snapshot-clause-begun
returns-in_err-snapshot-clause-begun g c =
    unwritten (g.R.Read.remaining c.args.input.now) (g.C.Read.remaining c.args.change_file.now) c.args.sequence (g.F.Write.contents c.args.announced.now) (g.W.Write.contents c.args.output.now)

pub returns-in_err-text-clause-only : goal.returns-in_err-text-clause-only
returns-in_err-text-clause-only g c =
    outside_unread (g.R.Read.remaining c.args.input.now) (g.C.Read.remaining c.args.change_file.now) c.args.sequence c.from_residual-in_err-text.result
    (unread c.from_residual-in_err-text.result c.in_err-text.field-0.0 c.from_residual-in_err-text.ensures.1 c.in_err-text.ensures.refused)

pub returns-in_err-text-clause-refused : goal.returns-in_err-text-clause-refused
returns-in_err-text-clause-refused g c =
    explained_unread (g.R.Read.remaining c.args.input.now) _ (g.C.Read.remaining c.args.change_file.now) c.args.sequence c.in_err-text.field-0.0 c.from_residual-in_err-text.result c.from_residual-in_err-text.ensures.1
    c.in_err-text.ensures.refused c.in_ok-snapshot.ensures.trees c.in_err-text.ensures.endless

pub returns-in_err-text-clause-begun : goal.returns-in_err-text-clause-begun
returns-in_err-text-clause-begun g c =
    unwritten (g.R.Read.remaining c.args.input.now) (g.C.Read.remaining c.args.change_file.now) c.args.sequence (g.F.Write.contents c.args.announced.now) (g.W.Write.contents c.args.output.now)

pub returns-in_err-made-clause-only : goal.returns-in_err-made-clause-only
returns-in_err-made-clause-only g c =
    let (p, held, of_file) = c.in_ok-snapshot.ensures.made in
    outside_unmade (g.R.Read.remaining c.args.input.now) (g.C.Read.remaining c.args.change_file.now) c.args.sequence p c.in_ok-text.text.items c.in_err-made.field-0.0 c.from_residual-in_err-made.result
    c.from_residual-in_err-made.ensures.1 of_file c.in_ok-text.ensures.read (λ all are. c.in_err-made.ensures.only p held all are)

pub returns-in_err-made-clause-refused : goal.returns-in_err-made-clause-refused
returns-in_err-made-clause-refused g c =
    let (p, held, of_file) = c.in_ok-snapshot.ensures.made in
    explained_unmade (g.R.Read.remaining c.args.input.now) _ (g.C.Read.remaining c.args.change_file.now) c.args.sequence p c.in_ok-text.text.items c.in_err-made.field-0.0 c.from_residual-in_err-made.result
    c.from_residual-in_err-made.ensures.1 of_file c.in_ok-snapshot.ensures.trees c.in_ok-text.ensures.read (c.in_err-made.ensures.refused p held)

pub returns-in_err-made-clause-begun : goal.returns-in_err-made-clause-begun
returns-in_err-made-clause-begun g c =
    unwritten (g.R.Read.remaining c.args.input.now) (g.C.Read.remaining c.args.change_file.now) c.args.sequence (g.F.Write.contents c.args.announced.now) (g.W.Write.contents c.args.output.now)

pub returns-clause-written : goal.returns-clause-written
returns-clause-written g c =
    let (p, held, of_file) = c.in_ok-snapshot.ensures.made in
    let (q, given, line, line_is) = c.in_ok-made.ensures.made p held in
    written_whole (g.R.Read.remaining c.args.input.now) (g.C.Read.remaining c.args.change_file.now) c.args.sequence p q c.in_ok-text.text.items c.in_ok-made.made.text.items c.deref.result.now c.as_bytes.result.now
    _ _ _ _ c.write_in_turn.result of_file c.in_ok-text.ensures.read given line c.deref.ensures.value (c.as_bytes.ensures.value ∙ line_is) c.write_in_turn.ensures.whole

pub returns-clause-only : goal.returns-clause-only
returns-clause-only g c =
    outside_device (g.R.Read.remaining c.args.input.now) (g.C.Read.remaining c.args.change_file.now) c.args.sequence c.write_in_turn.result c.write_in_turn.ensures.device

pub returns-clause-refused : goal.returns-clause-refused
returns-clause-refused g c =
    explained_device (g.R.Read.remaining c.args.input.now) _ (g.C.Read.remaining c.args.change_file.now) c.args.sequence c.write_in_turn.result c.write_in_turn.ensures.device

pub returns-clause-nothing : goal.returns-clause-nothing
returns-clause-nothing g c = device_only _ c.write_in_turn.result c.write_in_turn.ensures.device

pub returns-clause-begun : goal.returns-clause-begun
returns-clause-begun g c =
    let (p, held, of_file) = c.in_ok-snapshot.ensures.made in
    let (q, given, line, line_is) = c.in_ok-made.ensures.made p held in
    written_begun (g.R.Read.remaining c.args.input.now) (g.C.Read.remaining c.args.change_file.now) c.args.sequence p q c.in_ok-text.text.items c.in_ok-made.made.text.items c.deref.result.now c.as_bytes.result.now
    _ _ of_file c.in_ok-text.ensures.read given line c.deref.ensures.value (c.as_bytes.ensures.value ∙ line_is) c.write_in_turn.ensures.begun
