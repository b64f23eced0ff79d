use Rattle.std.proofs.Common.{◌≡◌, ℕ, List, append-nil, ◌∷◌, [], ◌∙◌, ap, sym, subst, arith, length, length-append, drop}
use Rattle.std.proofs.KnownBytes.{Consumes-trans}
use Rattle.std.proofs.lemmas.Result.{err_from_is_err_and}
use Rattle.byte_io.specs.Pieces.{pieces}
use Rattle.std.specs.Io.KnownBytes.{Consumes, prepend_known}
use Rattle.opl_codec.specs.declared.line_buffer.LineBuffer.{LineBuffer}
use Rattle.byte_io.specs.PieceReads.{PieceRead}
use Rattle.opl_codec.specs.LineReaders.{unread}
use Rattle.opl_codec.proofs.LineLemmas.{buffer_filled}
use Rattle.opl_codec.proofs.StepLemmas.{Comes, kept_line, kept_read, not_both, step_ended, step_last, step_long, step_unread}
use Rattle.opl_codec.proofs.line_buffer.LineBuffer.take_line.Goals as goal

pub returns-in-Some-clause-step : goal.returns-in-Some-clause-step
returns-in-Some-clause-step g c =
    let i = c.loop-len.invariant in
    let at = c.in-Some.ensures in
    let comes : Comes _ _ c.args.self.now c.loop-len.self = record { read = i.read; line = i.line; few = omega (arith, c.requires.sound.counted); fits = omega (arith, i.sound.counted); taken = i.taken; lines = i.lines; comment = i.comment } in
    step_ended _ _ _ _ c.take_ended.new.self comes at.0 at.1 c.in-Some.len c.take_ended.result at.2 at.3 at.4 c.take_ended.ensures.rest c.take_ended.ensures.same.0 c.take_ended.ensures.counted c.take_ended.ensures.read c.take_ended.ensures.comment c.take_ended.ensures.refused

pub returns-then-self-clause-step : goal.returns-then-self-clause-step
returns-then-self-clause-step g c =
    let i = c.loop-len.invariant in
    let s = c.take_last.ensures.same in
    let comes : Comes _ _ c.args.self.now c.loop-len.self = record { read = i.read; line = i.line; few = omega (arith, c.requires.sound.counted); fits = omega (arith, i.sound.counted); taken = i.taken; lines = i.lines; comment = i.comment } in
    let is : unread c.take_last.new.self ≡ unread c.loop-len.self = ap (λ (f : ℕ). drop f c.take_last.new.self.pieces.last) s.0 ∙ ap (λ (p : PieceRead). drop c.loop-len.self.from p.last) s.1 in
    step_last _ _ _ _ c.take_last.new.self comes c.take_last.result (i.sound.ended c.if-self.true) (i.end c.if-self.true) is s.2 (s.3 ∙ c.if-self.true) c.take_last.ensures.read c.take_last.ensures.comment c.take_last.ensures.refused

pub returns-in_err-keep_unread-clause-step : goal.returns-in_err-keep_unread-clause-step
returns-in_err-keep_unread-clause-step g c =
    let i = c.loop-len.invariant in
    let p = err_from_is_err_and c.from_residual.result c.from_residual.ensures.1 in
    let comes : Comes _ _ c.args.self.now c.loop-len.self = record { read = i.read; line = i.line; few = omega (arith, c.requires.sound.counted); fits = omega (arith, i.sound.counted); taken = i.taken; lines = i.lines; comment = i.comment } in
    rw (p.1, p.2) (step_long _ _ _ _ c.keep_unread.new.self comes _ c.in_default.ensures c.keep_unread.ensures.none c.keep_unread.ensures.same.1 c.in_err-keep_unread.ensures.refused)

pub loop-len-preserved : goal.loop-len-preserved
loop-len-preserved g c =
    let i = c.loop-len.invariant in
    let k = c.keep_unread.ensures in
    let kept = c.in_ok-keep_unread.ensures.kept in
    let now = c.in_ok-read_piece.ensures in
    let same = c.read_piece.ensures.same in
    let comes : Comes _ _ c.args.self.now c.loop-len.self = record { read = i.read; line = i.line; few = omega (arith, c.requires.sound.counted); fits = omega (arith, i.sound.counted); taken = i.taken; lines = i.lines; comment = i.comment } in
    let pending = sym (same.0 ∙ kept) in
    let read = kept_read _ _ _ _ c.keep_unread.new.self comes k.none in
    let filled = buffer_filled _ _ _ (unread c.read_piece.new.self) k.none now.read in
    record {
      read = subst (λ (t : List ℕ). Consumes (prepend_known (unread c.args.self.now) (g.R.Read.remaining c.args.reader.now)) (prepend_known (unread c.read_piece.new.self) (g.R.Read.remaining c.read_piece.new.reader)) t)
          (append-nil _ ∙ pending) (Consumes-trans _ _ _ _ [] read filled);
      line = subst (λ (t : List ℕ). pieces 10 t ≡ t ∷ []) pending (kept_line _ _ _ _ c.keep_unread.new.self comes c.in_default.ensures);
      sound = now.sound;
      taken = omega (arith, i.taken, k.same.1, now.counted.0, ap length pending, length-append c.loop-len.self.pending.items (unread c.loop-len.self));
      lines = same.1 ∙ (k.same.2 ∙ i.lines);
      comment = same.2 ∙ (k.same.4 ∙ i.comment);
      ended = λ was. absurd (not_both _ (ap (λ (b : LineBuffer). b.is_ended) (i.ended was).0 ∙ was) c.if-self.false);
      end = now.end;
    }

pub returns-in_err-read_piece-clause-step : goal.returns-in_err-read_piece-clause-step
returns-in_err-read_piece-clause-step g c =
    let i = c.loop-len.invariant in
    let k = c.keep_unread.ensures in
    let kept = c.in_ok-keep_unread.ensures.kept in
    let why = c.in_err-read_piece.ensures in
    let p = err_from_is_err_and c.from_residual-in_err-read_piece.result c.from_residual-in_err-read_piece.ensures.1 in
    let comes : Comes _ _ c.args.self.now c.loop-len.self = record { read = i.read; line = i.line; few = omega (arith, c.requires.sound.counted); fits = omega (arith, i.sound.counted); taken = i.taken; lines = i.lines; comment = i.comment } in
    let then : Comes _ _ c.args.self.now c.keep_unread.new.self = record {
      read = rw kept (kept_read _ _ _ _ c.keep_unread.new.self comes k.none);
      line = rw kept (kept_line _ _ _ _ c.keep_unread.new.self comes c.in_default.ensures);
      few = omega (arith, c.requires.sound.counted);
      fits = omega (arith, ap length k.none);
      taken = omega (arith, i.taken, k.same.1, ap length k.none, ap length kept, length-append c.loop-len.self.pending.items (unread c.loop-len.self));
      lines = k.same.2 ∙ i.lines;
      comment = k.same.4 ∙ i.comment;
    } in
    rw (p.1, p.2) (step_unread _ _ _ _ c.keep_unread.new.self c.read_piece.new.self then _ k.none why.kept.1 why.kept.0 why.kept.2 why.refused)
