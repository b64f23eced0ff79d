use Rattle.opl_codec.proofs.LineContents.{no_comment, skipped_is}
use Rattle.opl_codec.proofs.line_content.is_skipped.Goals as goal

pub returns : goal.returns
returns c = skipped_is c.args.line.now c.content_of-content.result.now c.blanks_len.result c.requires (no_comment c.args.line.now (λ h. let e = c.if-is_at.ensures.1 h in cc)) c.content_of-content.ensures c.blanks_len.ensures.within c.blanks_len.ensures.blanks c.blanks_len.ensures.stop
