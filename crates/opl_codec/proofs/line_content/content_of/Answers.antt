use Rattle.std.proofs.Common.{◌-◌, length, sym, arith}
use Rattle.opl_codec.proofs.shared.ReadLiterals.{not_empty}
use Rattle.opl_codec.proofs.LineContents.{content_cut, content_whole, some_len}
use Rattle.opl_codec.proofs.line_content.content_of.Goals as goal

pub returns-then-line-last-eq13 : goal.returns-then-line-last-eq13
returns-then-line-last-eq13 c =
    let line = c.args.line.now in
    let some = some_len line (not_empty _ _ c.is_empty.ensures c.if-is_empty.false) in
    sym (content_cut line (length line - 1) (omega (arith, some)) c.if-line-last-eq13.true)

pub returns : goal.returns
returns c =
    let line = c.args.line.now in
    let some = some_len line (not_empty _ _ c.is_empty.ensures c.if-is_empty.false) in
    sym (content_whole line (length line - 1) (omega (arith, some)) c.if-line-last-eq13.false)
