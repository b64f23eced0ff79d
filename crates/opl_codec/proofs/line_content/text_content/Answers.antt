use Rattle.std.proofs.Common.{sym, ◌∙◌, ap, lit<}
use Rattle.std.proofs.lemmas.Str.Pattern.{strip_suffix_char}
use Rattle.opl_codec.specs.LineFields.{content}
use Rattle.opl_codec.proofs.LineContents.{content_front, content_other}
use Rattle.opl_codec.proofs.line_content.text_content.Goals as goal

pub returns-in-Some : goal.returns-in-Some
returns-in-Some c =
    let text_is = rw c.in-Some.is at (strip_suffix_char 13 c.args.text.now c.strip_suffix.result c.strip_suffix.ensures.cases (lit< tt)) in
    sym (ap content text_is ∙ content_front c.in-Some.content.now)

pub returns-in-None : goal.returns-in-None
returns-in-None c = sym (content_other c.args.text.now (rw c.in-None.is at (strip_suffix_char 13 c.args.text.now c.strip_suffix.result c.strip_suffix.ensures.cases (lit< tt))))
