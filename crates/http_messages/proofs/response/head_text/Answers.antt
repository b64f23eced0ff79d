use Rattle.std.proofs.Common.{◌≡◌, ◌++◌, rules, codes}
use Rattle.std.specs.String.{string_bytes}
use Rattle.std.specs.Fmt.{decimal}
use Rattle.http_messages.specs.ResponseTexts.{field_line, line_end}
use Rattle.http_messages.proofs.ResponseLemmas.{joined}
use Rattle.http_messages.proofs.response.head_text.Goals as goal

pub returns : goal.returns
returns c =
    let number : c.as_str.result.now ≡ decimal c.args.body_len = search rules in
    let third : string_bytes c.push_field-2.new.text ≡ string_bytes c.push_field.new.text ++ field_line (codes "Content-Length") (decimal c.args.body_len) =
    rw number at c.in_ok-push_field-2.ensures in
    let last : string_bytes c.push_str.new.self ≡ string_bytes c.push_close.new.text ++ line_end = search rules in
    joined _ _ _ _ _ _ _ _ _ _ _ _ _ _ c.in_ok-text.ensures c.in_ok-push_field.ensures third c.in_ok-push_root.ensures c.in_ok-push_allow.ensures c.in_ok-push_close.ensures last
