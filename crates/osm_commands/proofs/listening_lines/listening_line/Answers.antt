use Rattle.std.proofs.Common.{◌≡◌, ◌∙◌, ℕ, List, length, IfOk, ap, subst}
use Rattle.std.specs.String.{string_bytes}
use Rattle.tree_node.specs.declared.digest.Digest.{Digest}
use Rattle.osm_commands.specs.ListeningLines.{listening_text}
use Rattle.osm_commands.proofs.listening_lines.listening_line.Goals as goal

pub returns : goal.returns
returns c = λ p holds.
    let count_is = c.in_ok-count.ensures p holds in
    let root_is = ap (λ (digest : Digest). digest.0) c.root.ensures ∙ holds.root in
    subst (λ (root : List ℕ). IfOk c.line_over.result (λ line. string_bytes line ≡ listening_text c.args.address (length p.objects) root)) root_is
    (subst (λ (count : ℕ). IfOk c.line_over.result (λ line. string_bytes line ≡ listening_text c.args.address count c.root.result.now.0)) count_is c.line_over.ensures)
