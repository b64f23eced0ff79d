use Rattle.std.proofs.Common.{◌∙◌, ap, sym, List, ℕ, ◌∷◌, ◌++◌, ◌+◌, codes, drop}
use Rattle.std.specs.Prelude.{map}
use Rattle.httparse.specs.Spans.{header_bytes}
use Rattle.http_messages.specs.Fields.{values_named, same_name}
use Rattle.http_messages.proofs.shared.FieldLemmas.{named-no, named-yes, found_values, found-none}
use Rattle.http_messages.proofs.fields.content_length.Goals as goal
use Rattle.http_messages.proofs.fields.content_length.Goals.{then-is_same_name+else-is_some, else-is_same_name}

pub loop-header-preserved : goal.loop-header-preserved
loop-header-preserved c =
    let name = codes "content-length" in
    let bytes = c.args.head.now in
    let headers = c.args.headers.now in
    let i = c.loop-header.header-index in
    let tested = c.is_same_name.ensures ∙ ap (λ (t : List ℕ). same_name t name) c.of.ensures in
    let left = values_named name (map (header_bytes bytes) (drop i headers)) in
    let later = values_named name (map (header_bytes bytes) (drop (i + 1) headers)) in
    elim c.if-is_same_name.branch [
      | then-is_same_name+else-is_some w ↦
          let more = named-yes name bytes headers i c.loop-header-test.true (sym tested ∙ w.if-is_same_name.true) in
          rw w.found-is (
          c.loop-header.invariant ∙ ap (λ (t : List (List ℕ)). t ++ left) (found-none c.loop-header.found (w.if-is_some.ensures))
          ∙ more ∙ ap (λ (v : List ℕ). v ∷ later) (sym w.of-then-is_same_name.ensures))
      | else-is_same_name w ↦
          let more = named-no name bytes headers i c.loop-header-test.true (sym tested ∙ w.if-is_same_name.false) in
          rw w.found-is (c.loop-header.invariant ∙ ap (λ (t : List (List ℕ)). found_values c.loop-header.found ++ t) more)
    ]
