use Rattle.std.proofs.Common.{◌≡◌, ◌∙◌, ap, ◌++◌, ◌+◌, rules, arith, append_assoc, length, length-append, List, ℕ, [], take}
use Rattle.std.proofs.lemmas.List.{take_all}
use Rattle.http_messages.specs.ResponseParts.{body_of, parts_of}
use Rattle.http_messages.specs.ResponseTexts.{head_text, response_text}
use Rattle.http_messages.proofs.ResponseLemmas.{parts-fit}
use Rattle.http_messages.proofs.response.append_response.Goals as goal

pub unwrap-requires-in-loop-part : goal.unwrap-requires-in-loop-part
unwrap-requires-in-loop-part c =
    let parts = c.args.body.now in
    let written = c.extend_from_slice.new.self.items in
    let used : length c.loop-part.output.items ≡ length written + length (body_of (take c.loop-part.part-index parts)) =
    ap length c.loop-part.invariant.written ∙ length-append written (body_of (take c.loop-part.part-index parts)) in
    let fits = parts-fit parts c.loop-part.part-index (record { ref_ptr = (0, 0); now = [] }) c.loop-part-test.true in
    c.extend_from_slice-in-loop-part.ensures.succeeds (omega (arith, c.loop-part.output.ok.0, used, fits, c.loop-part.invariant.room))

pub returns-clause-text : goal.returns-clause-text
unfolding response_text
returns-clause-text c =
    let body = body_of c.args.body.now in
    let head = parts_of c.args.head.now in
    let old = c.args.output.now.items in
    let first : c.extend_from_slice.new.self.items ≡ old ++ head_text head c.in-Some.body_len = search rules in
    let all : take c.loop-part.part-index c.args.body.now ≡ c.args.body.now = take_all _ _ (omega (arith, c.loop-part-test.false)) in
    let second : c.loop-part.output.items ≡ c.extend_from_slice.new.self.items ++ body = rw all at c.loop-part.invariant.written in
    second ∙ ap (λ (t : List ℕ). t ++ body) first ∙ append_assoc old (head_text head c.in-Some.body_len) body
    ∙ ap (λ (n : ℕ). old ++ (head_text head n ++ body)) c.in-Some.ensures
