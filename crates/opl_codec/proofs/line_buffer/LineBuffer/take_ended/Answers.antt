use Rattle.std.proofs.Common.{arith, ◌≡◌, ℕ, List, ◌-◌, ◌+◌, ◌⊎◌, ◌++◌, ap, ◌∙◌, drop, IfErr, IfOk, Option, subst, take}
use Rattle.opl_codec.specs.LineReads.{IsRefused, no_memory}
use Rattle.opl_codec.specs.declared.change.Change.{Change}
use Rattle.opl_codec.specs.declared.line_buffer.Step.TheVariants as steps
use Rattle.opl_codec.specs.LineReaders.{unread}
use Rattle.std.specs.Prelude.{OnOk}
use Rattle.opl_codec.specs.internal.Buffering.{SaysOrSkipped, comment_after}
use Rattle.opl_codec.proofs.StepLemmas.{told_of}
use Rattle.opl_codec.proofs.line_buffer.LineBuffer.take_ended.Goals as goal

pub returns-clause-read : goal.returns-clause-read
returns-clause-read c =
    let from = c.args.self.now.from in
    let len : from + c.args.len - from ≡ c.args.len = omega arith in
    let end : take (from + c.args.len - from) (drop from c.last.result.now) ≡ take c.args.len (unread c.args.self.now) =
    ap (λ (n : ℕ). take n (drop from c.last.result.now)) len ∙ ap (λ (bytes : List ℕ). take c.args.len (drop from bytes)) c.last.ensures in
    subst (λ (text : List ℕ). IfOk c.read_numbered.result (λ step. (found : Option Change) × (step ≡ steps.Line found) × SaysOrSkipped (c.args.self.now.pending.items ++ text) found)) end c.read_numbered.ensures.read

pub returns-clause-refused : goal.returns-clause-refused
returns-clause-refused c =
    let from = c.args.self.now.from in
    let len : from + c.args.len - from ≡ c.args.len = omega arith in
    let end : take (from + c.args.len - from) (drop from c.last.result.now) ≡ take c.args.len (unread c.args.self.now) =
    ap (λ (n : ℕ). take n (drop from c.last.result.now)) len ∙ ap (λ (bytes : List ℕ). take c.args.len (drop from bytes)) c.last.ensures in
    subst (λ (text : List ℕ). IfErr c.read_numbered.result (λ load. (load ≡ no_memory) ⊎ ((load.line ≡ c.args.self.now.lines + 1) × IsRefused (c.args.self.now.pending.items ++ text) load.fault))) end c.read_numbered.ensures.refused

pub returns-clause-told : goal.returns-clause-told
returns-clause-told c = told_of _ _ c.read_numbered.ensures.told

pub returns-clause-comment : goal.returns-clause-comment
returns-clause-comment c =
    let from = c.args.self.now.from in
    let len : from + c.args.len - from ≡ c.args.len = omega arith in
    let end : take (from + c.args.len - from) (drop from c.last.result.now) ≡ take c.args.len (unread c.args.self.now) =
    ap (λ (n : ℕ). take n (drop from c.last.result.now)) len ∙ ap (λ (bytes : List ℕ). take c.args.len (drop from bytes)) c.last.ensures in
    subst (λ (text : List ℕ). OnOk c.read_numbered.result (c.read_numbered.new.comment.items ≡ comment_after c.args.self.now.comment.items (c.args.self.now.pending.items ++ text))) end c.read_numbered.ensures.comment
