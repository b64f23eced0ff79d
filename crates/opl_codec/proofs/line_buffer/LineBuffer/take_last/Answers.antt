use Rattle.std.proofs.Common.{◌≡◌, ◌+◌, ◌⊎◌, List, ℕ, IfErr, append-nil, subst}
use Rattle.std.specs.Prelude.{OnOk}
use Rattle.opl_codec.specs.LineReads.{IsRefused, no_memory}
use Rattle.opl_codec.specs.internal.Buffering.{comment_after}
use Rattle.opl_codec.proofs.StepLemmas.{last_said, told_of}
use Rattle.opl_codec.proofs.line_buffer.LineBuffer.take_last.Goals as goal

pub returns-clause-read : goal.returns-clause-read
returns-clause-read c = last_said _ _ _ c.read_numbered.ensures.read

pub returns-clause-refused : goal.returns-clause-refused
returns-clause-refused c =
    subst (λ (text : List ℕ). IfErr c.read_numbered.result (λ load. (load ≡ no_memory) ⊎ ((load.line ≡ c.args.self.now.lines + 1) × IsRefused text load.fault))) (append-nil c.args.self.now.pending.items) c.read_numbered.ensures.refused

pub returns-clause-told : goal.returns-clause-told
returns-clause-told c = told_of _ _ c.read_numbered.ensures.told

pub returns-clause-comment : goal.returns-clause-comment
returns-clause-comment c =
    subst (λ (text : List ℕ). OnOk c.read_numbered.result (c.read_numbered.new.comment.items ≡ comment_after c.args.self.now.comment.items text)) (append-nil c.args.self.now.pending.items) c.read_numbered.ensures.comment
