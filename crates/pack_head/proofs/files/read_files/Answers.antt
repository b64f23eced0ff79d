use Rattle.std.proofs.Common.{◌∙◌, ◌++◌, ◌≡◌, ap, arith, length, List, [], ℕ, map, subst}
use Rattle.pack_head.specs.Heads.{file_line}
use Rattle.pack_head.specs.Lines.{IsFileLine}
use Rattle.pack_head.specs.internal.Left.{lines_in}
use Rattle.pack_head.proofs.StepLemmas.{failed, missing_file, wrong_file}
use Rattle.pack_head.proofs.files.read_files.Goals as goal

pub returns-in-None-clause-refused : goal.returns-in-None-clause-refused
returns-in-None-clause-refused c =
    let kept = c.loop-line.invariant in
    let files = c.loop-line.files in
    let line = c.in-Some.line.now in
    let count : c.len-in-Some.result ≡ length files.items = omega (arith, c.len-in-Some.ensures, files.ok.0) in
    wrong_file (lines_in c.args.lines) (lines_in c.take_line.new.self) files.items _ kept.fit kept.few (omega (arith, c.len-in-None.ensures, files.ok.0))
    line (kept.read ∙ ap (λ (ls : List (List ℕ)). map file_line files.items ++ ls) c.in-Some.ensures)
    (subst (λ (n : ℕ). ¬ (IsFileLine n line)) count c.in-None.ensures)
    (λ end. failed _ _ c.is_end.ensures c.if-is_end.false (omega (arith, end.after_file, c.len.ensures, files.ok.0), end.nothing, end.last))

pub returns-clause-refused : goal.returns-clause-refused
returns-clause-refused c =
    let kept = c.loop-line.invariant in
    missing_file (lines_in c.args.lines) [] c.loop-line.files.items _ kept.fit kept.few (omega (arith, c.len-2.ensures, c.loop-line.files.ok.0))
    (kept.read ∙ ap (λ (ls : List (List ℕ)). map file_line c.loop-line.files.items ++ ls) c.in_default.ensures.0)
