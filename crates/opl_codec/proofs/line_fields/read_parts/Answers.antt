use Rattle.std.proofs.Common.{rules, ◌≡◌, ℕ, List, ◌-◌, ◌+◌, ◌∷◌, length, drop, sym, ap, subst}
use Rattle.std.proofs.lemmas.Result.{err_from_is_err_and}
use Rattle.osm_model.specs.CanonicalLine.{kind_letter}
use Rattle.opl_codec.specs.LineFields.{content}
use Rattle.opl_codec.specs.LineParts.{Says}
use Rattle.opl_codec.specs.internal.LineReads.{AreRead}
use Rattle.opl_codec.proofs.LineFields.{next_at, before_next}
use Rattle.opl_codec.proofs.LineNames.{further, all_read, has_name}
use Rattle.opl_codec.proofs.line_fields.read_parts.Goals as goal

pub returns-in_err-take-clause-refused : goal.returns-in_err-take-clause-refused
returns-in_err-take-clause-refused c =
    let p = err_from_is_err_and c.from_residual-in_err-take.result c.from_residual-in_err-take.ensures.1 in
    let line = c.args.line.now in
    let left = c.loop-next.left.now in
    let next = c.in-Some.next in
    let h = c.loop-next.invariant.1 in
    let name = c.in_ok-name.name in
    let byte = length c.args.text.now - length left + next.gap in
    let place : byte ≡ length (content line) - length left + next.gap = ap (λ (t : List ℕ). length t - length left + next.gap) c.requires.of_line in
    let there = next_at (content line) (kind_letter name.kind ∷ h.id_text) h.done left h.read next.gap next.field.now next.rest.now c.in-Some.ensures byte place in
    let before = before_next (content line) (kind_letter name.kind ∷ h.id_text) h.done left h.read next.gap next.field.now next.rest.now c.in-Some.ensures byte place in
    rw (p.1, p.2) (c.in_err-take.ensures.refused line there c.in_ok-name.ensures.begins (subst (λ d. Says d c.loop-next.parts) (sym (ap (λ (fs : List (List ℕ)). drop 1 fs) before)) h.says))

pub returns-in_err-take-clause-memory : goal.returns-in_err-take-clause-memory
returns-in_err-take-clause-memory c =
    let p = err_from_is_err_and c.from_residual-in_err-take.result c.from_residual-in_err-take.ensures.1 in
    rw p.1 (λ is. has_name c.args.line.now c.in_ok-name.name c.loop-next.parts c.loop-next.left.now c.in_ok-name.ensures.begins c.loop-next.invariant.1)

pub loop-next-preserved : goal.loop-next-preserved
loop-next-preserved c =
    let next = c.in-Some.next in
    let h = c.loop-next.invariant.1 in
    let name = c.in_ok-name.name in (
      search rules,
      further (content c.args.line.now) name c.loop-next.parts c.take.new.self c.loop-next.left.now next.gap next.field.now next.rest.now h c.in-Some.ensures (c.in_ok-take.ensures.ok h.done h.says),
    )

pub returns-clause-read : goal.returns-clause-read
returns-clause-read c =
    subst (λ t. AreRead t c.in_ok-name.name c.loop-next.parts) (sym c.requires.of_line)
    (all_read (content c.args.line.now) c.in_ok-name.name c.loop-next.parts c.loop-next.left.now c.loop-next.invariant.1 c.in_default.ensures)
