use Rattle.std.proofs.Common.{ℕ, List, length, ap, subst, sym, arith}
use Rattle.std.specs.Str.{IsUtf8}
use Rattle.byte_io.specs.Pieces.{Lacks}
use Rattle.osm_keys.proofs.ReadLemmas.{lacks_no_nul, lacks_none, one_text}
use Rattle.osm_keys.proofs.read_keys.read_ended.Goals as goal

pub returns-in_err-text-clause-none : goal.returns-in_err-text-clause-none
returns-in_err-text-clause-none c = λ _ text rest is e. lacks_none text rest (subst (λ (l : List ℕ). Lacks 0 l) e c.in_err-text.ensures.parts)

pub returns-then-text-gt-TEXT_LIMIT-clause-none : goal.returns-then-text-gt-TEXT_LIMIT-clause-none
returns-then-text-gt-TEXT_LIMIT-clause-none c = λ _ text rest is e.
    let parts = c.in_ok-text.ensures.parts in
    let one = one_text c.args.bytes.now c.in_ok-text.text.now c.in_ok-text.rest.now text rest parts.0 (lacks_no_nul c.in_ok-text.text.now parts.1) is.no_nul e in
    let same = ap length one.0 in
    let short = is.short in
    let long = c.if-text-gt-TEXT_LIMIT.true in
    omega (arith, same, short, long)

pub returns-in-Err-clause-none : goal.returns-in-Err-clause-none
returns-in-Err-clause-none c = λ _ text rest is e.
    let parts = c.in_ok-text.ensures.parts in
    let one = one_text c.args.bytes.now c.in_ok-text.text.now c.in_ok-text.rest.now text rest parts.0 (lacks_no_nul c.in_ok-text.text.now parts.1) is.no_nul e in
    c.in-Err.ensures.cases.0 (subst IsUtf8 (sym one.0) is.utf8)

pub returns-in-Ok-clause-text : goal.returns-in-Ok-clause-text
returns-in-Ok-clause-text c = record {
  utf8 = c.in-Ok.ensures.cases.1;
  no_nul = lacks_no_nul c.in_ok-text.text.now c.in_ok-text.ensures.parts.1;
  short = c.if-text-gt-TEXT_LIMIT.false;
}
