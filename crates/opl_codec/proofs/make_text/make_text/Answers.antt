use Rattle.std.proofs.Common.{◌≡◌, ◌<◌, ◌+◌, ℕ, List, [], length, take, drop, get_or, arith, sym, ap, subst, ◌∙◌}
use Rattle.std.specs.Prelude.{string_bytes}
use Rattle.std.specs.Str.Parse.{digits_value}
use Rattle.std.proofs.lemmas.Result.{IfOk-weaker}
use Rattle.std.proofs.lemmas.Str.{IsCharBoundary-after_ascii}
use Rattle.opl_codec.specs.Texts.{IsEscape, SpellsText, BeginsEscape}
use Rattle.opl_codec.proofs.TextsJoined.{all_literal, first_escape, one_step}
use Rattle.opl_codec.proofs.TextsMade.{first_mark, no_mark, no_mark_found, means_more, means_all, front_is}
use Rattle.opl_codec.proofs.make_text.make_text.Goals as goal

pub returns-then-is_none : goal.returns-then-is_none
returns-then-is_none c =
    let spelled = c.args.spelled.now in
    let none = no_mark_found c.as_bytes.result.now spelled c.memchr.result c.as_bytes.ensures.value c.if-is_none.ensures c.memchr.ensures in
    IfOk-weaker c.from_str.result (λ text. text ≡ spelled) (SpellsText spelled) (λ text same. subst (SpellsText spelled) (sym same) (all_literal spelled c.requires none)) c.from_str.ensures

pub loop-len-init : goal.loop-len-init
loop-len-init c =
    let none : string_bytes c.in_ok-text.text ≡ [] = c.in_ok-text.ensures.bytes in
    record { utf8 = c.utf8.spelled; left = c.requires; means = λ t h. rw none h }

pub range_from-escape-requires : goal.range_from-escape-requires
range_from-escape-requires c = λ _.
    let text = c.loop-len.rest.now in
    let mark = first_mark c.as_bytes-in-loop-len.result.now text c.in-Some.len c.as_bytes-in-loop-len.ensures.value c.in-Some.ensures in
    let ascii : get_or text c.in-Some.len 0 < 128 = omega (arith, mark.here) in
    IsCharBoundary-after_ascii text c.in-Some.len c.loop-len.invariant.utf8 mark.within ascii

pub unreachable-requires : goal.unreachable-requires
unreachable-requires c =
    let text = c.loop-len.rest.now in
    let mark = first_mark c.as_bytes-in-loop-len.result.now text c.in-Some.len c.as_bytes-in-loop-len.ensures.value c.in-Some.ensures in
    let begins = first_escape text c.in-Some.len c.loop-len.invariant.left mark.within mark.here mark.none in
    let same : c.as_bytes-in-Some.result.now ≡ drop (c.in-Some.len + 1) text = c.as_bytes-in-Some.ensures.value ∙ c.range_from-escape.ensures.value in
    subst (λ s. BeginsEscape s → ⊥) same c.in_default-read_escape.ensures (begins.digits, begins.rest, begins.parts, begins.escape)

pub range_from-rest-requires : goal.range_from-rest-requires
range_from-rest-requires c = λ _.
    let after = c.range_from-escape.result.now in
    let digits = c.in-Some-read_escape.digits in
    let P : List ℕ → Type 0 = λ s. (digits < length s) × (get_or s digits 0 ≡ 37) × IsEscape (take digits s) × (digits_value 16 (take digits s) ≡ c.in-Some-read_escape.character) in
    let found : P after = subst P c.as_bytes-in-Some.ensures.value c.in-Some-read_escape.ensures in
    let ascii : get_or after digits 0 < 128 = omega (arith, found.1) in
    IsCharBoundary-after_ascii after digits c.range_from-escape.utf8 found.0 ascii

pub loop-len-preserved : goal.loop-len-preserved
loop-len-preserved c =
    let text = c.loop-len.rest.now in
    let after = c.range_from-escape.result.now in
    let rest = c.range_from-rest.result.now in
    let digits = c.in-Some-read_escape.digits in
    let len = c.in-Some.len in
    let mark = first_mark c.as_bytes-in-loop-len.result.now text len c.as_bytes-in-loop-len.ensures.value c.in-Some.ensures in
    let P : List ℕ → Type 0 = λ s. (digits < length s) × (get_or s digits 0 ≡ 37) × IsEscape (take digits s) × (digits_value 16 (take digits s) ≡ c.in-Some-read_escape.character) in
    let found : P after = subst P c.as_bytes-in-Some.ensures.value c.in-Some-read_escape.ensures in
    let after_is : after ≡ drop (len + 1) text = c.range_from-escape.ensures.value in
    let rest_is : rest ≡ drop (digits + 1) after = c.range_from-rest.ensures.value in
    let code_is : digits_value 16 (take digits (drop (len + 1) text)) ≡ c.in-Some-read_escape.character = ap (λ s. digits_value 16 (take digits s)) (sym after_is) ∙ found.3 in
    let piece_is : c.range.result.now ≡ take len text = c.range.ensures.value ∙ front_is text len in
    let step = one_step text after rest len digits c.loop-len.invariant.left mark.within mark.here mark.none after_is rest_is found.0 found.1 found.2 in
    record {
      utf8 = c.range_from-rest.utf8;
      left = step.left;
      means = means_more c.args.spelled.now text rest len digits (string_bytes c.loop-len.text) (string_bytes c.push_str.new.self) (string_bytes c.push.new.self) c.range.result.now c.in-Some-read_escape.character
          c.loop-len.invariant.means step c.in_ok-push_str.ensures.bytes piece_is c.in_ok-push.ensures.bytes code_is;
    }

pub returns : goal.returns
returns c =
    let text = c.loop-len.rest.now in
    let none = no_mark c.as_bytes-in-loop-len.result.now text c.as_bytes-in-loop-len.ensures.value c.in_default.ensures in
    means_all c.args.spelled.now text (string_bytes c.loop-len.text) c.new.result c.loop-len.invariant.means (all_literal text c.loop-len.invariant.left none) (c.new.ensures ∙ c.in_ok-push_str-2.ensures.bytes)
