use Rattle.std.proofs.Common.{◌≡◌, ◌<◌, ◌+◌, ℕ, List, [], length, take, drop, get_or, arith, sym, subst, length-drop}
use Rattle.std.specs.Str.Parse.{digits_value}
use Rattle.std.proofs.lemmas.List.{take_rest}
use Rattle.opl_codec.specs.Texts.{IsEscape, BeginsEscape}
use Rattle.opl_codec.proofs.TextsJoined.{text_more, escape_more, bad_escape, spells_none}
use Rattle.opl_codec.proofs.text_len.text_len.Goals as goal

pub loop-len-init : goal.loop-len-init
loop-len-init c = record { within = omega arith; text = ([], spells_none) }

pub loop-len-preserved-then-is_free : goal.loop-len-preserved-then-is_free
loop-len-preserved-then-is_free c = record {
  within = omega arith;
  text = text_more c.args.bytes.now c.loop-len.len c.loop-len-test.true c.loop-len.invariant.text (sym c.if-is_free.ensures);
}

pub returns-in_default : goal.returns-in_default
returns-in_default c =
    let bad = subst (λ s. BeginsEscape s → ⊥) (take_rest c.args.bytes.now (c.loop-len.len + 1)) c.in_default.ensures in
    bad_escape c.args.bytes.now c.loop-len.len c.loop-len-test.true c.loop-len.invariant.text c.if-byte-eq37.true bad

pub loop-len-preserved : goal.loop-len-preserved
loop-len-preserved c =
    let bytes = c.args.bytes.now in
    let digits = c.in-Some.digits in
    let P : List ℕ → Type 0 = λ s. (digits < length s) × (get_or s digits 0 ≡ 37) × IsEscape (take digits s) × (digits_value 16 (take digits s) ≡ c.in-Some.field-0-0) in
    let found : P (drop (c.loop-len.len + 1) bytes) = subst P (take_rest bytes (c.loop-len.len + 1)) c.in-Some.ensures in
    let inside : digits < length (drop (c.loop-len.len + 1) bytes) = found.0 in
    record {
      within = omega (arith, inside, length-drop (c.loop-len.len + 1) bytes);
      text = escape_more bytes c.loop-len.len digits c.loop-len-test.true c.loop-len.invariant.text c.if-byte-eq37.true inside found.1 found.2;
    }
