use Rattle.std.proofs.Common.{ℕ, ◌++◌, List, length}
use Rattle.std.specs.Prelude.{string_bytes}
use Rattle.std.specs.Str.{IsUtf8}
use Rattle.opl_codec.specs.Texts.{IsText, SpellsText}
use Rattle.opl_codec.proofs.make_text.make_text.Given as goal

abbrev pub invariant-loop-len : goal.invariant-loop-len
invariant-loop-len l = record {
  utf8 : IsUtf8 l.rest;
  left : IsText l.rest;
  means : (t : List ℕ) → SpellsText l.rest t → SpellsText l.spelled (string_bytes l.text ++ t);
}

abbrev pub decreases-loop-len : goal.decreases-loop-len
decreases-loop-len l = length l.rest
