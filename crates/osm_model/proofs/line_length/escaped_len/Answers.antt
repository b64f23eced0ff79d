use Rattle.std.proofs.Common.{◌≡◌, arith, ap, ◌∙◌, sym}
use Rattle.std.proofs.lemmas.List.{map-id}
use Rattle.std.proofs.lemmas.Iterator.{YieldsList-from_chars}
use Rattle.std.proofs.lemmas.Iterator.Consumers.{YieldsList-end}
use Rattle.std.specs.List.{sum_by}
use Rattle.std.specs.Str.{chars}
use Rattle.osm_model.proofs.LineLengths.{escape_len, escape_step, escaped_is}
use Rattle.osm_model.proofs.line_length.escaped_len.Goals as goal

pub loop-c-preserved : goal.loop-c-preserved
loop-c-preserved c = escape_step c.loop-c.yielded c.in-Some.c _ _ _ c.escaped_char_len.ensures c.saturating_add-len.ensures c.loop-c.invariant

pub returns : goal.returns
returns c =
    let t = YieldsList-end (YieldsList-from_chars c.args.text.now c.utf8.text cc) c.loop-c.yielded _ c.loop-c.yielded_by _ _ c.in-None.is c.next.ensures.steps in
    let whole : c.loop-c.yielded ≡ chars c.args.text.now = sym (map-id c.loop-c.yielded) ∙ t.0 in
    omega (arith, ap (λ cs. sum_by escape_len cs) whole, escaped_is c.args.text.now, c.loop-c.invariant)
