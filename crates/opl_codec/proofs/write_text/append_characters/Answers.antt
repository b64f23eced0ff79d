use Rattle.std.proofs.Common.{◌++◌, flat_map, ap, ◌∙◌, sym, rules}
use Rattle.std.proofs.lemmas.Iterator.{YieldsList-from_chars}
use Rattle.std.proofs.lemmas.Iterator.Consumers.{YieldsList-end}
use Rattle.std.proofs.lemmas.List.{flat_map_more, map-id}
use Rattle.osm_model.specs.CanonicalLine.{escaped, escaped_char}
use Rattle.opl_codec.proofs.shared.AppendSteps.{front_kept}
use Rattle.opl_codec.proofs.write_text.append_characters.Goals as goal

pub returns-in_err-append_character-clause-err : goal.returns-in_err-append_character-clause-err
returns-in_err-append_character-clause-err c = search (rules, front_kept c.args.out.now.items c.loop-character.out.items c.append_character.new.out.items (flat_map escaped_char c.loop-character.yielded) c.loop-character.invariant c.in_err-append_character.ensures.err)

pub loop-character-preserved : goal.loop-character-preserved
loop-character-preserved c =
    c.in_ok-append_character.ensures.ok ∙ (ap (λ bytes. bytes ++ escaped_char c.in-Some.character) c.loop-character.invariant ∙ flat_map_more escaped_char c.args.out.now.items c.loop-character.yielded c.in-Some.character)

pub returns-clause-ok : goal.returns-clause-ok
unfolding escaped
returns-clause-ok c =
    let t = YieldsList-end (YieldsList-from_chars c.args.text.now c.utf8.text cc) c.loop-character.yielded _ c.loop-character.yielded_by _ _ c.in-None.is c.next.ensures.steps in
    c.loop-character.invariant ∙ ap (λ cs. c.args.out.now.items ++ flat_map escaped_char cs) (sym (map-id c.loop-character.yielded) ∙ t.0)
