use Rattle.std.proofs.Common.{◌≡◌, ◌++◌, flat_map}
use Rattle.osm_model.specs.CanonicalLine.{escaped_char}
use Rattle.opl_codec.proofs.write_text.append_characters.Given as goal

abbrev pub invariant-loop-character : goal.invariant-loop-character
invariant-loop-character l = l.out.items ≡ l.initial.out.items ++ flat_map escaped_char l.yielded
