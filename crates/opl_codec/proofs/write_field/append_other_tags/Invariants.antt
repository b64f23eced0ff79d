use Rattle.std.proofs.Common.{◌≡◌, ◌++◌, ◌∷◌, take, flat_map}
use Rattle.osm_model.specs.Bytes.{comma}
use Rattle.osm_model.specs.CanonicalLine.{tag_text}
use Rattle.opl_codec.proofs.write_field.append_other_tags.Given as goal

abbrev pub invariant-loop-tag : goal.invariant-loop-tag
invariant-loop-tag l = l.out.items ≡ l.initial.out.items ++ flat_map (λ x. comma ∷ tag_text x) (take l.tag-index l.tags)
