use Rattle.std.proofs.Common.{◌≡◌, ◌++◌, ◌-◌, length, take}
use Rattle.std.specs.List.{filter, flat_map}
use Rattle.opl_codec.specs.Text.{text_of}
use Rattle.ql_meaning.specs.Meanings.{is_in}
use Rattle.ql_plain.proofs.print.print.Given as goal

abbrev pub invariant-loop-object : goal.invariant-loop-object
invariant-loop-object l = record {
  printed : l.text.items ≡ l.fn.text.items ++ flat_map (λ o. text_of o l.fn.mode) (take l.initial.left (filter (λ o. is_in l.fn.refs o) (take l.object-index l.objects)));
  left : l.left ≡ l.initial.left - length (filter (λ o. is_in l.fn.refs o) (take l.object-index l.objects));
}
