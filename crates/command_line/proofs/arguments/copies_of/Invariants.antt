use Rattle.std.proofs.Common.{◌≡◌, map, take}
use Rattle.std.specs.String.{string_bytes}
use Rattle.command_line.proofs.arguments.copies_of.Given as goal

abbrev pub invariant-loop-text : goal.invariant-loop-text
invariant-loop-text l = map (λ s. string_bytes s) l.copies.items ≡ map (λ text. text.now) (take l.text-index l.texts)
