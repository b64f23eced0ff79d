use Rattle.std.proofs.Common.{◌++◌, map, sym, ap, ◌∙◌}
use Rattle.std.proofs.lemmas.List.{append-nil}
use Rattle.tree_build.specs.Rebuilding.{digests_of}
use Rattle.tree_build.proofs.GrowLemmas.{none_left}
use Rattle.tree_build.proofs.TellLemmas.{digests_are}
use Rattle.tree_build.proofs.level_diff.push_gone_digests.Goals as goal

pub returns : goal.returns
returns c = λ nodes stand.
    sym (append-nil (digests_of c.loop-old.gone.items))
    ∙ ap (λ os. digests_of c.loop-old.gone.items ++ map (λ old. old.digest.0) os) (sym (none_left c.args.olds.now c.loop-old.old-index c.loop-old-test.false))
    ∙ c.loop-old.invariant
    ∙ ap (λ ds. digests_of c.args.gone.now.items ++ ds) (digests_are c.args.olds.now nodes stand)
