use Rattle.std.proofs.Common.{◌++◌, ◌∙◌, ℕ, List, [], ◌∷◌, Some, append_assoc, ap, refl}
use Rattle.std.proofs.lemmas.Bool.Decides.{Decides-eqb}
use Rattle.std.proofs.lemmas.Slice.Eq.{strip_suffix_is}
use Rattle.osm_changes.proofs.root_line_end.without_line_feeds.Goals as goal

pub loop-shorter-preserved : goal.loop-shorter-preserved
loop-shorter-preserved c =
    let (after, is, feeds) = c.loop-shorter.invariant in
    let shorter = c.in-Some.shorter.now in
    let cut = strip_suffix_is Decides-eqb c.loop-shorter.left.now (10 ∷ []) (Some c.in-Some.shorter) c.in-Some.ensures.cases in
    (10 ∷ after, is ∙ ap (λ (l : List ℕ). l ++ after) cut ∙ append_assoc shorter (10 ∷ []) after, (refl, feeds))
