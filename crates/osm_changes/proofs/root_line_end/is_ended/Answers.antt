use Rattle.std.proofs.Common.{◌≡◌, ◌==◌, ◌∙◌, ℕ, List, [], ◌∷◌, true, false, length, inl, inr, ap, sym}
use Rattle.std.proofs.lemmas.Bool.Decides.{Decides-eqb}
use Rattle.std.proofs.lemmas.Slice.Eq.{ends_is}
use Rattle.osm_changes.proofs.root_line_end.is_ended.Goals as goal

pub returns-else-is_empty : goal.returns-else-is_empty
returns-else-is_empty c =
    let text = c.args.text.now in
    let ends = ends_is Decides-eqb text (10 ∷ []) c.ends_with.result c.ends_with.ensures.value in (
      (λ yes. inr (_, ends.0 yes)),
      (λ ended. elim ended [
        | inl empty ↦
            let none : (length text == 0) ≡ false = sym c.is_empty.ensures ∙ c.if-is_empty.false in
            let zero : (length text == 0) ≡ true = ap (λ (t : List ℕ). length t == 0) empty in
            cc
        | inr same ↦ ends.1 same.0 same.1
      ]),
    )
