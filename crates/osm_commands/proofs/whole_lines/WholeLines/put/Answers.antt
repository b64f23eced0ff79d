use Rattle.std.proofs.Common.{◌≡◌, ◌∙◌, ◌+◌, ◌++◌, ◌∷◌, [], ℕ, List, ap, inr, length, refl, subst, sym, take, append_assoc, length-append}
use Rattle.std.proofs.Math.Seq.{take-append_seam}
use Rattle.std.specs.Prelude.{Err, IfOk, Ok, Option, Result}
use Rattle.std.specs.Result.{IsErrAnd}
use Rattle.osm_model.specs.Bytes.{line_feed}
use Rattle.osm_commands.specs.WholeLines.{GoesOn, IsCut, IsHanded}
use Rattle.osm_commands.proofs.whole_lines.WholeLines.put.Goals as goal

-- the front of some bytes, with the line feed that ends it
first_line : (bytes front rest : List ℕ) → bytes ≡ front ++ line_feed ∷ rest → take (length front + 1) bytes ≡ front ++ line_feed ∷ []
first_line bytes front rest parts =
    let line = front ++ line_feed ∷ [] in
    ap (take (length front + 1)) (parts ∙ sym (append_assoc front (line_feed ∷ []) rest)) ∙ ap (λ n. take n (line ++ rest)) (sym (length-append front (line_feed ∷ [])))
    ∙ take-append_seam line rest

-- a refusal takes no bytes, and a line may be cut then
cut_handed : {E : Type 0} (P : E → Type 0) (line : Option (List ℕ)) (result : Result ℕ E) (old new : Option (List ℕ)) → IsErrAnd result P → IsCut line old new → IsHanded line result old new
cut_handed P line (Ok count) old new refused cut = absurd refused
cut_handed P line (Err error) old new refused cut = cut

none_taken : {E : Type 0} (P : E → Type 0) (result : Result ℕ E) (n : ℕ) → IsErrAnd result P → IfOk result (λ count. count ≡ n)
none_taken P (Ok count) n refused = absurd refused
none_taken P (Err error) n refused = tt

pub returns-in_err-hand-clause-taken : goal.returns-in_err-hand-clause-taken
returns-in_err-hand-clause-taken g c =
    let front = c.in-Some.front.now in
    let rest = c.in-Some.field-0-1.now in
    let parts = c.in-Some.ensures.parts in
    inr (record {
      front = front;
      rest = rest;
      parts = parts.0;
      first = parts.1;
      whole = c.go_on-2.new.self.line;
      goes_on = subst (λ (b : List ℕ). GoesOn c.args.self.now.line b c.go_on-2.new.self.line) (first_line c.args.bytes.now front rest parts.0) c.go_on-2.ensures.line;
      handed = cut_handed _ c.go_on-2.new.self.line c.from_residual.result _ _ c.from_residual.ensures.1 (rw (← c.go_on-2.ensures.writer) c.in_err-hand.ensures.handed);
      taken = none_taken _ c.from_residual.result (length front + 1) c.from_residual.ensures.1;
      begun = c.in_err-hand.ensures.begun;
    })

pub returns-clause-taken : goal.returns-clause-taken
returns-clause-taken g c =
    let front = c.in-Some.front.now in
    let rest = c.in-Some.field-0-1.now in
    let parts = c.in-Some.ensures.parts in
    inr (record {
      front = front;
      rest = rest;
      parts = parts.0;
      first = parts.1;
      whole = c.go_on-2.new.self.line;
      goes_on = subst (λ (b : List ℕ). GoesOn c.args.self.now.line b c.go_on-2.new.self.line) (first_line c.args.bytes.now front rest parts.0) c.go_on-2.ensures.line;
      handed = rw (← c.go_on-2.ensures.writer) c.in_ok-hand.ensures.handed;
      taken = refl;
      begun = c.in_ok-hand.ensures.begun;
    })
