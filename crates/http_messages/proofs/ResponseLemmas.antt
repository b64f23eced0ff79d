-- Parts that were added one after the other.
use Rattle.std.proofs.Common.{◌≡◌, ◌∙◌, ◌+◌, ◌<◌, ◌≤◌, ap, arith, get_or, length, length-append, take, List, ℕ, zero, suc, [], ◌∷◌, ◌++◌}
use Rattle.std.specs.Borrow.{Bor}
use Rattle.http_messages.specs.ResponseParts.{body_of}

pub joined : (s0 s1 s2 s3 s4 s5 s6 a b c d e f g : List ℕ) → s0 ≡ a → s1 ≡ s0 ++ b → s2 ≡ s1 ++ c → s3 ≡ s2 ++ d → s4 ≡ s3 ++ e → s5 ≡ s4 ++ f → s6 ≡ s5 ++ g
    → s6 ≡ ((((((a ++ b) ++ c) ++ d) ++ e) ++ f) ++ g)
joined s0 s1 s2 s3 s4 s5 s6 a b c d e f g e0 e1 e2 e3 e4 e5 e6 =
    e6 ∙ ap (λ (t : List ℕ). t ++ g) (e5 ∙ ap (λ (t : List ℕ). t ++ f) (e4 ∙ ap (λ (t : List ℕ). t ++ e) (e3
    ∙ ap (λ (t : List ℕ). t ++ d) (e2 ∙ ap (λ (t : List ℕ). t ++ c) (e1 ∙ ap (λ (t : List ℕ). t ++ b) e0)))))

-- the parts before one, and that one, have no more bytes than all of them
pub parts-fit : (parts : List (Bor (List ℕ))) (i : ℕ) (d : Bor (List ℕ)) → i < length parts
    → length (body_of (take i parts)) + length (get_or parts i d).now ≤ length (body_of parts)
parts-fit [] i d fits = absurd (omega (arith, fits))
parts-fit (p ∷ ps) zero d fits = omega (arith, length-append p.now (body_of ps))
parts-fit (p ∷ ps) (suc i) d fits =
    omega (arith, length-append p.now (body_of (take i ps)), length-append p.now (body_of ps), parts-fit ps i d (omega (arith, fits)))
