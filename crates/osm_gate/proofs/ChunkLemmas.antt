-- Responses whose heads and bodies were appended one after the other.
use Rattle.std.proofs.Common.{◌≡◌, ◌∙◌, ◌++◌, ℕ, List, ap, append_assoc, length, refl, sym}
use Rattle.std.specs.Global.{Vec}
use Rattle.http_messages.specs.ResponseTexts.{Response, response_text}
use Rattle.osm_gate.specs.internal.ChunkLists.{whole}
use Rattle.osm_gate.specs.internal.Heads.{head_bytes}

pub pushed : (full : List (Vec ℕ)) (last last' more old : List ℕ) → whole full last ≡ old → last' ≡ last ++ more → whole full last' ≡ old ++ more
pushed full last last' more old is appended = ap (whole full) appended ∙ sym (append_assoc _ last more) ∙ ap (λ (bytes : List ℕ). bytes ++ more) is

response-parts : (r : Response) → response_text r ≡ head_bytes r.head (length r.body) ++ r.body
unfolding response_text head_bytes
response-parts r = refl

-- a head and a body were appended
pub responded : (r : Response) (n : ℕ) (old with_head new : List ℕ) → n ≡ length r.body → with_head ≡ old ++ head_bytes r.head n → new ≡ with_head ++ r.body
    → new ≡ old ++ response_text r
responded r n old with_head new size head body =
    body ∙ ap (λ (bytes : List ℕ). bytes ++ r.body) (head ∙ ap (λ (n : ℕ). old ++ head_bytes r.head n) size)
    ∙ append_assoc old (head_bytes r.head (length r.body)) r.body ∙ ap (λ (text : List ℕ). old ++ text) (sym (response-parts r))

-- four parts were appended
pub four_parts : (a b c d old one two three four : List ℕ) → one ≡ old ++ a → two ≡ one ++ b → three ≡ two ++ c → four ≡ three ++ d
    → four ≡ old ++ (a ++ (b ++ (c ++ d)))
four_parts a b c d old one two three four p q r s =
    s ∙ ap (λ (t : List ℕ). t ++ d) (r ∙ ap (λ (t : List ℕ). t ++ c) (q ∙ ap (λ (t : List ℕ). t ++ b) p))
    ∙ (simp append_assoc)
