-- What a socket takes of the first chunk, it takes of all that its connection has coming.
use Rattle.std.proofs.Common.{◌≡◌, ◌∙◌, ◌↔◌, ◌<◌, ◌≤◌, ◌++◌, ◌∷◌, ℕ, Bool, false, true, List, [], ap, arith, length, length-append, drop, refl, sym, take}
use Rattle.std.proofs.lemmas.Bool.{eqb-true}
use Rattle.std.proofs.Math.Dec.{eqb}
use Rattle.std.proofs.lemmas.List.{length-drop, take-append-le}
use Rattle.std.specs.FinMap.{get, insert}
use Rattle.std.specs.Prelude.{IsTrue, Some}
use Rattle.osm_traffic.specs.internal.Standing.{Waiting}
use Rattle.osm_traffic.specs.internal.Texts.{coming}
use Rattle.osm_traffic.proofs.MapLemmas.{get-put_same}

pub of_the_front : (count : ℕ) (chunk bytes : List ℕ) → ((rest : List ℕ) × (bytes ≡ chunk ++ rest)) → count ≤ length chunk
    → (count ≤ length bytes) × (take count chunk ≡ take count bytes)
of_the_front count chunk bytes (rest, is) fits =
    (omega (arith, ap length is, length-append chunk rest), sym (ap (take count) is ∙ take-append-le count chunk rest fits))

pub fewer_are_left : (old new : Waiting) (n count : ℕ) (bytes : List ℕ) → get old n ≡ Some bytes → new ≡ insert old n (drop count bytes)
    → 0 < count → count ≤ length bytes → length (coming (get new n)) < length (coming (get old n))
fewer_are_left old new n count bytes some is more fits =
    let left = ap (λ (o : Waiting). get o n) is ∙ get-put_same old n (drop count bytes) in
    rw (left, some) (omega (arith, length-drop count bytes))

-- where it isn't all taken, some is left
pub some_is_left : (b : Bool) (bytes : List ℕ) → (IsTrue b ↔ (bytes ≡ [])) → b ≡ false → 0 < length bytes
some_is_left b [] same more = let all : b ≡ true = same.1 refl in absurd (cc)
some_is_left b (x ∷ bytes) same more = omega arith

-- a whole chunk was taken, and it isn't empty
pub some_was_taken : (count size : ℕ) (chunk bytes : List ℕ) → eqb count size ≡ true → size ≡ length chunk → (0 < length bytes → 0 < length chunk)
    → 0 < length bytes → 0 < count
some_was_taken count size chunk bytes whole is some left =
    let same = eqb-true count size whole in
    let more = some left in
    omega arith
