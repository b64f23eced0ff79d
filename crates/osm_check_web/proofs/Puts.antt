-- Parts that are put into a room one after the other.
use Rattle.std.proofs.Common.{◌≡◌, ◌∙◌, ℕ, ◌+◌, List, [], ◌++◌, append_assoc, ap, arith, drop, length, refl, sym, take, length-append}
use Rattle.std.proofs.lemmas.List.{drop-drop, drop_at, take_at}

-- a part after what is done, over the front of what is left
put_next : (done rest part : List ℕ) (n : ℕ) → length done ≡ n
    → take n (done ++ rest) ++ (part ++ drop (n + length part) (done ++ rest)) ≡ (done ++ part) ++ drop (length part) rest
put_next done rest part n is =
    let front : take n (done ++ rest) ≡ done = take_at done rest n is in
    let back : drop (n + length part) (done ++ rest) ≡ drop (length part) rest =
    sym (drop-drop (length part) n (done ++ rest)) ∙ ap (λ (bytes : List ℕ). drop (length part) bytes) (drop_at done rest n is) in
    ap (λ (bytes : List ℕ). bytes ++ (part ++ drop (n + length part) (done ++ rest))) front
    ∙ ap (λ (bytes : List ℕ). done ++ (part ++ bytes)) back
    ∙ sym (append_assoc done part (drop (length part) rest))

-- three parts from the front of a room on
pub put_three : (room one two three header body trailer : List ℕ)
    → one ≡ take 0 room ++ (header ++ drop (0 + length header) room)
    → two ≡ take (length header) one ++ (body ++ drop (length header + length body) one)
    → three ≡ take (length header + length body) two ++ (trailer ++ drop (length header + length body + length trailer) two)
    → three ≡ (header ++ (body ++ trailer)) ++ drop (length (header ++ (body ++ trailer))) room
put_three room one two three header body trailer first second third =
    let h = length header in let b = length body in let t = length trailer in
    let one_is : one ≡ header ++ drop h room = first ∙ put_next [] room header 0 refl in
    let two_is : two ≡ (header ++ body) ++ drop b (drop h room) =
    second ∙ ap (λ (bytes : List ℕ). take h bytes ++ (body ++ drop (h + b) bytes)) one_is ∙ put_next header (drop h room) body h refl in
    let done : length (header ++ body) ≡ h + b = length-append header body in
    let three_is : three ≡ ((header ++ body) ++ trailer) ++ drop t (drop b (drop h room)) =
    third ∙ ap (λ (bytes : List ℕ). take (h + b) bytes ++ (trailer ++ drop (h + b + t) bytes)) two_is ∙ put_next (header ++ body) (drop b (drop h room)) trailer (h + b) done in
    let all : length (header ++ (body ++ trailer)) ≡ h + b + t = omega (arith, length-append header (body ++ trailer), length-append body trailer) in
    let rest : drop t (drop b (drop h room)) ≡ drop (length (header ++ (body ++ trailer))) room =
    ap (λ (bytes : List ℕ). drop t bytes) (drop-drop b h room) ∙ drop-drop t (h + b) room ∙ ap (λ (n : ℕ). drop n room) (sym all) in
    three_is ∙ ap (λ (bytes : List ℕ). bytes ++ drop t (drop b (drop h room))) (append_assoc header body trailer)
    ∙ ap (λ (bytes : List ℕ). (header ++ (body ++ trailer)) ++ bytes) rest
