-- A field that is a list, written item by item.
use Rattle.std.proofs.Common.{◌≡◌, ℕ, zero, suc, ◌+◌, ◌<◌, List, [], ◌∷◌, ◌++◌, length, take, get_or, map, flat_map, sym, ◌∙◌, ap, arith, append_assoc, append-nil, add-one, Result, Ok, Err, OnOk}
use Rattle.std.specs.List.{join_with_byte}
use Rattle.osm_model.specs.Bytes.{comma, space}
use Rattle.opl_codec.proofs.shared.AppendSteps.{join_with_byte-map}

-- the first item, and each other after a comma
pub list_written : {T E X : Type 0} (r : Result T E) (letter : ℕ) (item : X → List ℕ) (all others : List X) (first : X) (old mid out : List ℕ) → all ≡ first ∷ others → mid ≡ old ++ (space ∷ letter ∷ item first)
    → OnOk r (out ≡ mid ++ flat_map (λ x. comma ∷ item x) others) → OnOk r (out ≡ old ++ space ∷ letter ∷ join_with_byte comma (map item all))
list_written (Err e) letter item all others first old mid out split begun written = tt
list_written (Ok x) letter item all others first old mid out split begun written =
    let after = flat_map (λ x. comma ∷ item x) others in
    written ∙ (ap (λ bytes. bytes ++ after) begun
    ∙ (append_assoc old (space ∷ letter ∷ item first) after
    ∙ ap (λ text. old ++ (space ∷ letter ∷ text)) (sym (join_with_byte-map comma item first others) ∙ ap (λ xs. join_with_byte comma (map item xs)) (sym split))))

item_more : {X : Type 0} (item : X → List ℕ) (xs : List X) (n : ℕ) (d : X) → n < length xs → flat_map (λ x. comma ∷ item x) (take (suc n) xs) ≡ flat_map (λ x. comma ∷ item x) (take n xs) ++ comma ∷ item (get_or xs n d)
item_more item [] n d lt = absurd (omega arith)
item_more item (x ∷ xs) zero d lt = append-nil (comma ∷ item x)
item_more item (x ∷ xs) (suc n) d lt = ap (λ rest. (comma ∷ item x) ++ rest) (item_more item xs n d (omega arith)) ∙ sym (append_assoc (comma ∷ item x) (flat_map (λ y. comma ∷ item y) (take n xs)) (comma ∷ item (get_or xs n d)))

-- one item more, and what was written before it
pub written_more : {X : Type 0} (item : X → List ℕ) (xs : List X) (n : ℕ) (d : X) (old mid new : List ℕ) → n < length xs → mid ≡ old ++ flat_map (λ x. comma ∷ item x) (take n xs) → new ≡ mid ++ comma ∷ item (get_or xs n d)
    → new ≡ old ++ flat_map (λ x. comma ∷ item x) (take (n + 1) xs)
written_more item xs n d old mid new lt before put =
    put ∙ (ap (λ bytes. bytes ++ comma ∷ item (get_or xs n d)) before ∙ (append_assoc old (flat_map (λ x. comma ∷ item x) (take n xs)) (comma ∷ item (get_or xs n d))
    ∙ ap (λ bytes. old ++ bytes) (rw add-one (sym (item_more item xs n d lt)))))
