-- Lists that are written item by item, and three steps in a row.
use Rattle.std.proofs.Common.{◌≡◌, ℕ, zero, suc, ◌+◌, ◌<◌, List, [], ◌∷◌, ◌++◌, length, take, get_or, map, flat_map, sym, ◌∙◌, ap, arith, append_assoc, append-nil, add-one, Result, Ok, Err, OnOk}
use Rattle.std.specs.List.{join_with_byte}
use Rattle.osm_model.specs.Bytes.{comma}
use Rattle.opl_codec.proofs.shared.AppendSteps.{join_with_byte-map}

-- the first item, and each other after a comma
pub list_written : {T E X : Type 0} (r : Result T E) (item : X → List ℕ) (all others : List X) (first : X) (old mid out : List ℕ) → all ≡ first ∷ others → mid ≡ old ++ item first
    → OnOk r (out ≡ mid ++ flat_map (λ x. comma ∷ item x) others) → OnOk r (out ≡ old ++ join_with_byte comma (map item all))
list_written (Err e) item all others first old mid out split begun written = tt
list_written (Ok x) item all others first old mid out split begun written =
    let after = flat_map (λ x. comma ∷ item x) others in
    written ∙ (ap (λ bytes. bytes ++ after) begun
    ∙ (append_assoc old (item first) after
    ∙ ap (λ text. old ++ text) (sym (join_with_byte-map comma item first others) ∙ ap (λ xs. join_with_byte comma (map item xs)) (sym split))))

items_more : {X : Type 0} (item : X → List ℕ) (xs : List X) (n : ℕ) (d : X) → n < length xs → flat_map item (take (suc n) xs) ≡ flat_map item (take n xs) ++ item (get_or xs n d)
items_more item [] n d lt = absurd (omega arith)
items_more item (x ∷ xs) zero d lt = append-nil (item x)
items_more item (x ∷ xs) (suc n) d lt = ap (λ rest. item x ++ rest) (items_more item xs n d (omega arith)) ∙ sym (append_assoc (item x) (flat_map item (take n xs)) (item (get_or xs n d)))

-- one item more, and what was written before it
pub written_more : {X : Type 0} (item : X → List ℕ) (xs : List X) (n : ℕ) (d : X) (old mid new : List ℕ) → n < length xs → mid ≡ old ++ flat_map item (take n xs) → new ≡ mid ++ item (get_or xs n d)
    → new ≡ old ++ flat_map item (take (n + 1) xs)
written_more item xs n d old mid new lt before put =
    put ∙ (ap (λ bytes. bytes ++ item (get_or xs n d)) before ∙ (append_assoc old (flat_map item (take n xs)) (item (get_or xs n d))
    ∙ ap (λ bytes. old ++ bytes) (rw add-one (sym (items_more item xs n d lt)))))

-- three steps in a row
pub three_written : {T E : Type 0} (r : Result T E) (old one two out a b c : List ℕ) → one ≡ old ++ a → two ≡ one ++ b → OnOk r (out ≡ two ++ c) → OnOk r (out ≡ old ++ (a ++ (b ++ c)))
three_written (Err e) old one two out a b c first second third = tt
three_written (Ok x) old one two out a b c first second third =
    third ∙ (ap (λ bytes. bytes ++ c) (second ∙ ap (λ bytes. bytes ++ b) first)
    ∙ (append_assoc (old ++ a) b c ∙ append_assoc old a (b ++ c)))
