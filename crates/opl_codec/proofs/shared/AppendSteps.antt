-- Steps that append, and what a step that fails leaves.
use Rattle.std.proofs.Common.{◌≡◌, ℕ, ◌≤◌, List, [], ◌∷◌, ◌++◌, length, take, cond, refl, sym, ◌∙◌, ap, arith, Result, Ok, Err, OnOk, OnErr, is_ok, map, flat_map, length-append}
use Rattle.std.specs.List.{join_with_byte}
use Rattle.std.proofs.lemmas.List.{take-take, take_at, append-nil}
use Rattle.osm_model.specs.Bytes.{space}

-- what a step leaves in front of it, the next step's refusal leaves too
pub front_kept : (old mid new xs : List ℕ) → mid ≡ old ++ xs → take (length mid) new ≡ mid → take (length old) new ≡ old
front_kept old mid new xs e kept =
    let shorter : length old ≤ length mid = omega (arith, ap length e, length-append old xs) in
    sym (take-take (length old) (length mid) new shorter) ∙ (ap (take (length old)) (kept ∙ e) ∙ take_at old xs (length old) refl)

-- one append, spelled otherwise
pub appended : {T E : Type 0} (r : Result T E) (old new xs ys : List ℕ) → new ≡ cond (is_ok r) (old ++ xs) old → xs ≡ ys → OnOk r (new ≡ old ++ ys)
appended (Ok x) old new xs ys e f = e ∙ ap (λ zs. old ++ zs) f
appended (Err x) old new xs ys e f = tt

-- a later step's refusal leaves the front
pub refused_later : {T E : Type 0} (r : Result T E) (old mid new xs : List ℕ) → mid ≡ old ++ xs → OnErr r (take (length mid) new ≡ mid) → OnErr r (take (length old) new ≡ old)
refused_later (Ok x) old mid new xs e kept = tt
refused_later (Err x) old mid new xs e kept = front_kept old mid new xs e kept

-- pieces with a separator between two are the first piece, and the others after separators
pub join_with_byte-map : {X : Type 0} (c : ℕ) (f : X → List ℕ) (x : X) (xs : List X) → join_with_byte c (map f (x ∷ xs)) ≡ f x ++ flat_map (λ y. c ∷ f y) xs
join_with_byte-map c f x [] = sym (append-nil (f x))
join_with_byte-map c f x (y ∷ xs) = ap (λ rest. f x ++ (c ∷ rest)) (join_with_byte-map c f y xs)

-- one field after its space
pub one_field : (f : List ℕ) → flat_map (λ g. space ∷ g) (f ∷ []) ≡ space ∷ f
one_field f = append-nil (space ∷ f)
