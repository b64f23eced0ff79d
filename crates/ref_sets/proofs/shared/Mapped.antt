-- Elements of a mapped list.
use Rattle.std.proofs.Common.{◌≡◌, List, [], ◌∷◌, map, inl, inr, ap, subst}
use Rattle.std.specs.List.{Contains}
use Rattle.ref_sets.proofs.shared.Adding.{in_rest, first_or_in_rest, here, none}

pub contains_mapped : {X Y : Type 0} (f : X → Y) (xs : List X) (x : X) → Contains xs x → Contains (map f xs) (f x)
contains_mapped f [] x has = absurd (none x has)
contains_mapped f (z ∷ xs) x has = elim (first_or_in_rest z xs x has) [
  | inl same ↦ subst (λ y. Contains (f z ∷ map f xs) y) (ap f same) (here (f z) (map f xs))
  | inr later ↦ in_rest (f z) (map f xs) (f x) (contains_mapped f xs x later)
]

pub from_mapped : {X Y : Type 0} (f : X → Y) (xs : List X) (y : Y) → Contains (map f xs) y → (x : X) × Contains xs x × (f x ≡ y)
from_mapped f [] y has = absurd (none y has)
from_mapped f (z ∷ xs) y has = elim (first_or_in_rest (f z) (map f xs) y has) [
  | inl same ↦ (z, here z xs, same)
  | inr later ↦ (let one = from_mapped f xs y later in (one.0, in_rest z xs one.0 one.1, one.2))
]
