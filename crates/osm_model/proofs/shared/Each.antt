-- What is so of each item of a list.
use Rattle.std.proofs.Common.{◌<◌, zero, suc, ℕ, List, [], ◌∷◌, ◌++◌, length, get_or, arith}
use Rattle.std.specs.List.{AllByRecursion}

-- each of a list, by places
pub all_places : {A : Type 0} (P : A → Type 0) (bytes : List A) (k : ℕ) (d : A) → AllByRecursion P bytes → k < length bytes → P (get_or bytes k d)
all_places P [] k d all lt = absurd (omega arith)
all_places P (x ∷ bytes) zero d all lt = all.0
all_places P (x ∷ bytes) (suc k) d all lt = all_places P bytes k d all.1 (omega arith)

pub all_weaker : {A : Type 0} (P Q : A → Type 0) (xs : List A) → ((x : A) → P x → Q x) → AllByRecursion P xs → AllByRecursion Q xs
all_weaker P Q [] w all = tt
all_weaker P Q (x ∷ xs) w all = (w x all.0, all_weaker P Q xs w all.1)

pub all_append : {A : Type 0} (P : A → Type 0) (xs ys : List A) → AllByRecursion P xs → AllByRecursion P ys → AllByRecursion P (xs ++ ys)
all_append P [] ys a b = b
all_append P (x ∷ xs) ys a b = (a.0, all_append P xs ys a.1 b)
