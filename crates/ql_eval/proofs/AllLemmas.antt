-- What is so of all elements of a list.
use Rattle.std.proofs.Common.{List, [], ◌∷◌, ◌++◌}
use Rattle.std.proofs.lemmas.List.Elements.{All-contains, All-from_recursion}
use Rattle.std.specs.List.{AllByRecursion, Contains}

module _ {X : Type 0} (P : X → Type 0) where
  pub all_push : (xs : List X) (x : X) → AllByRecursion P xs → P x → AllByRecursion P (xs ++ x ∷ [])
  all_push [] x all p = (p, tt)
  all_push (y ∷ xs) x all p = (all.0, all_push xs x all.1 p)

  pub all_both : (xs ys : List X) → AllByRecursion P xs → AllByRecursion P ys → AllByRecursion P (xs ++ ys)
  all_both [] ys these those = those
  all_both (x ∷ xs) ys these those = (these.0, all_both xs ys these.1 those)

  pub all_split : (xs ys : List X) → AllByRecursion P (xs ++ ys) → AllByRecursion P xs × AllByRecursion P ys
  all_split [] ys all = (tt, all)
  all_split (x ∷ xs) ys all = let (these, those) = all_split xs ys all.1 in ((all.0, these), those)

  pub all_at : (xs : List X) (x : X) → AllByRecursion P xs → Contains xs x → P x
  all_at xs x all has = All-contains P xs x (All-from_recursion P xs all) has
