-- What stands below a range is left out of its choice.
use Rattle.std.proofs.Common.{◌≡◌, Bool, true, false, ℕ, List, [], ◌∷◌, map, Bor, Option, Some, None, inl, inr, refl, sym, ap, ◌∙◌}
use Rattle.std.specs.List.{AllByRecursion}
use Rattle.std.specs.Option.{option_copied, option_or}
use Rattle.std.specs.Ordering.{is_lt}
use Rattle.std.specs.declared.cmp.Ordering.{Ordering}
use Rattle.std.specs.declared.cmp.Ordering.TheVariants.{Less, Equal, Greater}
use Rattle.tree_node.specs.Nodes.{AreRisingFrom, Binding, Link}
use Rattle.tree_node.specs.Order.{order}
use Rattle.tree_node.specs.internal.OrderLemmas.{not_itself, order_above, order_same}
use Rattle.tree_node.specs.Skips.{from_key, key_before}
use Rattle.tree_walk.specs.Choices.{AreThose}
use Rattle.tree_walk.specs.Spans.{children_placed}
use Rattle.tree_walk.specs.Ranges.{IsAtMost, Range}
use Rattle.tree_walk.specs.Walks.{IsEntryIn}
use Rattle.tree_walk.proofs.ChoiceLemmas.{ArePicked}
use Rattle.tree_walk.proofs.shared.KeyLemmas.{at_most_below}

-- a key that a test finds below another is
below_is : (o : Ordering) → is_lt o ≡ true → o ≡ Less
below_is Less e = refl
below_is Equal e = absurd cc
below_is Greater e = absurd cc

-- one that it doesn't isn't
at_most_is : (key low : List ℕ) → is_lt (order key low) ≡ false → IsAtMost low key
at_most_is key low e = by (order key low) refl
  where
    by : (o : Ordering) → order key low ≡ o → IsAtMost low key
    by Less is = absurd (less is)
      where
        less : order key low ≡ Less → ⊥
        less is = cc (e, ap is_lt is)
    by Equal is = inr (sym (order_same key low is))
    by Greater is = inl (order_above key low is)

-- keys above one that isn't below a bound aren't either
all_from : (low key : List ℕ) (keys : List (List ℕ)) → IsAtMost low key → AreRisingFrom (Some key) keys → AllByRecursion (IsAtMost low) keys
all_from low key [] is rise = tt
all_from low key (next ∷ keys) is rise =
    let above : IsAtMost low next = inl (at_most_below low key next is rise.0) in
    (above, all_from low next keys above rise.1)

module _ {X : Type 0} (key_of : X → List ℕ) (low : List ℕ) where
  -- items from a key on aren't below it,
  pub found_from : (before : Option (List ℕ)) (xs : List X) → AreRisingFrom before (map key_of xs) → AllByRecursion (IsAtMost low) (map key_of (from_key key_of low xs))
  found_from before [] rise = tt
  found_from before (x ∷ xs) rise = by (found_from (Some (key_of x)) xs rise.1) (is_lt (order (key_of x) low)) refl
    where
      by : AllByRecursion (IsAtMost low) (map key_of (from_key key_of low xs)) → (b : Bool) → is_lt (order (key_of x) low) ≡ b → AllByRecursion (IsAtMost low) (map key_of (from_key key_of low (x ∷ xs)))
      by others true e = rw e others
      by others false e = rw e (at_most_is (key_of x) low e, all_from low (key_of x) (map key_of xs) (at_most_is (key_of x) low e) rise.1)

  -- and they rise from the key before them
  pub found_rises : (before : Option (List ℕ)) (xs : List X) → AreRisingFrom before (map key_of xs) → AreRisingFrom (key_before key_of low before xs) (map key_of (from_key key_of low xs))
  found_rises before [] rise = tt
  found_rises before (x ∷ xs) rise = by (found_rises (Some (key_of x)) xs rise.1) (is_lt (order (key_of x) low)) refl
    where
      by : AreRisingFrom (key_before key_of low (Some (key_of x)) xs) (map key_of (from_key key_of low xs)) → (b : Bool) → is_lt (order (key_of x) low) ≡ b
          → AreRisingFrom (key_before key_of low before (x ∷ xs)) (map key_of (from_key key_of low (x ∷ xs)))
      by others true e = rw e others
      by others false e = rw e rise

-- what a test finds below a key doesn't stand from it on
not_from : (key low : List ℕ) → is_lt (order key low) ≡ true → ¬ IsAtMost low key
not_from key low e is = not_itself low low (at_most_below low key low is (below_is (order key low) e)) refl

-- entries below a range don't stand in it
pub entries_skipped : (range : Range) (entries : List Binding) → ArePicked (IsEntryIn range) entries (from_key (λ (entry : Binding). entry.key) range.lo entries) []
entries_skipped range [] more are = are
entries_skipped range (x ∷ xs) more are = by (entries_skipped range xs) (is_lt (order x.key range.lo)) refl
  where
    by : ArePicked (IsEntryIn range) xs (from_key (λ (entry : Binding). entry.key) range.lo xs) [] → (b : Bool) → is_lt (order x.key range.lo) ≡ b → AreThose (IsEntryIn range) (x ∷ xs) more
    by others true e = inr ((λ is. not_from x.key range.lo e is.0), others more (rw e at are))
    by others false e = rw e at are

-- nor has a child that ends below it a property that needs that it doesn't
pub children_skipped : (low : List ℕ) (Has : Option (List ℕ) × Link → Type 0) → ((left : Option (List ℕ)) (link : Link) → Has (left, link) → IsAtMost low link.greatest)
    → (left : Option (List ℕ)) (links : List Link)
    → ArePicked Has (children_placed left links) (children_placed (key_before (λ (link : Link). link.greatest) low left links) (from_key (λ (link : Link). link.greatest) low links)) []
children_skipped low Has needs left [] more are = are
children_skipped low Has needs left (x ∷ xs) more are = by (children_skipped low Has needs (Some x.greatest) xs) (is_lt (order x.greatest low)) refl
  where
    by : ArePicked Has (children_placed (Some x.greatest) xs) (children_placed (key_before (λ (link : Link). link.greatest) low (Some x.greatest) xs) (from_key (λ (link : Link). link.greatest) low xs)) []
        → (b : Bool) → is_lt (order x.greatest low) ≡ b → AreThose Has (children_placed left (x ∷ xs)) more
    by others true e = inr ((λ has. not_from x.greatest low e (needs left x has)), others more (rw e at are))
    by others false e = rw e at are

-- ---- the left bound of what was found

-- the second, where the first is none
abbrev pub either : Option (List ℕ) → Option (List ℕ) → Option (List ℕ)
either None other = other
either (Some key) other = Some key

module _ {X : Type 0} (key_of : X → List ℕ) (low : List ℕ) where
  -- after a key there is one
  before_some : (key : List ℕ) (xs : List X) (left : Option (List ℕ)) → either (key_before key_of low (Some key) xs) left ≡ key_before key_of low (Some key) xs
  before_some key [] left = refl
  before_some key (x ∷ xs) left = by (before_some (key_of x) xs left) (is_lt (order (key_of x) low)) refl
    where
      by : either (key_before key_of low (Some (key_of x)) xs) left ≡ key_before key_of low (Some (key_of x)) xs → (b : Bool) → is_lt (order (key_of x) low) ≡ b → either (key_before key_of low (Some key) (x ∷ xs)) left ≡ key_before key_of low (Some key) (x ∷ xs)
      by others true e = rw e others
      by others false e = rw e refl

  -- the key before, or else what stands before all
  pub before_or : (xs : List X) (left : Option (List ℕ)) → either (key_before key_of low None xs) left ≡ key_before key_of low left xs
  before_or [] left = refl
  before_or (x ∷ xs) left = by (is_lt (order (key_of x) low)) refl
    where
      by : (b : Bool) → is_lt (order (key_of x) low) ≡ b → either (key_before key_of low None (x ∷ xs)) left ≡ key_before key_of low left (x ∷ xs)
      by true e = rw e (before_some (key_of x) xs left)
      by false e = rw e refl

-- the left bound of the children that were found
pub bound_is : (low : List ℕ) (before left bound : Option (Bor (List ℕ))) (links : List Link) → bound ≡ option_or before left → option_copied before ≡ key_before (λ (link : Link). link.greatest) low None links
    → option_copied bound ≡ key_before (λ (link : Link). link.greatest) low (option_copied left) links
bound_is low before left bound links is from =
    ap option_copied is ∙ copied_either before left ∙ ap (λ (key : Option (List ℕ)). either key (option_copied left)) from ∙ before_or (λ (link : Link). link.greatest) low links (option_copied left)
  where
    copied_either : (before left : Option (Bor (List ℕ))) → option_copied (option_or before left) ≡ either (option_copied before) (option_copied left)
    copied_either None left = refl
    copied_either (Some key) left = refl
