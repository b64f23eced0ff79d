-- The entries in a range below the nodes that are opened, and how what is gathered accounts for them.
use Rattle.std.proofs.Common.{◌≡◌, ℕ, Bool, true, false, append_assoc, ◌≤◌, List, [], ◌∷◌, ◌++◌, length, map, take, drop, Option, Some, inl, inr, refl, sym, ap, subst, ◌∙◌, arith, length-append}
use Rattle.std.specs.List.{AllByRecursion}
use Rattle.std.proofs.lemmas.List.{append-nil, map-append}
use Rattle.tree_node.specs.Nodes.{AreBytes, AreRisingFrom, Binding, Link, Node, Inner, greatests_of, keys_of}
use Rattle.tree_node.specs.Trees.{below_each, entries_in, greatest_of, last_key, link_to}
use Rattle.tree_node.proofs.shared.PieceLaws.{IsSized, split_rising}
use Rattle.tree_node.proofs.shared.PieceLemmas.{join}
use Rattle.tree_node.proofs.shared.TreeKeys.{last_of}
use Rattle.tree_node.proofs.shared.TreeParts.{number_in}
use Rattle.tree_walk.specs.Choices.{AreThose}
use Rattle.tree_walk.specs.internal.Accounts.{Account, AreBelow}
use Rattle.tree_walk.specs.internal.Openings.{IsClosed, IsClosedChild, IsOpen, IsOpenNode}
use Rattle.tree_walk.specs.Spans.{children_of_all, children_placed, placed}
use Rattle.tree_walk.specs.Given.{entries_of_all}
use Rattle.tree_walk.specs.Ranges.{IsAtMost, IsCovered, IsNoHigher, Range}
use Rattle.tree_walk.specs.Walks.{IsEntryIn}
use Rattle.tree_walk.proofs.ChoiceLemmas.{those_append, those_split}
use Rattle.tree_walk.proofs.OpenChoices.{open_wider}
use Rattle.tree_walk.proofs.AccountLemmas.{stated_append, stated_cons}
use Rattle.tree_walk.proofs.BoundLemmas.{all_at_most, no_entry_in, no_higher_itself, no_higher_next}
use Rattle.tree_walk.proofs.MeetLemmas.{above_outer, covered_is_in}

-- ---- the entries below each child

-- The entries below each child are as its parent states them: their keys rise from its left bound to its greatest
-- key, and there are as many as it says.
abbrev pub AreFit : Option (List ℕ) → List Link → List (List Binding) → Type 0
AreFit left [] [] = Unit {0}
AreFit left [] (part ∷ parts) = ⊥
AreFit left (link ∷ links) [] = ⊥
AreFit left (link ∷ links) (part ∷ parts) =
    (AreRisingFrom left (keys_of part) × (last_of part ≡ link.greatest) × (length part ≡ link.number) × AllByRecursion (λ (e : Binding). AreBytes e.key) part) × AreFit (Some link.greatest) links parts

-- lists of entries with these lengths and last keys are, where all keys rise
pub fit_from : (left : Option (List ℕ)) (links : List Link) (parts : List (List Binding)) → map (length {A = Binding}) parts ≡ map number_in links → map last_of parts ≡ map (λ (l : Link). l.greatest) links
    → AllByRecursion (λ (part : List Binding). 1 ≤ length part) parts → AreRisingFrom left (keys_of (join parts)) → AllByRecursion (AllByRecursion (λ (e : Binding). AreBytes e.key)) parts → AreFit left links parts
fit_from left [] [] sizes lasts some rise bytes = tt
fit_from left [] (part ∷ parts) sizes lasts some rise bytes = absurd cc
fit_from left (l ∷ ls) [] sizes lasts some rise bytes = absurd cc
fit_from left (l ∷ ls) ([] ∷ parts) sizes lasts some rise bytes = absurd (omega (arith, some.0))
fit_from left (l ∷ ls) ((e ∷ es) ∷ parts) sizes lasts some rise bytes =
    let size : length (e ∷ es) ≡ l.number = cc in
    let last : last_of (e ∷ es) ≡ l.greatest = cc in
    let sizes_after : map (length {A = Binding}) parts ≡ map number_in ls = cc in
    let lasts_after : map last_of parts ≡ map (λ (l : Link). l.greatest) ls = cc in
    let keys : AreRisingFrom left (keys_of (e ∷ es) ++ keys_of (join parts)) = subst (λ (ks : List (List ℕ)). AreRisingFrom left ks) (map-append (λ (b : Binding). b.key) (e ∷ es) (join parts)) rise in
    let rising = split_rising left e.key (keys_of es) (keys_of (join parts)) keys in (
      (rising.0, last, size, bytes.0),
      fit_from (Some l.greatest) ls parts sizes_after lasts_after some.1 (subst (λ (k : List ℕ). AreRisingFrom (Some k) (keys_of (join parts))) last rising.1) bytes.1,
    )

-- ---- accounts

-- nothing accounts for nothing
account_none : (closing : Bool) → Account closing [] [] []
account_none closing = record { number = refl; same = λ all_open. refl }

-- what is opened accounts for more that is found
account_found : (closing : Bool) (here found all : List Binding) (closed : List (Option (List ℕ) × Link)) → Account closing closed found all → Account closing closed (here ++ found) (here ++ all)
account_found closing here found all closed is = record {
  number = omega (arith, length-append here all, length-append here found, is.number);
  same = λ all_open. ap (λ (es : List Binding). here ++ es) (is.same all_open);
}

-- a child that stays closed accounts for as many more as are stated
account_closed : (range : Range) (spot : Option (List ℕ) × Link) (here found all : List Binding) (closed : List (Option (List ℕ) × Link)) (closing : Bool) → IsClosedChild closing range spot → length here ≡ spot.1.number
    → Account closing closed found all → Account closing (spot ∷ closed) found (here ++ all)
account_closed range spot here found all closed true shut size is = record {
  number = omega (arith, length-append here all, stated_cons spot closed, size, is.number);
  same = λ all_open. absurd cc;
}
account_closed range spot here found all closed false shut size is = absurd shut

-- two parts are accounted for together
pub account_append : (closing : Bool) (c d : List (Option (List ℕ) × Link)) (found more all others : List Binding) → Account closing c found all → Account closing d more others → Account closing (c ++ d) (found ++ more) (all ++ others)
account_append closing c d found more all others first last = record {
  number = omega (arith, length-append all others, length-append found more, stated_append c d, first.number, last.number);
  same = λ all_open. ap (λ (es : List Binding). es ++ others) (first.same all_open) ∙ ap (λ (es : List Binding). found ++ es) (last.same all_open);
}

-- and so are two steps, of which the second accounts for what the first found
pub account_then : (closing : Bool) (c d : List (Option (List ℕ) × Link)) (found mid all : List Binding) → Account closing c mid all → Account closing d found mid → Account closing (c ++ d) found all
account_then closing c d found mid all first last = record {
  number = omega (arith, stated_append c d, first.number, last.number);
  same = λ all_open. first.same all_open ∙ last.same all_open;
}

-- all entries in a covered span are in the range
all_in : (range : Range) (outer left : Option (List ℕ)) (most : List ℕ) (es : List Binding) → IsCovered range outer most → IsNoHigher outer left → AreRisingFrom left (keys_of es)
    → AllByRecursion (λ (key : List ℕ). IsAtMost key most) (keys_of es) → AreThose (IsEntryIn range) es es
all_in range outer left most [] covered no_higher rise below = refl
all_in range outer left most (e ∷ es) covered no_higher rise below =
    inl (
      covered_is_in range outer most e.key covered (above_outer outer left e.key no_higher rise.0) below.0,
      (es, refl, all_in range outer (Some e.key) most es covered (no_higher_next outer left e.key no_higher rise.0) rise.1 below.1),
    )

-- no key of a child's is above its greatest key
part_up_to : (left : Option (List ℕ)) (part : List Binding) (greatest : List ℕ) → AreRisingFrom left (keys_of part) → last_of part ≡ greatest → AllByRecursion (λ (key : List ℕ). IsAtMost key greatest) (keys_of part)
part_up_to left part greatest rise last = subst (λ (k : List ℕ). AllByRecursion (λ (key : List ℕ). IsAtMost key k) (keys_of part)) last (all_at_most left (keys_of part) rise)

-- and those in a span that stays closed
closed_in : (closing : Bool) (range : Range) (left : Option (List ℕ)) (greatest : List ℕ) (es : List Binding) → IsClosed closing range left greatest → AreRisingFrom left (keys_of es) → last_of es ≡ greatest → AreThose (IsEntryIn range) es es
closed_in true range left greatest es shut rise last = all_in range left left greatest es shut (no_higher_itself left) rise (part_up_to left es greatest rise last)
closed_in false range left greatest es shut rise last = absurd shut

fit_split : (left : Option (List ℕ)) (l : Link) (ls more : List Link) (parts : List (List Binding)) → AreFit left ((l ∷ ls) ++ more) parts
    → AreFit left (l ∷ ls) (take (length (l ∷ ls)) parts) × AreFit (Some (last_key (greatests_of (l ∷ ls)))) more (drop (length (l ∷ ls)) parts)
fit_split left l ls more [] fit = absurd fit
fit_split left l [] more (p ∷ ps) fit = ((fit.0, tt), fit.1)
fit_split left l (k ∷ ls) more (p ∷ ps) fit =
    let rest = fit_split (Some l.greatest) k ls more ps fit.1 in
    ((fit.0, rest.0), rest.1)

module _ (closing : Bool) where
  -- ---- the children of one node

  -- The entries in the range below some children: those below the ones that are opened, and those of the ones that stay
  -- closed.
  pub children_account : (range : Range) (left : Option (List ℕ)) (links : List Link) (parts : List (List Binding)) (closed : List (Option (List ℕ) × Link)) (found : List Binding)
      → AreFit left links parts → AreThose (IsClosedChild closing range) (children_placed left links) closed → AreBelow closing range left links parts found
      → (all : List Binding) × AreThose (IsEntryIn range) (join parts) all × Account closing closed found all
  children_account range left [] [] closed found fit those below =
      ([], refl, subst (λ (cs : List (Option (List ℕ) × Link)). Account closing cs found []) (sym those) (subst (λ (es : List Binding). Account closing [] es []) (sym below) (account_none closing)))
  children_account range left [] (p ∷ ps) closed found fit those below = absurd fit
  children_account range left (l ∷ ls) [] closed found fit those below = absurd fit
  children_account range left (l ∷ ls) (p ∷ ps) closed found fit (inl has) (inl opened) = absurd (opened.0.1 has.0)
  children_account range left (l ∷ ls) (p ∷ ps) closed found fit (inl has) (inr shut) =
      let rest = children_account range (Some l.greatest) ls ps has.1.0 found fit.1 has.1.2 shut.1 in (
        p ++ rest.0,
        those_append (IsEntryIn range) p (join ps) p rest.0 (closed_in closing range left l.greatest p has.0 fit.0.0 fit.0.1) rest.1,
        subst (λ (cs : List (Option (List ℕ) × Link)). Account closing cs found (p ++ rest.0)) (sym has.1.1) (account_closed range (left, l) p found rest.0 has.1.0 closing has.0 fit.0.2 rest.2),
      )
  children_account range left (l ∷ ls) (p ∷ ps) closed found fit (inr hasnt) (inl opened) =
      let rest = children_account range (Some l.greatest) ls ps closed opened.1.1 fit.1 hasnt.1 opened.1.4 in (
        opened.1.0 ++ rest.0,
        those_append (IsEntryIn range) p (join ps) opened.1.0 rest.0 opened.1.3 rest.1,
        subst (λ (es : List Binding). Account closing closed es (opened.1.0 ++ rest.0)) (sym opened.1.2) (account_found closing opened.1.0 opened.1.1 rest.0 closed rest.2),
      )
  children_account range left (l ∷ ls) (p ∷ ps) closed found fit (inr hasnt) (inr shut) =
      let rest = children_account range (Some l.greatest) ls ps closed found fit.1 hasnt.1 shut.1 in
      let here = no_entry_in range left left l.greatest p (λ meets. shut.0 (meets, hasnt.0)) (no_higher_itself left) fit.0.0 (part_up_to left p l.greatest fit.0.0 fit.0.1) fit.0.3 in
      (rest.0, those_append (IsEntryIn range) p (join ps) [] rest.0 here rest.1, rest.2)

  -- ---- the children of some nodes

  -- below children that have others after them
  below_split : (range : Range) (left : Option (List ℕ)) (l : Link) (ls more : List Link) (parts : List (List Binding)) (found : List Binding) → AreBelow closing range left ((l ∷ ls) ++ more) parts found
      → (first last : List Binding) × (found ≡ first ++ last) × AreBelow closing range left (l ∷ ls) (take (length (l ∷ ls)) parts) first × AreBelow closing range (Some (last_key (greatests_of (l ∷ ls)))) more (drop (length (l ∷ ls)) parts) last
  below_split range left l ls more [] found is = absurd is
  below_split range left l [] more (p ∷ ps) found (inl opened) =
      (opened.1.0, opened.1.1, opened.1.2, inl (opened.0, (opened.1.0, [], sym (append-nil opened.1.0), opened.1.3, refl)), opened.1.4)
  below_split range left l [] more (p ∷ ps) found (inr shut) = ([], found, refl, inr (shut.0, refl), shut.1)
  below_split range left l (k ∷ ls) more (p ∷ ps) found (inl opened) =
      let rest = below_split range (Some l.greatest) k ls more ps opened.1.1 opened.1.4 in
      let e : found ≡ (opened.1.0 ++ rest.0) ++ rest.1 = opened.1.2 ∙ ap (λ (es : List Binding). opened.1.0 ++ es) rest.2 ∙ sym (append_assoc opened.1.0 rest.0 rest.1) in
      (opened.1.0 ++ rest.0, rest.1, e, inl (opened.0, (opened.1.0, rest.0, refl, opened.1.3, rest.3)), rest.4)
  below_split range left l (k ∷ ls) more (p ∷ ps) found (inr shut) =
      let rest = below_split range (Some l.greatest) k ls more ps found shut.1 in
      (rest.0, rest.1, rest.2, inr (shut.0, rest.3), rest.4)

  -- below the children of a node that isn't opened there is none
  none_below : (range : Range) (outer left : Option (List ℕ)) (most : List ℕ) (links : List Link) (parts : List (List Binding)) (found : List Binding) → (¬ IsOpen closing range outer most) → IsNoHigher outer left → AreRisingFrom left (greatests_of links)
      → AllByRecursion (λ (key : List ℕ). IsAtMost key most) (greatests_of links) → AreBelow closing range left links parts found → found ≡ []
  none_below range outer left most [] parts found shut no_higher rise below is = is
  none_below range outer left most (l ∷ ls) [] found shut no_higher rise below is = absurd is
  none_below range outer left most (l ∷ ls) (p ∷ ps) found shut no_higher rise below (inl opened) = absurd (shut (open_wider closing range left outer l.greatest most opened.0 no_higher rise.0 below.0))
  none_below range outer left most (l ∷ ls) (p ∷ ps) found shut no_higher rise below (inr too) =
      none_below range outer (Some l.greatest) most ls ps found shut (no_higher_next outer left l.greatest no_higher rise.0) rise.1 below.1 too.1

  -- The entries in the range below the nodes of a level that are opened: those below their children that are opened,
  -- and those of their children that stay closed.
  pub nodes_account : (range : Range) (tree level : ℕ) (left : Option (List ℕ)) (ps : List (List Link)) (parts : List (List Binding)) (spots : List (Option (List ℕ) × Node)) (closed : List (Option (List ℕ) × Link)) (found : List Binding)
      → AllByRecursion IsSized ps → AreRisingFrom left (greatests_of (join ps)) → AreFit left (join ps) parts → AreThose (IsOpenNode closing range) (placed greatest_of left (map (Inner tree level) ps)) spots
      → AreThose (IsClosedChild closing range) (children_of_all spots) closed → AreBelow closing range left (join ps) parts found
      → (all : List Binding) × AreBelow closing range left (map link_to (map (Inner tree level) ps)) (below_each (map (Inner tree level) ps) parts) all × Account closing closed found all
  nodes_account range tree level left [] parts spots closed found sized rise fit those closes below =
      let none : closed ≡ [] = subst (λ (ss : List (Option (List ℕ) × Node)). AreThose (IsClosedChild closing range) (children_of_all ss) closed) those closes in
      ([], refl, subst (λ (cs : List (Option (List ℕ) × Link)). Account closing cs found []) (sym none) (subst (λ (es : List Binding). Account closing [] es []) (sym below) (account_none closing)))
  nodes_account range tree level left ([] ∷ ps) parts spots closed found sized rise fit those closes below = absurd (omega (arith, sized.0.0))
  nodes_account range tree level left ((l ∷ ls) ∷ ps) parts spots closed found sized rise fit those closes below =
      let last : List ℕ = last_key (greatests_of (l ∷ ls)) in
      let n : ℕ = length (l ∷ ls) in
      let keys : AreRisingFrom left (greatests_of (l ∷ ls) ++ greatests_of (join ps)) = subst (λ (ks : List (List ℕ)). AreRisingFrom left ks) (map-append (λ (c : Link). c.greatest) (l ∷ ls) (join ps)) rise in
      let rising = split_rising left l.greatest (greatests_of ls) (greatests_of (join ps)) keys in
      let fits = fit_split left l ls (join ps) parts fit in
      let halves = below_split range left l ls (join ps) parts found below in
      elim those [
        | inl met ↦
            let every : AreThose (IsClosedChild closing range) (children_placed left (l ∷ ls) ++ children_of_all met.1.0) closed =
            subst (λ (ss : List (Option (List ℕ) × Node)). AreThose (IsClosedChild closing range) (children_of_all ss) closed) met.1.1 closes in
            let split = those_split (IsClosedChild closing range) (children_placed left (l ∷ ls)) (children_of_all met.1.0) closed every in
            let here = children_account range left (l ∷ ls) (take n parts) split.0 halves.0 fits.0 split.3 halves.3 in
            let after = nodes_account range tree level (Some last) ps (drop n parts) met.1.0 split.1 halves.1 sized.1 rising.1 fits.1 met.1.2 split.4 halves.4 in
            let both = account_append closing split.0 split.1 halves.0 halves.1 here.0 after.0 here.2 after.2 in (
              here.0 ++ after.0,
              inl (met.0, (here.0, after.0, refl, here.1, after.1)),
              subst (λ (cs : List (Option (List ℕ) × Link)). Account closing cs found (here.0 ++ after.0)) (sym split.2)
                  (subst (λ (es : List Binding). Account closing (split.0 ++ split.1) es (here.0 ++ after.0)) (sym halves.2) both),
            )
        | inr unmet ↦
            let none_here = none_below range left left last (l ∷ ls) (take n parts) halves.0 unmet.0 (no_higher_itself left) rising.0 (all_at_most left (greatests_of (l ∷ ls)) rising.0) halves.3 in
            let after = nodes_account range tree level (Some last) ps (drop n parts) spots closed halves.1 sized.1 rising.1 fits.1 unmet.1 closes halves.4 in
            let same : found ≡ halves.1 = halves.2 ∙ ap (λ (es : List Binding). es ++ halves.1) none_here in
            (after.0, inr (unmet.0, after.1), subst (λ (es : List Binding). Account closing closed es after.0) (sym same) after.2)
      ]

  -- the entries in the range below the leaves that are opened are those that are found there
  pub leaves_below : (range : Range) (left : Option (List ℕ)) (nodes : List Node) (spots : List (Option (List ℕ) × Node)) (found : List Binding)
      → AreThose (IsOpenNode closing range) (placed greatest_of left nodes) spots → AreThose (IsEntryIn range) (entries_of_all spots) found → AreBelow closing range left (map link_to nodes) (map entries_in nodes) found
  leaves_below range left [] spots found those are =
      subst (λ (ss : List (Option (List ℕ) × Node)). AreThose (IsEntryIn range) (entries_of_all ss) found) those are
  leaves_below range left (n ∷ ns) spots found (inl met) are =
      let every : AreThose (IsEntryIn range) (entries_in n ++ entries_of_all met.1.0) found = subst (λ (ss : List (Option (List ℕ) × Node)). AreThose (IsEntryIn range) (entries_of_all ss) found) met.1.1 are in
      let split = those_split (IsEntryIn range) (entries_in n) (entries_of_all met.1.0) found every in
      inl (met.0, (split.0, split.1, split.2, split.3, leaves_below range (Some (greatest_of n)) ns met.1.0 split.1 met.1.2 split.4))
  leaves_below range left (n ∷ ns) spots found (inr unmet) are = inr (unmet.0, leaves_below range (Some (greatest_of n)) ns spots found unmet.1 are)
