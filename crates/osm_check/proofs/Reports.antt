-- What a report counts, of the walks over the nodes of a proof.
use Rattle.std.proofs.Common.{◌≡◌, ◌≢◌, ◌⊎◌, inl, inr, ℕ, zero, suc, ◌+◌, ◌*◌, ◌-◌, ◌^◌, ◌<◌, ◌≤◌, min, List, [], ◌∷◌, ◌++◌, length, slice_index_or, refl, sym, subst, ◌∙◌, arith}
use Rattle.std.proofs.lemmas.Bool.{cases_lt}
use Rattle.std.specs.List.{AllByRecursion, Contains}
use Rattle.tree_node.specs.Digests.{digest}
use Rattle.tree_node.specs.Order.{IsBelow}
use Rattle.tree_node.specs.Shelves.{IsEmptySet, SameNodes}
use Rattle.tree_node.specs.internal.OrderLemmas.{not_itself}
use Rattle.tree_node.proofs.shared.OutcomeLaws.{Nodes, uses}
use Rattle.tree_walk.specs.Fetches.{AreDifferent, IsAmong, IsNodeText, counted_up}
use Rattle.tree_walk.specs.Walked.{HasWalked, fetched_in}
use Rattle.tree_walk.proofs.shared.WalkedLaws.{at_most, different_fit, no_node_text, without}
use Rattle.osm_keys.specs.Manifests.{manifest, manifest_bytes}
use Rattle.osm_keys.specs.declared.manifest.Manifest.{Manifest}
use Rattle.ql_eval.specs.declared.evaluation.Report.{Report}
use Rattle.osm_prove.specs.Proofs.{AreRising, FitsProof}
use Rattle.osm_check.specs.Verdicts.{IsReport}

-- ---- lists of nodes

pub among : (nodes : List (List ℕ)) (x : List ℕ) → Contains nodes x → IsAmong nodes x
among [] x (k, lt, is) = absurd (omega (arith, lt))
among (n ∷ ns) x (zero, lt, is) = inl (sym is)
among (n ∷ ns) x (suc k, lt, is) = inr (among ns x (k, omega (arith, lt), is))

pub contains : (nodes : List (List ℕ)) (x : List ℕ) → IsAmong nodes x → Contains nodes x
contains [] x none = absurd none
contains (n ∷ ns) x (inl e) = (zero, omega arith, sym e)
contains (n ∷ ns) x (inr is) = let c = contains ns x is in (suc c.0, omega (arith, c.1), c.2)

-- nodes whose digests rise are different ones
pub rising_differ : (nodes : List (List ℕ)) → AreRising nodes → AreDifferent nodes
rising_differ [] rising = tt
rising_differ (n ∷ ns) rising = (
  (λ is. let c = contains ns n is in not_itself (digest n) (digest n) (later c.0 c.1 c.2) refl),
  rising_differ ns (λ i j d lt ltj. rising (suc i) (suc j) d (omega (arith, lt)) (omega (arith, ltj))),
)
  where
    later : (k : ℕ) → k < length ns → slice_index_or ns k n ≡ n → IsBelow (digest n) (digest n)
    later k lt is = subst (λ (x : List ℕ). IsBelow (digest n) (digest x)) is (rising zero (suc k) n (omega arith) (omega (arith, lt)))

-- ---- counts of 64 bits

pub counted_is : (n : ℕ) → counted_up 0 n ≡ min n (2 ^ 64 - 1)
counted_is zero = omega arith
counted_is (suc n) = omega (arith, counted_is n)

-- a product of counts is no less than the count of a product
most_counted : (a b m : ℕ) → a ≤ b * m → counted_up 0 a ≤ counted_up 0 b * m
most_counted a b m fits = rw (counted_is a) (rw (counted_is b) (capped_product a b m fits))
  where
    product_up : (c m : ℕ) → c ≤ c * suc m
    product_up c m = omega arith

    capped_product : (a b m : ℕ) → a ≤ b * m → min a (2 ^ 64 - 1) ≤ min b (2 ^ 64 - 1) * m
    capped_product a b zero fits = omega (arith, fits)
    capped_product a b (suc m) fits = elim (cases_lt (2 ^ 64 - 1) b) [
      | inr small ↦ (let e : min b (2 ^ 64 - 1) ≡ b = omega (arith, small) in rw e (omega (arith, fits)))
      | inl big ↦ (let e : min b (2 ^ 64 - 1) ≡ 2 ^ 64 - 1 = omega (arith, big) in rw e (let h = product_up (2 ^ 64 - 1) m in omega (arith, h)))
    ]

-- ---- walks over the nodes of a proof

-- a manifest is no node of a tree
manifest_is_none : (found : Manifest) → ¬ IsNodeText (manifest_bytes found)
unfolding manifest
manifest_is_none found = no_node_text 79 _ (omega arith)

pub report_is : (nodes : List (List ℕ)) (report : Report) (found : Manifest) (held old new : Nodes) → FitsProof nodes → AreRising nodes → SameNodes held (Contains nodes)
    → IsEmptySet old → held (manifest_bytes found) → ((x : List ℕ) → held x → new x)
    → HasWalked (uses held (λ x. old x ⊎ (x ≡ manifest_bytes found)) new) 0 report.ranges 0 report.fetched → IsReport nodes report
report_is nodes report found held old new fits rising same empty is_held all walked = record {
  walks = walked.walks;
  ranges = walked.called;
  fetched = walked.fetched.counted;
  each = each_within walked.walks walked.fetched.all_held walked.each;
  least = subst (λ (n : ℕ). length nodes ≤ n + 1) (sym (walked.fetched.counted ∙ counted_is _)) (omega (arith, fits.few, covered));
  most = rw walked.called (rw walked.fetched.counted (rw fewer (most_counted _ _ _ bounded)));
}
  where
    is_in : (x : List ℕ) → held x → IsAmong nodes x
    is_in x h = among nodes x ((same x).1 h)

    -- each node is the manifest or was fetched
    covered : length nodes ≤ suc (length (fetched_in walked.walks))
    covered = different_fit nodes (manifest_bytes found ∷ fetched_in walked.walks) (rising_differ nodes rising) (λ x is.
        elim ((walked.fetched.gained x).0 (all x ((same x).0 (contains nodes x is)))) [
          | inl before ↦ elim before [ inl old_one ↦ absurd (empty x old_one) | inr e ↦ inl e ]
          | inr fetched ↦ inr fetched
        ])

    -- those but the manifest
    others : (zs : List (List ℕ)) × (length nodes ≡ suc (length zs)) × ((y : List ℕ) → IsAmong nodes y → y ≢ manifest_bytes found → IsAmong zs y)
    others = without nodes (manifest_bytes found) (is_in (manifest_bytes found) is_held)

    bounded : length (fetched_in walked.walks) ≤ length walked.walks * length others.0
    bounded = at_most held others.0 walked.walks
        (λ x h is_node. others.2 x (is_in x h) (λ e. manifest_is_none found (subst IsNodeText e is_node))) walked.fetched.all_held walked.each

    fewer : length nodes - 1 ≡ length others.0
    fewer = omega (arith, others.1)

    all_first : (xs ys : List (List ℕ)) → AllByRecursion held (xs ++ ys) → AllByRecursion held xs × AllByRecursion held ys
    all_first [] ys h = (tt, h)
    all_first (x ∷ xs) ys h = let rest = all_first xs ys h.1 in ((h.0, rest.0), rest.1)

    held_of : (xs : List (List ℕ)) (x : List ℕ) → AllByRecursion held xs → IsAmong xs x → held x
    held_of [] x h none = absurd none
    held_of (y ∷ ys) x h (inl e) = subst held (sym e) h.0
    held_of (y ∷ ys) x h (inr is) = held_of ys x h.1 is

    each_within : (walks : List (List (List ℕ))) → AllByRecursion held (fetched_in walks) → AllByRecursion (λ (walk : List (List ℕ)). AreDifferent walk × AllByRecursion IsNodeText walk) walks
        → AllByRecursion (λ (walk : List (List ℕ)). length walk ≤ length nodes) walks
    each_within [] h each = tt
    each_within (walk ∷ walks) h each =
        let parts = all_first walk (fetched_in walks) h in
        (different_fit walk nodes each.0.0 (λ x is. is_in x (held_of walk x parts.0 is)), each_within walks parts.1 each.1)
