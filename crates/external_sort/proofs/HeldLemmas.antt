-- What a sorter holds, and what is given.
use Rattle.std.proofs.Common.{◌≡◌, ◌∙◌, sym, ap, subst, refl, inl, inr, ℕ, ◌+◌, ◌-◌, ◌<◌, ◌≤◌, ◌⊎◌, nat_lt, Bool, true, false, cond, List, [], ◌∷◌, ◌++◌, length, get_or, drop, arith, append_assoc, Some, Ok, Err, IfOk, Result, slice_get}
use Rattle.std.specs.List.{flat_map}
use Rattle.std.specs.List.Sorted.{IsPermutation}
use Rattle.std.proofs.lemmas.List.{append-nil, drop_all, drop_more, nil_from_length}
use Rattle.std.proofs.lemmas.Option.{slice_get-get_or}
use Rattle.std.proofs.lemmas.List.Concat.{flat_map-append}
use Rattle.std.proofs.lemmas.List.Sorted.{IsPermutation-append_left, IsPermutation-append_right, IsPermutation-trans, length_permutation}
use Rattle.external_sort.specs.Records.{Entry, Rises, entry}
use Rattle.external_sort.specs.Sorting.{Gives, GoesOn, current}
use Rattle.external_sort.specs.internal.Merging.{Begins, Goes, IsMerging, at}
use Rattle.external_sort.specs.internal.Reading.{head}
use Rattle.external_sort.specs.declared.fault.SortFault.{SortFault}
use Rattle.external_sort.specs.declared.merge.Merge.{Merge}
use Rattle.external_sort.specs.declared.sorted.Sorted.{Sorted}

abbrev joined : List (List Entry) → List Entry
joined kept = flat_map (λ es. es) kept

-- the records in memory are written as a run
pub written : (kept : List (List Entry)) (batch es after records : List Entry) → IsPermutation records (flat_map (λ fs. fs) kept ++ batch) → IsPermutation batch es → after ≡ [] → IsPermutation records (flat_map (λ fs. fs) (kept ++ es ∷ []) ++ after)
written kept batch es after records all perm none =
    let moved = IsPermutation-trans records (joined kept ++ batch) (joined kept ++ es) all (IsPermutation-append_right (joined kept) batch es perm) in
    let same : joined (kept ++ es ∷ []) ++ after ≡ joined kept ++ es =
    ap (λ (l : List Entry). joined (kept ++ es ∷ []) ++ l) none ∙ append-nil (joined (kept ++ es ∷ [])) ∙ flat_map-append (λ (fs : List Entry). fs) kept (es ∷ []) ∙ ap (λ (l : List Entry). joined kept ++ l) (append-nil es) in
    subst (λ (l : List Entry). IsPermutation records l) (sym same) moved

-- one record more is taken
pub taken : (kept : List (List Entry)) (batch after records : List Entry) (e : Entry) → IsPermutation records (flat_map (λ fs. fs) kept ++ batch) → after ≡ batch ++ e ∷ [] → IsPermutation (records ++ e ∷ []) (flat_map (λ fs. fs) kept ++ after)
taken kept batch after records e all is =
    let more = IsPermutation-append_left (e ∷ []) records (joined kept ++ batch) all in
    subst (λ (l : List Entry). IsPermutation (records ++ e ∷ []) l) (append_assoc (joined kept) batch (e ∷ []) ∙ ap (λ (l : List Entry). joined kept ++ l) (sym is)) more

-- the records in memory are sorted
pub settled : (kept : List (List Entry)) (batch after records : List Entry) → IsPermutation records (flat_map (λ fs. fs) kept ++ batch) → IsPermutation batch after → IsPermutation records (flat_map (λ fs. fs) kept ++ after)
settled kept batch after records all perm = IsPermutation-trans records (joined kept ++ batch) (joined kept ++ after) all (IsPermutation-append_right (joined kept) batch after perm)

-- ---- what is given

module _ {S : Type 0} (runs : S → List (List ℕ)) where
  pub gives : (s : Sorted S) (merge : Merge S) (kept : List (List Entry)) (batch records : List Entry)
      → IsPermutation records (flat_map (λ fs. fs) kept ++ batch) → ((kept ≡ []) × Rises batch) ⊎ (batch ≡ []) → Begins runs merge kept
      → s.batch ≡ batch → s.given ≡ 0 → s.merge ≡ merge
      → (given : List Entry) × IsPermutation records given × Rises given × Gives runs s given
  gives s merge kept batch records all (inl (none, rise)) b batch_is given_is merge_is =
      let empty : joined kept ≡ [] = ap joined none in
      let merged : b.records ≡ [] = nil_from_length b.records (length_permutation (joined kept) b.records b.permutation ∙ ap length empty) in
      let left : drop s.given s.batch ++ b.records ≡ batch =
      ap (λ (n : ℕ). drop n s.batch ++ b.records) given_is ∙ ap (λ (l : List Entry). l ++ b.records) batch_is ∙ ap (λ (l : List Entry). batch ++ l) merged ∙ append-nil batch in (
        batch,
        subst (λ (l : List Entry). IsPermutation records (l ++ batch)) empty all,
        rise,
        record {
          merged = b.records;
          all = sym left;
          merging = subst (λ (m : Merge S). IsMerging runs m b.records) (sym merge_is) b.merging;
          within = omega (arith, given_is);
        },
      )
  gives s merge kept batch records all (inr none) b batch_is given_is merge_is =
      let whole : joined kept ++ batch ≡ joined kept = ap (λ (l : List Entry). joined kept ++ l) none ∙ append-nil (joined kept) in
      let left : drop s.given s.batch ++ b.records ≡ b.records =
      ap (λ (n : ℕ). drop n s.batch ++ b.records) given_is ∙ ap (λ (l : List Entry). l ++ b.records) (batch_is ∙ none) in (
        b.records,
        IsPermutation-trans records (joined kept) b.records (subst (λ (l : List Entry). IsPermutation records l) whole all) b.permutation,
        b.rises,
        record {
          merged = b.records;
          all = sym left;
          merging = subst (λ (m : Merge S). IsMerging runs m b.records) (sym merge_is) b.merging;
          within = omega (arith, given_is);
        },
      )

  -- the next record is in memory
  pub goes_memory : (s : Sorted S) (records : List Entry) → Gives runs s records → s.given < length s.batch → GoesOn runs true (record s { given = s.given + 1 }) records
  goes_memory s records h lt =
      let d : Entry = entry [] [] in
      let e : Entry = get_or s.batch s.given d in
      let split : records ≡ e ∷ (drop (s.given + 1) s.batch ++ h.merged) = h.all ∙ ap (λ (l : List Entry). l ++ h.merged) (drop_more s.batch s.given d lt) in
      let some : nat_lt 0 (s.given + 1) ≡ true = grind arith in
      let back : s.given + 1 - 1 ≡ s.given = omega arith in
      let shown : current (record s { given = s.given + 1 }) ≡ Some e =
      ap (λ (b : Bool). cond b (slice_get s.batch (s.given + 1 - 1)) (at s.merge.current)) some ∙ ap (λ (n : ℕ). slice_get s.batch n) back ∙ slice_get-get_or s.batch s.given d lt in
      (e, drop (s.given + 1) s.batch ++ h.merged, split, shown, record { merged = h.merged; all = refl; merging = h.merging; within = omega (arith, lt) })

  -- it is in a run, or there is none
  pub goes_merge : (s : Sorted S) (batch : List Entry) (merge : Merge S) (r : Result Bool SortFault) → length s.batch ≤ s.given → batch ≡ []
      → IfOk r (λ more. (records : List Entry) → IsMerging runs s.merge records → Goes runs more merge records)
      → IfOk r (λ more. (records : List Entry) → Gives runs s records → GoesOn runs more (record { batch = batch; given = 0; merge = merge }) records)
  goes_merge s batch merge (Err f) past none go = tt
  goes_merge s batch merge (Ok true) past none go = λ records h.
      let all : records ≡ h.merged = h.all ∙ ap (λ (l : List Entry). l ++ h.merged) (drop_all s.given s.batch past) in
      let (r, left, split, shown, merging) = go h.merged h.merging in (
        head r,
        left,
        all ∙ split,
        ap at shown,
        record { merged = left; all = sym (ap (λ (l : List Entry). l ++ left) none); merging = merging; within = omega arith },
      )
  goes_merge s batch merge (Ok false) past none go = λ records h.
      h.all ∙ ap (λ (l : List Entry). l ++ h.merged) (drop_all s.given s.batch past) ∙ go h.merged h.merging
